-- Users who join in turn have at most one seat each, and each of them has an account.
use Rattle.std.proofs.Common.{
  ◌≡◌,
  ℕ,
  zero,
  suc,
  ◌+◌,
  ◌<◌,
  ◌≤◌,
  true,
  false,
  List,
  [],
  ◌∷◌,
  ◌++◌,
  length,
  take,
  get_or,
  refl,
  sym,
  ap,
  subst,
  ◌∙◌,
  arith,
}
use Rattle.std.specs.Prelude.{◌||◌, Option, Some, None}
use Rattle.std.specs.List.{list_any}
use Rattle.std.proofs.lemmas.Bool.{both_ways, false≢true, false_from_ne_true}
use Rattle.std.proofs.lemmas.List.{append-nil, map_more, take_all}
use Rattle.std.proofs.lemmas.List.Folds.{list_any-append}
use Rattle.disclosure_rules.specs.declared.seat.Seat.{Seat}
use Rattle.session_roles.specs.declared.edition.Edition.{Edition}
use Rattle.rbac.specs.Account.{same_name}
use Rattle.rbac.specs.RoleData.{RoleData}
use Rattle.rbac.specs.declared.account.Account.{Account}
use Rattle.rbac.proofs.AccountLemmas.{same_name_decides}
use Rattle.rbac.proofs.ListLemmas.{distinct_none}
use Rattle.session_opening.specs.declared.new_user.NewUser.{NewUser}
use Rattle.session_state.specs.declared.seated.Seated.{Seated}
use Rattle.session_state.specs.Accounts.{has_account}
use Rattle.session_opening.specs.Joining.{JoinInTurn, with_user}
use Rattle.session_opening.specs.NewUser.{account_of}
use Rattle.session_opening.specs.Opening.{opening_roles, opening_seats}
use Rattle.session_state.specs.Seats.{has_seat, same_user, AreSeated}
use Rattle.session_opening.proofs.OpeningLemmas.{seats_more}
use Rattle.session_state.proofs.SeatLemmas.{one_more_sits, still_seated}

-- one user more, who sits or doesn't
module _ (roles : RoleData) (seats : List Seated) (user : NewUser) (are : AreSeated roles seats)
    (new : has_account roles user.name ≡ false) where
  still_there : (name : List ℕ) → has_account roles name ≡ true → has_account (with_user roles user) name ≡ true
  still_there name there =
      list_any-append (λ (account : Account). same_name account.name name) roles.accounts (account_of user ∷ [])
      ∙ ap (λ b. b || list_any (λ (account : Account). same_name account.name name) (account_of user ∷ [])) there

  there_now : has_account (with_user roles user) user.name ≡ true
  there_now =
      list_any-append (λ (account : Account). same_name account.name user.name) roles.accounts (account_of user ∷ [])
      ∙ ap (λ b. b || (same_name user.name user.name || false)) new
      ∙ ap (λ b. b || false) ((same_name_decides user.name user.name).1 refl)

  by_seat : (seat : Option Seat) → AreSeated (with_user roles user)
      (seats ++ opening_seats ((record user { seat = seat }) ∷ []))
  by_seat None =
      subst (AreSeated (with_user roles user)) (sym (append-nil seats)) (still_seated roles (with_user roles user) seats
      are still_there)
  by_seat (Some seat) =
      one_more_sits (with_user roles user) seats (record { name = user.name; seat = seat })
      (still_seated roles (with_user roles user) seats are still_there) there_now
      (false_from_ne_true (has_seat seats user.name) (λ sits. both_ways _ new (are.users user.name sits)))

  user_seated : AreSeated (with_user roles user) (seats ++ opening_seats (user ∷ []))
  user_seated = by_seat user.seat

nobody_seated : (edition : Edition) → AreSeated (opening_roles edition []) []
nobody_seated edition = record { once = distinct_none same_user; users = λ name sits. absurd (false≢true sits) }

seated_so_far : (edition : Edition) (first : NewUser) (rest : List NewUser) → JoinInTurn edition (first ∷ rest) →
    (n : ℕ) → n ≤ length (first ∷ rest) →
    AreSeated (opening_roles edition (take n (first ∷ rest))) (opening_seats (take n (first ∷ rest)))
seated_so_far edition first rest join zero within = nobody_seated edition
seated_so_far edition first rest join (suc n) within =
    let all : List NewUser = first ∷ rest in
    let below : n < length all = omega (arith, within) in
    let user : NewUser = get_or all n first in
    let more = user_seated (opening_roles edition (take n all)) (opening_seats (take n all)) user
    (seated_so_far edition first rest join n (omega (arith, within))) (join n first below).new in
    let roles : with_user (opening_roles edition (take n all)) user ≡ opening_roles edition (take (n + 1) all) =
    ap (λ accounts. record (opening_roles edition []) { accounts = accounts })
    (sym (map_more account_of all n first below)) in
    let next : n + 1 ≡ suc n = omega arith in
    subst (λ k. AreSeated (opening_roles edition (take k all)) (opening_seats (take k all))) next
    (subst (AreSeated (opening_roles edition (take (n + 1) all))) (seats_more all n first below)
    (subst (λ roles. AreSeated roles (opening_seats (take n all) ++ opening_seats (user ∷ []))) roles more))

pub users_seated : (edition : Edition) (users : List NewUser) → JoinInTurn edition users →
    AreSeated (opening_roles edition users) (opening_seats users)
users_seated edition [] join = nobody_seated edition
users_seated edition (first ∷ rest) join =
    subst (λ users. AreSeated (opening_roles edition users) (opening_seats users))
    (take_all (length (first ∷ rest)) (first ∷ rest) (omega arith))
    (seated_so_far edition first rest join (length (first ∷ rest)) (omega arith))
