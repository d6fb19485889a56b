-- The first cause not to open a session, and what holds where there is none.
use Rattle.std.proofs.Common.{
  ◌≡◌,
  ℕ,
  ◌+◌,
  ◌<◌,
  ◌≤◌,
  Bool,
  true,
  false,
  zero,
  suc,
  List,
  [],
  ◌∷◌,
  ◌++◌,
  map,
  length,
  take,
  drop,
  get_or,
  refl,
  sym,
  ap,
  subst,
  ◌∙◌,
  arith,
  length-take-le,
  inl,
  inr,
}
use Rattle.std.specs.Prelude.{Option, Some, None, not, is_some, nat_le, find, ◌||◌}
use Rattle.std.specs.Bool.{then_some}
use Rattle.std.specs.List.{list_any, cons_option}
use Rattle.std.specs.Option.{option_or, option_map}
use Rattle.std.proofs.lemmas.Bool.{false≢true, cases_lt, le-leb}
use Rattle.std.proofs.lemmas.List.{drop_more, take_more, append-nil, append_assoc, length-map}
use Rattle.movement.specs.Movement.{Section}
use Rattle.rbac.specs.Account.{most_users, is_user_name, same_name}
use Rattle.rbac.specs.Authorization.{reached}
use Rattle.rbac.specs.Inheritance.{opening_pairs}
use Rattle.session_roles.specs.declared.edition.Edition.{Edition}
use Rattle.session_roles.specs.Role.{has}
use Rattle.session_roles.specs.declared.role.Role.TheVariants.{Administrator}
use Rattle.disclosure_rules.specs.declared.seat.Seat.{Seat}
use Rattle.session_state.specs.declared.seated.Seated.{Seated}
use Rattle.session_roles.specs.Separation.{separation_sets, has_both}
use Rattle.session_roles.specs.declared.separation_set.SeparationSet.{SeparationSet}
use Rattle.session_opening.specs.declared.config.Config.{Config}
use Rattle.session_opening.specs.declared.new_user.NewUser.{NewUser}
use Rattle.session_opening.specs.declared.opening_refusal.OpeningRefusal.{OpeningRefusal}
use Rattle.session_opening.specs.declared.opening_refusal.OpeningRefusal.TheVariants.{
  BadName,
  UserExists,
  TooManyUsers,
  NoSuchRole,
  AlreadyAssigned,
  Separation,
  LastAdministrator,
}
use Rattle.session_state.specs.Accounts.{has_account, has_administrator}
use Rattle.session_opening.specs.Joining.{MayJoin, JoinInTurn}
use Rattle.session_opening.specs.NewUser.{
  account_of,
  new_seated,
  repeats,
  knows_roles,
  authorized_at_opening,
}
use Rattle.session_opening.specs.Opening.{opening_roles, opening_seats}
use Rattle.session_opening.specs.OpeningRefusal.{
  account_causes,
  seat_causes,
  user_causes,
  users_causes,
  opening_refusal,
}
use Rattle.session_state.specs.Refusal.{first_cause}
use Rattle.session_state.specs.Seats.{same_seat, is_taken}

-- the first of two lists is the first of the one or, where that has none, of the other
pub first_append : {C : Type 0} (xs ys : List (Option C)) → first_cause (xs ++ ys) ≡ option_or (first_cause xs)
    (first_cause ys)
first_append [] ys = refl
first_append (None ∷ xs) ys = first_append xs ys
first_append (Some cause ∷ xs) ys = refl

pub or_none : {C : Type 0} (found : Option C) → option_or found None ≡ found
or_none None = refl
or_none (Some cause) = refl

pub none_parts : {C : Type 0} (found rest : Option C) → option_or found rest ≡ None → (found ≡ None) × (rest ≡ None)
none_parts (Some cause) rest none = absurd cc
none_parts None rest none = (refl, none)

-- where the first list has a cause, it is the first; where it has none, the first of the other is
pub found_first : {C : Type 0} (xs ys : List (Option C)) (found : Option C) → found ≡ first_cause xs →
    is_some found ≡ true → first_cause (xs ++ ys) ≡ found
found_first xs ys None is some = absurd (false≢true some)
found_first xs ys (Some cause) is some = first_append xs ys ∙ ap (λ found. option_or found (first_cause ys)) (sym is)

pub found_later : {C : Type 0} (xs ys : List (Option C)) (found : Option C) → found ≡ first_cause xs →
    is_some found ≡ false → first_cause (xs ++ ys) ≡ first_cause ys
found_later xs ys (Some cause) is some = absurd (false≢true (sym some))
found_later xs ys None is some = first_append xs ys ∙ ap (λ found. option_or found (first_cause ys)) (sym is)

-- the causes of the users from a place on
abbrev pub causes_on : Edition → Section → List NewUser → ℕ → List (Option OpeningRefusal)
causes_on edition movement users place = users_causes edition movement (take place users) (drop place users)

-- the user at a place, and those after it
pub causes_more : (edition : Edition) (movement : Section) (users : List NewUser) (place : ℕ) (d : NewUser) →
    place < length users →
    causes_on edition movement users place ≡ user_causes edition movement (take place users) (get_or users place d)
    ++ causes_on edition movement users (place + 1)
causes_more edition movement users place d within =
    ap (users_causes edition movement (take place users)) (drop_more users place d within)
    ∙ ap (λ before. user_causes edition movement (take place users) (get_or users place d)
    ++ users_causes edition movement before (drop (place + 1) users)) (sym (take_more users place d within))

-- where the users meet no cause, none of them meets one
none_of_each : (edition : Edition) (movement : Section) (before users : List NewUser) →
    first_cause (users_causes edition movement before users) ≡ None → (k : ℕ) (d : NewUser) → k < length users →
    first_cause (user_causes edition movement (before ++ take k users) (get_or users k d)) ≡ None
none_of_each edition movement before [] none k d within = absurd (omega arith)
none_of_each edition movement before (user ∷ users) none zero d within =
    ap (λ list. first_cause (user_causes edition movement list user)) (append-nil before)
    ∙ (none_parts _ _
    (sym (first_append (user_causes edition movement before user)
    (users_causes edition movement (before ++ user ∷ []) users)) ∙ none)).0
none_of_each edition movement before (user ∷ users) none (suc k) d within =
    ap (λ list. first_cause (user_causes edition movement list (get_or users k d)))
    (sym (append_assoc before (user ∷ []) (take k users)))
    ∙ none_of_each edition movement (before ++ user ∷ []) users
    (none_parts _ _
    (sym (first_append (user_causes edition movement before user)
    (users_causes edition movement (before ++ user ∷ []) users)) ∙ none)).1 k d (omega (arith, within))

pub not_met : {C : Type 0} (met : Bool) (cause : C) → then_some met cause ≡ None → met ≡ false
not_met true cause none = absurd cc
not_met false cause none = refl

pub was_met : (b : Bool) → not b ≡ false → b ≡ true
was_met true none = refl
was_met false none = absurd (false≢true (sym none))

no_set : (found : Option SeparationSet) → option_map Separation found ≡ None → found ≡ None
no_set (Some set) none = absurd cc
no_set None none = refl

above : (n : ℕ) → nat_le most_users n ≡ false → n < most_users
above n none = elim (cases_lt n most_users) [
  | inl below ↦ below
  | inr over ↦ absurd (false≢true (sym none ∙ le-leb most_users n over))
]

-- a user of whose account no cause is met may join
account_joins : (edition : Edition) (before : List NewUser) (user : NewUser) →
    first_cause (account_causes edition before user) ≡ None → MayJoin (opening_roles edition before) user
account_joins edition before user none =
    let a = none_parts (then_some (not (is_user_name user.name)) BadName) _ none in
    let b = none_parts (then_some (has_account (opening_roles edition before) user.name) UserExists) _ a.1 in
    let c = none_parts (then_some (nat_le most_users (length before)) TooManyUsers) _ b.1 in
    let d = none_parts (then_some (not (knows_roles edition user.roles)) NoSuchRole) _ c.1 in
    let e = none_parts (then_some (repeats user.roles) AlreadyAssigned) _ d.1 in
    let f = none_parts (option_map Separation (find (has_both (authorized_at_opening edition user)) separation_sets)) _
    e.1 in
    record {
      named = was_met (is_user_name user.name) (not_met _ BadName a.0);
      new = not_met _ UserExists b.0;
      room = subst (λ n. n < most_users) (sym (length-map before account_of))
          (above (length before) (not_met _ TooManyUsers c.0));
      known = was_met (knows_roles edition user.roles) (not_met _ NoSuchRole d.0);
      once = not_met _ AlreadyAssigned e.0;
      apart = no_set _ f.0;
    }

-- where no cause is met, none of a user's is
module _ (config : Config) (none : opening_refusal config ≡ None) where
  of_each : (k : ℕ) (d : NewUser) → k < length config.users →
      first_cause (user_causes config.edition config.movement (take k config.users) (get_or config.users k d)) ≡ None
  unfolding opening_refusal
  of_each k d within =
      let causes = users_causes config.edition config.movement [] config.users in
      let of_users =
      (none_parts _ _
      (sym (first_append causes
      (then_some (not (has_administrator (opening_roles config.edition config.users))) LastAdministrator ∷ []))
      ∙ none)).0 in
      none_of_each config.edition config.movement [] config.users of_users k d within

  account_then_seat : (k : ℕ) (d : NewUser) → k < length config.users →
      (first_cause (account_causes config.edition (take k config.users) (get_or config.users k d)) ≡ None)
      × (first_cause (seat_causes config.edition config.movement (take k config.users) (get_or config.users k d)
      (get_or config.users k d).seat) ≡ None)
  account_then_seat k d within =
      none_parts _ _ (sym (first_append (account_causes config.edition (take k config.users) (get_or config.users k d))
      (seat_causes config.edition config.movement (take k config.users) (get_or config.users k d)
      (get_or config.users k d).seat)) ∙ of_each k d within)

  -- so each user may join those before it
  pub users_join : JoinInTurn config.edition config.users
  users_join k d within =
      account_joins config.edition (take k config.users) (get_or config.users k d) (account_then_seat k d within).0

  -- and none of the causes in its seat is met
  pub users_sit : (k : ℕ) (d : NewUser) → k < length config.users →
      first_cause (seat_causes config.edition config.movement (take k config.users) (get_or config.users k d)
      (get_or config.users k d).seat) ≡ None
  users_sit k d within = (account_then_seat k d within).1

-- so there are not too many
pub users_are_few : (edition : Edition) (users : List NewUser) → JoinInTurn edition users → length users ≤ most_users
users_are_few edition [] join = omega arith
users_are_few edition (user ∷ users) join =
    let all = user ∷ users in
    let last = join (length users) user (omega arith) in
    let many : length (map account_of (take (length users) all)) ≡ length users = length-map (take (length users) all)
    account_of ∙ length-take-le (length users) all (omega arith) in
    omega (arith, last.room, many)

-- what is looked for among the accounts is looked for among the users
any_map : {X Y : Type 0} (p : Y → Bool) (f : X → Y) (xs : List X) → list_any p (map f xs) ≡ list_any (λ x. p (f x)) xs
any_map p f [] = refl
any_map p f (x ∷ xs) = ap (λ b. p (f x) || b) (any_map p f xs)

pub account_among : (edition : Edition) (users : List NewUser) (name : List ℕ) →
    has_account (opening_roles edition users) name ≡ list_any (λ user. same_name user.name name) users
account_among edition users name = any_map (λ account. same_name account.name name) account_of users

pub administrator_among : (edition : Edition) (users : List NewUser) →
    has_administrator (opening_roles edition users) ≡ list_any
    (λ user. has (authorized_at_opening edition user) Administrator) users
administrator_among edition users =
    any_map (λ account. has (reached (opening_pairs edition) account.assigned) Administrator) account_of users

-- and what is looked for among the seats
taken_first : (first : Option Seated) (seats : List Seated) (seat : Seat) → is_taken (cons_option first seats) seat ≡
    (is_taken (cons_option first []) seat || is_taken seats seat)
taken_first None seats seat = refl
taken_first (Some seated) seats seat = ap (λ b. b || is_taken seats seat)
    (sym (or_false_right (same_seat seated.seat seat)))
  where
    or_false_right : (b : Bool) → (b || false) ≡ b
    or_false_right true = refl
    or_false_right false = refl

pub taken_among : (users : List NewUser) (seat : Seat) → is_taken (opening_seats users) seat ≡ list_any
    (λ user. is_taken (opening_seats (user ∷ [])) seat) users
taken_among [] seat = refl
taken_among (user ∷ users) seat =
    taken_first (new_seated user) (opening_seats users) seat
    ∙ ap (λ b. is_taken (opening_seats (user ∷ [])) seat || b) (taken_among users seat)
