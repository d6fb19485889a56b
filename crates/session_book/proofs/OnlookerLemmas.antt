-- Who sees the hands of a board: by roles that are read at a place, and by the seat where it is a contestant's.
use Rattle.std.proofs.Common.{◌≡◌, ℕ, ◌<◌, Bool, true, false, cond, List, [], ◌∷◌, length, refl, sym, ap, ◌∙◌, inl, inr}
use Rattle.std.specs.Prelude.{◌&&◌, ◌||◌, not, if◌then◌else◌, Option, Some, None, is_none, find, slice_get, option_and_then}
use Rattle.std.specs.List.{list_any}
use Rattle.std.proofs.lemmas.Bool.{cases_Bool, true≢false, false≢true}
use Rattle.std.specs.Option.{option_eq}
use Rattle.std.specs.Cmp.Lexicographic.{pointwise}
use Rattle.std.specs.Cmp.Lexicographic.{pointwise_decides}
use Rattle.session_roles.specs.Role.{same_role}
use Rattle.session_roles.proofs.RoleLemmas.{same_role_decides}
use Rattle.std.proofs.lemmas.List.{get_or-map}
use Rattle.std.proofs.lemmas.Option.{slice_get-get_or}
use Rattle.session_roles.specs.declared.role.Role.{Role}
use Rattle.session_roles.specs.declared.role.Role.TheVariants.{Contestant, Director}
use Rattle.rbac.specs.Authorization.{authorized_roles}
use Rattle.rbac.specs.declared.account.Account.{Account}
use Rattle.movement.specs.declared.cell.Cell.{Cell}
use Rattle.movement.specs.declared.row.Row.{Row}
use Rattle.movement.specs.Movement.{rows}
use Rattle.movement.specs.Schedule.{plays}
use Rattle.small_sets.specs.Numbers.{has_number}
use Rattle.disclosure_rules.specs.LiveCells.{is_live}
use Rattle.disclosure_rules.proofs.FirstLemmas.{none_forbids}
use Rattle.disclosure_rules.specs.declared.fact.Fact.TheVariants.{Hands}
use Rattle.disclosure_rules.specs.declared.public.Public.{Public}
use Rattle.disclosure_rules.specs.declared.rule.Rule.{Rule}
use Rattle.disclosure_rules.specs.declared.rule.Rule.TheVariants.{
  NoAccount,
  NotAMember,
  AccountsAreClosed,
  SessionIsEmbargoed,
  BoardIsHeld,
  StillToPlay,
  OthersStillPlay,
  NeitherContestantNorSpectator,
  BoardIsIncomplete,
  AnalysisWaits,
  PlayWaits,
  ReasonIsForThePairs,
  NoResult,
}
use Rattle.disclosure_rules.specs.declared.seat.Seat.{Seat}
use Rattle.disclosure_rules.specs.declared.viewer.Viewer.{Viewer}
use Rattle.disclosure_rules.specs.Policy.{is_authorized, forbids, first_rule, rules}
use Rattle.disclosure_rules.specs.Seating.{
  some_that,
  is_seated_at,
  cell_in,
  is_complete,
  plays_board,
  has_still_to_play,
}
use Rattle.session_state.specs.SessionState.{SessionState, authorized_of, seat_of}
use Rattle.session_book.specs.Exposure.{sees_hands}
use Rattle.session_book.specs.ExposureTable.{user_at, SeesAs, IsUnplayed}
use Rattle.session_book.proofs.ExposureLemmas.{none_is}

abbrev pub seated_so : Option (List Role) → Option Seat → Viewer
seated_so roles seat = record { roles = roles; seat = seat }

-- whether something is found by tests that agree
same_find : (p q : Rule → Bool) (xs : List Rule) → ((rule : Rule) → p rule ≡ q rule) → find p xs ≡ find q xs
same_find p q [] same = refl
same_find p q (x ∷ xs) same = λ i. cond (same x i) (Some x) (same_find p q xs same i)

-- who is no contestant is shown the same boards, whatever seat that user has
module _ (public : Public) (roles : Option (List Role)) (one other : Option Seat) (board : ℕ)
    (none : is_authorized roles Contestant ≡ false) where
  same_test : (secret : Option ℕ) (f g : ℕ → Bool) → some_that secret (λ b. is_authorized roles Contestant && f b) ≡
      some_that secret (λ b. is_authorized roles Contestant && g b)
  same_test None f g = refl
  same_test (Some b) f g = ap (λ x. x && f b) none ∙ sym (ap (λ x. x && g b) none)

  same : (rule : Rule) → forbids rule public (seated_so roles one) (Hands board) ≡ forbids rule public
      (seated_so roles other) (Hands board)
  same NoAccount = refl
  same NotAMember = refl
  same AccountsAreClosed = refl
  same SessionIsEmbargoed = refl
  same BoardIsHeld = refl
  same StillToPlay = same_test _ _ _
  same OthersStillPlay = same_test _ _ _
  same NeitherContestantNorSpectator = refl
  same BoardIsIncomplete = refl
  same AnalysisWaits = refl
  same PlayWaits = refl
  same ReasonIsForThePairs = refl
  same NoResult = refl

  seat_aside : is_none (first_rule public (seated_so roles one) (Hands board)) ≡ is_none
      (first_rule public (seated_so roles other) (Hands board))
  unfolding first_rule
  seat_aside = ap is_none (same_find _ _ rules same)

-- of a board that nobody has a result on and that isn't complete: who plays it has still to play it
module _ (public : Public) (board : ℕ) (unplayed : IsUnplayed public board) where
  same_any : (p q : Row → Bool) (xs : List Row) → ((row : Row) → p row ≡ q row) → list_any p xs ≡ list_any q xs
  same_any p q [] same = refl
  same_any p q (x ∷ xs) same = λ i. same x i || same_any p q xs same i

  all_still_to_play : (viewer : Viewer) → has_still_to_play public viewer board ≡ plays_board public viewer board
  unfolding has_still_to_play plays_board
  all_still_to_play viewer = at_seat viewer.seat
    where
      unlive : (played : Bool) (row : Row) → (played && not (is_live public.live (cell_in row board))) ≡ played
      unlive played row = ap (λ tables. played && not (has_number tables row.table)) unplayed.nowhere ∙ all played
        where
          all : (x : Bool) → (x && not false) ≡ x
          all true = refl
          all false = refl

      at_seat : (seat : Option Seat) →
          some_that seat (λ s. list_any (λ row. plays public.movement s.pair board row && not
          (is_live public.live (cell_in row board))) (rows public.movement))
          ≡ some_that seat (λ s. list_any (plays public.movement s.pair board) (rows public.movement))
      at_seat None = refl
      at_seat (Some s) =
          same_any _ _ (rows public.movement) (λ row. unlive (plays public.movement s.pair board row) row)

  module _ (viewer : Viewer) (contestant : is_authorized viewer.roles Contestant ≡ true)
      (not_director : is_authorized viewer.roles Director ≡ false) where
    unguarded_by : (test : ℕ → Bool) →
        test board ≡ some_that (if is_authorized viewer.roles Director then None else Some board) test
    unguarded_by test = sym (ap (λ x. some_that (if x then None else Some board) test) not_director)

    -- so no contestant is allowed its hands
    hidden : is_none (first_rule public viewer (Hands board)) ≡ false
    hidden =
        elim (cases_Bool (is_none (first_rule public viewer (Hands board)))) [
          | inl allowed ↦
              let none = none_forbids public viewer (Hands board) (none_is _ allowed) in
              let plays : plays_board public viewer board ≡ false =
              sym (all_still_to_play viewer)
              ∙ (sym (ap (λ x. x && has_still_to_play public viewer board) contestant)
              ∙ (unguarded_by (λ b. is_authorized viewer.roles Contestant && has_still_to_play public viewer b)
              ∙ none StillToPlay)) in
              absurd (true≢false
              (sym (λ i. contestant i && (not (plays i) && not (unplayed.incomplete i)))
              ∙ (unguarded_by (λ b. is_authorized viewer.roles Contestant && (not (plays_board public viewer b) && not
              (is_complete public b))) ∙ none OthersStillPlay)))
          | inr refused ↦ refused
        ]

-- so of such a board it says nothing where a user sits
module _ (public : Public) (roles : Option (List Role)) (one other : Option Seat) (board : ℕ)
    (unplayed : IsUnplayed public board) where
  unguarded_test : is_authorized roles Director ≡ true → (f g : ℕ → Bool) →
      some_that (if is_authorized roles Director then None else Some board) f
      ≡ some_that (if is_authorized roles Director then None else Some board) g
  unguarded_test director f g =
      ap (λ x. some_that (if x then None else Some board) f) director
      ∙ sym (ap (λ x. some_that (if x then None else Some board) g) director)

  same_to_directors : is_authorized roles Director ≡ true → (rule : Rule) →
      forbids rule public (seated_so roles one) (Hands board) ≡ forbids rule public (seated_so roles other) (Hands board)
  same_to_directors director NoAccount = refl
  same_to_directors director NotAMember = refl
  same_to_directors director AccountsAreClosed = refl
  same_to_directors director SessionIsEmbargoed = refl
  same_to_directors director BoardIsHeld = refl
  same_to_directors director StillToPlay = unguarded_test director _ _
  same_to_directors director OthersStillPlay = unguarded_test director _ _
  same_to_directors director NeitherContestantNorSpectator = refl
  same_to_directors director BoardIsIncomplete = refl
  same_to_directors director AnalysisWaits = refl
  same_to_directors director PlayWaits = refl
  same_to_directors director ReasonIsForThePairs = refl
  same_to_directors director NoResult = refl

  seat_aside_unplayed : is_none (first_rule public (seated_so roles one) (Hands board)) ≡ is_none
      (first_rule public (seated_so roles other) (Hands board))
  unfolding first_rule
  seat_aside_unplayed =
      elim (cases_Bool (is_authorized roles Contestant)) [
        | inl contestant ↦ elim (cases_Bool (is_authorized roles Director)) [
          | inl director ↦ ap is_none (same_find _ _ rules (same_to_directors director))
          | inr no_director ↦
              hidden public board unplayed (seated_so roles one) contestant no_director
              ∙ sym (hidden public board unplayed (seated_so roles other) contestant no_director)
        ]
        | inr no_contestant ↦ seat_aside public roles one other board no_contestant
      ]

-- the roles that are read where an account stands
module _ (state : SessionState) (place : ℕ) (roles : Option (List Role)) (below : place < length state.roles.accounts)
    (read : roles ≡ option_and_then (λ (account : Account). authorized_roles state.roles account.name)
    (slice_get state.roles.accounts place)) where
  own_roles : roles ≡ authorized_of state (user_at state place)
  own_roles =
      let nobody : Account = record { name = []; assigned = [] } in
      read
      ∙ ap (option_and_then (λ (account : Account). authorized_roles state.roles account.name))
      (slice_get-get_or state.roles.accounts place nobody below)
      ∙ ap (authorized_roles state.roles)
      (sym (get_or-map (λ (account : Account). account.name) state.roles.accounts place nobody [] below))

  -- a contestant, with the seat
  pub seated_onlooker : (user : List ℕ) (seat : Option Seat) → user ≡ user_at state place → seat ≡ seat_of state user →
      SeesAs state place (seated_so roles seat)
  seated_onlooker user seat here sits board =
      λ i. is_none (first_rule state.public (seated_so (own_roles i) ((sits ∙ ap (seat_of state) here) i)) (Hands board))

  -- another, without it
  pub unseated_onlooker : is_authorized roles Contestant ≡ false → SeesAs state place (seated_so roles None)
  unseated_onlooker none board =
      seat_aside state.public roles None (seat_of state (user_at state place)) board none
      ∙ ap (λ roles. is_none (first_rule state.public (seated_so roles (seat_of state (user_at state place)))
      (Hands board))) own_roles

  -- of a board that is unplayed, everybody without it
  pub unplayed_onlooker : (board : ℕ) → IsUnplayed state.public board →
      is_none (first_rule state.public (seated_so roles None) (Hands board)) ≡ sees_hands state (user_at state place) board
  unplayed_onlooker board unplayed =
      seat_aside_unplayed state.public roles None (seat_of state (user_at state place)) board unplayed
      ∙ ap (λ roles. is_none (first_rule state.public (seated_so roles (seat_of state (user_at state place)))
      (Hands board))) own_roles

-- roles that are the same by the code's test
pub roles_same : (roles other : Option (List Role)) → option_eq (pointwise same_role) roles other ≡ true → roles ≡ other
roles_same None None same = refl
roles_same None (Some other) same = absurd (false≢true same)
roles_same (Some roles) None same = absurd (false≢true same)
roles_same (Some roles) (Some other) same = ap Some ((pointwise_decides same_role_decides roles other).0 same)

-- where a user sits doesn't hang on the user's roles
pub sits_alike : (public : Public) (roles other : Option (List Role)) (seat : Option Seat) (cell : Cell) →
    is_seated_at public (seated_so roles seat) cell ≡ is_seated_at public (seated_so other seat) cell
unfolding is_seated_at
sits_alike public roles other seat cell = refl
