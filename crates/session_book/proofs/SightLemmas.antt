-- A user sees no more of a board where the user has the same roles, keeps the seat or loses it, a held board stays
-- held, an embargo stays, and no result is new: with the same roles, what the policy shows grows with seats and results
-- alone.
use Rattle.std.proofs.Common.{◌≡◌, ℕ, Bool, true, false, cond, List, inl, inr, refl, sym, ap, ◌∙◌, subst, Any}
use Rattle.std.specs.Prelude.{Option, Some, None, is_none, not, ◌&&◌, ◌⊎◌, IsSomeAnd}
use Rattle.std.specs.List.{list_any}
use Rattle.std.proofs.lemmas.Bool.{
  false≢true,
  false_from_ne_true,
  cases_Bool,
  and_cases,
  and_parts,
  and_from,
  and_left,
  and_right,
  not-false,
  not_from_true,
  not_from_false,
}
use Rattle.movement.specs.declared.cell.Cell.{Cell}
use Rattle.movement.specs.Movement.{IsCell, rows}
use Rattle.movement.specs.Row.{Plays}
use Rattle.movement.specs.Schedule.{plays}
use Rattle.session_roles.specs.declared.role.Role.{Role}
use Rattle.session_roles.specs.declared.role.Role.TheVariants.{Member, Spectator, Contestant, Director, Commentator}
use Rattle.session_roles.specs.Edition.{is_second}
use Rattle.disclosure_rules.specs.declared.fact.Fact.TheVariants.{Hands}
use Rattle.disclosure_rules.specs.declared.public.Public.{Public}
use Rattle.disclosure_rules.specs.declared.rule.Rule.{Rule}
use Rattle.disclosure_rules.specs.declared.rule.Rule.TheVariants.{
  NoAccount,
  NotAMember,
  AccountsAreClosed,
  SessionIsEmbargoed,
  BoardIsHeld,
  StillToPlay,
  OthersStillPlay,
  NeitherContestantNorSpectator,
  BoardIsIncomplete,
  AnalysisWaits,
  PlayWaits,
  ReasonIsForThePairs,
  NoResult,
}
use Rattle.disclosure_rules.specs.declared.seat.Seat.{Seat}
use Rattle.disclosure_rules.specs.declared.viewer.Viewer.{Viewer}
use Rattle.disclosure_rules.specs.LiveCells.{is_live}
use Rattle.small_sets.specs.Numbers.{has_number}
use Rattle.disclosure_rules.specs.Policy.{is_authorized, is_embargoed, comments, guarding, forbids}
use Rattle.disclosure_rules.specs.Seating.{some_that, cell_in, plays_board, has_still_to_play, is_complete}
use Rattle.disclosure_rules.proofs.FirstLemmas.{none_forbids, no_first}
use Rattle.disclosure_rules.proofs.SeatingTests.{complete_decides, still_decides}
use Rattle.session_state.specs.SessionState.{SessionState, authorized_of, seat_of, viewer_of}
use Rattle.session_book.specs.Exposure.{sees_hands}
use Rattle.session_book.proofs.ExposureLemmas.{none_is}

-- a state that shows a user no more of a board than another: part by part
pub record ShowsNoMore (before after : SessionState) (user : List ℕ) (board : ℕ) : Type 0 where
  pub movement : after.public.movement ≡ before.public.movement
  pub roles : (role : Role) → is_authorized (authorized_of after user) role ≡ is_authorized (authorized_of before user)
      role
  pub seat : (seat_of after user ≡ seat_of before user) ⊎ (seat_of after user ≡ None)
  pub edition : after.public.edition ≡ before.public.edition
  pub embargo : before.public.embargo ≡ true → after.public.embargo ≡ true
  pub held : has_number before.public.held board ≡ true → has_number after.public.held board ≡ true
  pub live : (table : ℕ) → is_live after.public.live (record { table = table; board = board }) ≡ true →
      is_live before.public.live (record { table = table; board = board }) ≡ true

-- nobody has still to play a board that is complete
still_incomplete : (public : Public) (viewer : Viewer) (board : ℕ) → is_complete public board ≡ true →
    has_still_to_play public viewer board ≡ false
still_incomplete public viewer board complete = false_from_ne_true _
    (λ still. at_seat viewer.seat ((still_decides public viewer board).0 still))
  where
    at_seat : (seat : Option Seat) → IsSomeAnd seat
        (λ s. Any (λ row. Plays public.movement row s.pair board × (is_live public.live (cell_in row board) ≡ false))
        (rows public.movement)) → ⊥
    at_seat None none = absurd none
    at_seat (Some seat) (k, row, below, here, waits) =
        false≢true (sym waits.1 ∙ (complete_decides public board).0 complete (cell_in row board)
        (k, row, below, here, record { table = refl; board = waits.0.board }) refl)

-- a rule that guards what belongs to a board forbids nothing to a director, and to others what its test says
to_director : (director : Bool) (board : ℕ) (test : ℕ → Bool) → director ≡ true →
    some_that (cond director None (Some board)) test ≡ false
to_director true board test is = refl
to_director false board test is = absurd (false≢true is)

to_others : (director : Bool) (board : ℕ) (test : ℕ → Bool) → director ≡ false →
    some_that (cond director None (Some board)) test ≡ test board
to_others true board test other = absurd (false≢true (sym other))
to_others false board test other = refl

no_cell : (director : Bool) (test : Cell → Bool) → some_that (cond director None None) test ≡ false
no_cell true test = refl
no_cell false test = refl

second : (x y : Bool) → x ≡ true → (x && y) ≡ false → y ≡ false
second true y is none = none
second false y is none = absurd (false≢true is)

is_known : (roles : Option (List Role)) → is_authorized roles Member ≡ true → is_none roles ≡ false
is_known None is = absurd (false≢true is)
is_known (Some set) is = refl

-- the rules on seats and results forbid nothing of a board to a user who is no director
record Watches (state : SessionState) (user : List ℕ) (board : ℕ) : Type 0 where
  played : (is_authorized (authorized_of state user) Contestant && has_still_to_play state.public
      (viewer_of state user) board) ≡ false
  others : (is_authorized (authorized_of state user) Contestant &&
      (not (plays_board state.public (viewer_of state user) board) && not (is_complete state.public board))) ≡ false
  role : (not (is_authorized (authorized_of state user) Contestant) && not
      (is_authorized (authorized_of state user) Spectator)) ≡ false
  complete : (not (is_authorized (authorized_of state user) Contestant) &&
      (not (comments state.public (viewer_of state user)) && not (is_complete state.public board))) ≡ false

module _ (before after : SessionState) (user : List ℕ) (board : ℕ) (less : ShowsNoMore before after user board) where
  plays_same : seat_of after user ≡ seat_of before user → plays_board after.public (viewer_of after user) board ≡
      plays_board before.public (viewer_of before user) board
  unfolding plays_board
  plays_same seated = λ i. some_that (seated i) (λ seat. list_any (λ row. plays (less.movement i) seat.pair board row)
      (rows (less.movement i)))

  no_seat_plays : seat_of after user ≡ None → plays_board after.public (viewer_of after user) board ≡ false
  unfolding plays_board
  no_seat_plays none = λ i. some_that (none i)
      (λ seat. list_any (λ row. plays after.public.movement seat.pair board row) (rows after.public.movement))

  complete_before : is_complete after.public board ≡ true → is_complete before.public board ≡ true
  complete_before complete =
      (complete_decides before.public board).1 (λ cell is_cell at_board.
      let now : is_live after.public.live cell ≡ true = (complete_decides after.public board).0 complete cell
      (subst (λ section. IsCell section cell) (sym less.movement) is_cell) at_board in
      (λ i. is_live before.public.live (record { table = cell.table; board = at_board i }))
      ∙ less.live cell.table ((λ i. is_live after.public.live (record { table = cell.table; board = sym at_board i }))
      ∙ now))

  -- who had still to play the board has so after, at the same seat
  still_after : seat_of after user ≡ seat_of before user → has_still_to_play before.public (viewer_of before user) board
      ≡ true → has_still_to_play after.public (viewer_of after user) board ≡ true
  still_after seated still =
      (still_decides after.public (viewer_of after user) board).1
      (subst (λ seat. IsSomeAnd seat (λ s. Any (λ row. Plays after.public.movement row s.pair board ×
      (is_live after.public.live (cell_in row board) ≡ false)) (rows after.public.movement))) (sym seated)
      (at_seat (seat_of before user) ((still_decides before.public (viewer_of before user) board).0 still)))
    where
      at_seat : (seat : Option Seat) → IsSomeAnd seat (λ s. Any (λ row. Plays before.public.movement row s.pair board ×
          (is_live before.public.live (cell_in row board) ≡ false)) (rows before.public.movement)) →
          IsSomeAnd seat (λ s. Any (λ row. Plays after.public.movement row s.pair board ×
          (is_live after.public.live (cell_in row board) ≡ false)) (rows after.public.movement))
      at_seat None none = none
      at_seat (Some seat) (k, row, below, here, waits) =
          subst (λ section. Any (λ row. Plays section row seat.pair board ×
          (is_live after.public.live (cell_in row board) ≡ false)) (rows section)) (sym less.movement) (
            k,
            row,
            below,
            here,
            (waits.0, false_from_ne_true _ (λ live. false≢true (sym waits.1 ∙ less.live row.table live))),
          )

  -- a contestant or a spectator sees a board that is complete
  watches_complete : is_complete before.public board ≡ true →
      (not (is_authorized (authorized_of before user) Contestant) && not
      (is_authorized (authorized_of before user) Spectator)) ≡ false →
      Watches before user board
  watches_complete complete role = record {
    played = and_right _ _ (still_incomplete before.public (viewer_of before user) board complete);
    others = and_right _ _ (and_right _ _ (not_from_true _ complete));
    role = role;
    complete = and_right _ _ (and_right _ _ (not_from_true _ complete));
  }

  comments_same : comments after.public (viewer_of after user) ≡ comments before.public (viewer_of before user)
  comments_same = λ i. is_second (less.edition i) && less.roles Commentator i

  module _ (sees : sees_hands after user board ≡ true) where
    allows : (rule : Rule) → forbids rule after.public (viewer_of after user) (Hands board) ≡ false
    allows = none_forbids after.public (viewer_of after user) (Hands board) (none_is _ sees)

    member : is_authorized (authorized_of before user) Member ≡ true
    member = sym (less.roles Member) ∙ not-false _ (allows NotAMember)

    -- the rules that guard boards, for who was no director before, and so is none after
    module _ (other : is_authorized (authorized_of before user) Director ≡ false) where
      no_director : is_authorized (authorized_of after user) Director ≡ false
      no_director = less.roles Director ∙ other

      passes : (test : ℕ → Bool) → guarding (viewer_of after user) (Hands board) test ≡ false → test board ≡ false
      passes test none = sym (to_others _ board test no_director) ∙ none

      not_embargoed : is_embargoed before.public ≡ false
      not_embargoed =
          false_from_ne_true _ (λ is.
          let parts = and_parts (is_second before.public.edition) before.public.embargo is in
          false≢true (sym (passes (λ _. is_embargoed after.public) (allows SessionIsEmbargoed))
          ∙ and_from _ _ (ap is_second less.edition ∙ parts.0) (less.embargo parts.1)))

      not_held : has_number before.public.held board ≡ false
      not_held = false_from_ne_true _
          (λ is. false≢true (sym (passes (λ b. has_number after.public.held b) (allows BoardIsHeld)) ∙ less.held is))

      watches_playing : is_authorized (authorized_of after user) Contestant ≡ true → Watches before user board
      watches_playing contestant =
          let was = sym (less.roles Contestant) ∙ contestant in
          let role = and_left _ (not (is_authorized (authorized_of before user) Spectator)) (not_from_true _ was) in
          let played = second _ _ contestant
          (passes (λ b. is_authorized (authorized_of after user) Contestant && has_still_to_play after.public
          (viewer_of after user) b) (allows StillToPlay)) in
          let others = second _ _ contestant
          (passes (λ b. is_authorized (authorized_of after user) Contestant &&
          (not (plays_board after.public (viewer_of after user) b) && not (is_complete after.public b)))
          (allows OthersStillPlay)) in
          elim (and_cases _ _ others) [
            | inl plays ↦ elim less.seat [
              | inl seated ↦ record {
                played = and_right _ _
                    (false_from_ne_true _ (λ still. false≢true (sym played ∙ still_after seated still)));
                others = and_right _ _
                    (and_left _ _ (not_from_true _ (sym (plays_same seated) ∙ not-false _ plays)));
                role = role;
                complete = and_left _ _ (not_from_true _ was);
              }
              | inr none ↦ absurd (false≢true (sym (no_seat_plays none) ∙ not-false _ plays))
            ]
            | inr complete ↦ watches_complete (complete_before (not-false _ complete)) role
          ]

      watches_only : is_authorized (authorized_of after user) Contestant ≡ false → Watches before user board
      watches_only no_contestant =
          let watching = not_from_false _ no_contestant in
          let spectator =
          not-false _ (second _ _ watching
          (passes (λ b. not (is_authorized (authorized_of after user) Contestant) && not
          (is_authorized (authorized_of after user) Spectator)) (allows NeitherContestantNorSpectator))) in
          let role = and_right (not (is_authorized (authorized_of before user) Contestant)) _
          (not_from_true _ (sym (less.roles Spectator) ∙ spectator)) in
          let known =
          second _ _ watching
          (passes (λ b. not (is_authorized (authorized_of after user) Contestant) &&
          (not (comments after.public (viewer_of after user)) && not (is_complete after.public b)))
          (allows BoardIsIncomplete)) in
          let was_none = sym (less.roles Contestant) ∙ no_contestant in
          elim (and_cases _ _ known) [
            | inl commenting ↦ record {
              played = and_left _ _ was_none;
              others = and_left _ _ was_none;
              role = role;
              complete = and_right _ _ (and_left _ _ (not_from_true _ (sym comments_same ∙ not-false _ commenting)));
            }
            | inr complete ↦ watches_complete (complete_before (not-false _ complete)) role
          ]

      watches : Watches before user board
      watches =
          elim (cases_Bool (is_authorized (authorized_of after user) Contestant)) [
            | inl contestant ↦ watches_playing contestant
            | inr no_contestant ↦ watches_only no_contestant
          ]

    guards_not : (test : ℕ → Bool) → (is_authorized (authorized_of before user) Director ≡ false → test board ≡ false) →
        guarding (viewer_of before user) (Hands board) test ≡ false
    guards_not test none =
        elim (cases_Bool (is_authorized (authorized_of before user) Director)) [
          | inl director ↦ to_director _ board test director
          | inr other ↦ to_others _ board test other ∙ none other
        ]

    -- so no rule forbade the hands before
    allowed : (rule : Rule) → forbids rule before.public (viewer_of before user) (Hands board) ≡ false
    allowed NoAccount = is_known (authorized_of before user) member
    allowed NotAMember = not_from_true _ member
    allowed AccountsAreClosed = refl
    allowed SessionIsEmbargoed = guards_not (λ _. is_embargoed before.public) not_embargoed
    allowed BoardIsHeld = guards_not (λ b. has_number before.public.held b) not_held
    allowed StillToPlay = guards_not (λ b. is_authorized (authorized_of before user) Contestant && has_still_to_play
        before.public (viewer_of before user) b) (λ other. (watches other).played)
    allowed OthersStillPlay =
        guards_not (λ b. is_authorized (authorized_of before user) Contestant &&
        (not (plays_board before.public (viewer_of before user) b) && not (is_complete before.public b)))
        (λ other. (watches other).others)
    allowed NeitherContestantNorSpectator =
        guards_not (λ b. not (is_authorized (authorized_of before user) Contestant) && not
        (is_authorized (authorized_of before user) Spectator)) (λ other. (watches other).role)
    allowed BoardIsIncomplete = guards_not (λ b. not (is_authorized (authorized_of before user) Contestant) &&
        (not (comments before.public (viewer_of before user)) && not (is_complete before.public b)))
        (λ other. (watches other).complete)
    allowed AnalysisWaits = guards_not (λ b. false &&
        (not (comments before.public (viewer_of before user)) && not (is_complete before.public b))) (λ other. refl)
    allowed PlayWaits = no_cell _ _
    allowed ReasonIsForThePairs = no_cell _ _
    allowed NoResult = no_cell _ _

    -- and the user saw them
    pub seen_before : sees_hands before user board ≡ true
    seen_before = ap is_none (no_first before.public (viewer_of before user) (Hands board) allowed)
