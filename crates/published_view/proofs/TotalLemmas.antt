-- What a user's standings count is what the boards count that the user's class is shown.
use Rattle.std.proofs.Common.{
  ◌≡◌,
  ℕ,
  ◌+◌,
  ◌-◌,
  ◌<◌,
  ◌≤◌,
  Bool,
  true,
  false,
  cond,
  zero,
  suc,
  List,
  [],
  ◌∷◌,
  ◌++◌,
  length,
  refl,
  sym,
  ap,
  ◌∙◌,
  subst,
  inl,
  inr,
  arith,
}
use Rattle.std.specs.Prelude.{Option, Some, None, map, is_some, is_none, not, ◌&&◌, if◌then◌else◌, slice_get, nat_le}
use Rattle.std.specs.List.{flat_map, range_with_len, sum_by}
use Rattle.std.proofs.lemmas.Bool.{cases_Bool, false≢true, le-leb}
use Rattle.std.proofs.lemmas.List.Sums.{sum_by-append, sum_by-cons}
use Rattle.std.proofs.lemmas.List.Concat.{flat_map-cons}
use Rattle.movement.specs.Movement.{IsSection, boards_of, has_board}
use Rattle.disclosure_rules.specs.declared.fact.Fact.TheVariants as fact
use Rattle.disclosure_rules.specs.declared.marks.Marks.{Marks}
use Rattle.disclosure_rules.specs.declared.rule.Rule.{Rule}
use Rattle.disclosure_rules.specs.declared.viewer.Viewer.{Viewer}
use Rattle.disclosure_rules.specs.Policy.{first_rule}
use Rattle.session_state.specs.SessionState.{SessionState, AreLive}
use Rattle.standings.specs.declared.earning.Earning.{Earning}
use Rattle.standings.specs.Ranking.{earned_by, earnings_of, standing_of, top_for}
use Rattle.table_terms.specs.declared.pair.Pair.{Pair}
use Rattle.session_queries.specs.Facts.{boards}
use Rattle.session_queries.specs.Reading.{shown_results}
use Rattle.session_queries.specs.Shown.{Shown, shown}
use Rattle.published_view.specs.Answers.{board_earnings, all_earnings}
use Rattle.published_view.proofs.AnswerLemmas.{nothing_earned, board_earned, unmarked_earned}
use Rattle.class_views.specs.Classes.{class_of, sees_board, class_sees}
use Rattle.session_queries.specs.Results.{live_results}
use Rattle.class_views.specs.Totals.{earnings_with, earnings_on, counted_on, counted_for, total_for}
use Rattle.class_views.proofs.ClassLemmas.{same_class_sees}
use Rattle.session_queries.proofs.LiveLemmas.{all_results}

module _ (state : SessionState) (viewer : Viewer) (count : Earning → ℕ) (is_section : IsSection state.public.movement)
    (live : AreLive state.public.live state.cells)
    (dealt : boards_of state.public.movement ≤ length state.deals) where
  -- what one board counts
  one_board : (board : ℕ) → 1 ≤ board → board ≤ boards_of state.public.movement →
      sum_by count (board_earnings state.public.movement (shown state viewer) board) ≡ counted_on count state
      (class_of viewer) board
  unfolding earnings_on
  one_board board from to = by (first_rule state.public viewer (fact.Hands board)) refl
    where
      there : has_board state.public.movement board ≡ true
      there = λ i. le-leb 1 board from i && le-leb board (boards_of state.public.movement) to i

      sees : (rule : Option Rule) → first_rule state.public viewer (fact.Hands board) ≡ rule → class_sees state.public
          (class_of viewer) board ≡ is_none rule
      sees rule is = sym (same_class_sees state.public viewer board is_section) ∙ ap is_none is

      by : (rule : Option Rule) → first_rule state.public viewer (fact.Hands board) ≡ rule →
          sum_by count (board_earnings state.public.movement (shown state viewer) board) ≡ counted_on count state
          (class_of viewer) board
      by (Some rule) is =
          ap (sum_by count) (nothing_earned state viewer board (ap is_some is))
          ∙ sym (ap (λ b. if b then sum_by count (earnings_on state board) else 0) (sees (Some rule) is))
      by None is =
          ap (sum_by count) (marked (slice_get state.public.marks (board - 1)) refl)
          ∙ sym (ap (λ b. if b then sum_by count (earnings_on state board) else 0) (sees None is))
        where
          marked : (marks : Option Marks) → slice_get state.public.marks (board - 1) ≡ marks →
              board_earnings state.public.movement (shown state viewer) board ≡ earnings_on state board
          marked (Some marks) own =
              board_earned state viewer board there dealt (ap is_some is) marks own
              ∙ (ap (earnings_of state.public.movement marks.vulnerability)
              (all_results state viewer board is is_section live)
              ∙ sym (ap (λ o. earnings_with state.public.movement o (live_results state board)) own))
          marked None own =
              unmarked_earned state viewer board there dealt (ap is_some is) own
              ∙ sym (ap (λ o. earnings_with state.public.movement o (live_results state board)) own)

  -- what some boards count
  some_boards : (first n : ℕ) → 1 ≤ first → first + n ≤ boards_of state.public.movement + 1 →
      sum_by count (flat_map (board_earnings state.public.movement (shown state viewer)) (range_with_len first n))
      ≡ sum_by (counted_on count state (class_of viewer)) (range_with_len first n)
  some_boards first zero from to = refl
  some_boards first (suc n) from to =
      ap (sum_by count) (flat_map-cons (board_earnings state.public.movement (shown state viewer)) first
      (range_with_len (first + 1) n))
      ∙ (sum_by-append count (board_earnings state.public.movement (shown state viewer) first)
      (flat_map (board_earnings state.public.movement (shown state viewer)) (range_with_len (first + 1) n))
      ∙ ((λ i. one_board first from (omega (arith, to)) i + some_boards (first + 1) n (omega (arith, from))
      (omega (arith, to)) i)
      ∙ sym (sum_by-cons (counted_on count state (class_of viewer)) first (range_with_len (first + 1) n))))

  -- what all boards count
  pub counted_by_class : sum_by count (all_earnings state.public.movement (shown state viewer)) ≡ counted_for count
      state (class_of viewer)
  unfolding all_earnings counted_for
  counted_by_class = some_boards 1 (boards_of state.public.movement) (omega arith) (omega arith)

-- so a user's pairs stand as they do for the user's class
pub standings_by_class : (state : SessionState) (viewer : Viewer) → IsSection state.public.movement →
    AreLive state.public.live state.cells →
    boards_of state.public.movement ≤ length state.deals → (pairs : List Pair) →
    map (total_for state (class_of viewer)) pairs ≡ map
    (standing_of (all_earnings state.public.movement (shown state viewer))) pairs
unfolding standing_of
standings_by_class state viewer is_section live dealt [] = refl
standings_by_class state viewer is_section live dealt (pair ∷ pairs) =
    λ i. record {
      pair = pair;
      earned = sym (counted_by_class state viewer (earned_by pair) is_section live dealt) i;
      tops = sym (counted_by_class state viewer (top_for pair) is_section live dealt) i;
    } ∷ standings_by_class state viewer is_section live dealt pairs i
