-- All results are there just where each board is complete.
use Rattle.std.proofs.Common.{
  ◌≡◌,
  ℕ,
  zero,
  suc,
  ◌+◌,
  ◌-◌,
  ◌<◌,
  ◌≤◌,
  Bool,
  true,
  false,
  refl,
  sym,
  ap,
  ◌∙◌,
  arith,
  inl,
  inr,
}
use Rattle.std.specs.Prelude.{◌&&◌, ◌↔◌}
use Rattle.std.specs.List.{list_all, range_with_len}
use Rattle.std.proofs.lemmas.Bool.{cases_eq, cases_Bool, false≢true}
use Rattle.movement.specs.declared.cell.Cell.{Cell}
use Rattle.movement.specs.Movement.{boards_of, IsCell, IsSection}
use Rattle.session_state.proofs.movement_lemmas.CellLemmas.{cell_in_range}
use Rattle.disclosure_rules.specs.LiveCells.{is_live}
use Rattle.session_state.proofs.disclosure_rules_lemmas.SeatingTests.{complete_decides}
use Rattle.disclosure_rules.specs.Seating.{is_complete}
use Rattle.disclosure_rules.specs.declared.public.Public.{Public}
use Rattle.session_state.specs.Refusal.{are_all_live}

pub all_of_range : (p : ℕ → Bool) (first n : ℕ) → ((k : ℕ) → first ≤ k → k < first + n → p k ≡ true) →
    list_all p (range_with_len first n) ≡ true
all_of_range p first zero each = refl
all_of_range p first (suc n) each =
    λ i. each first (omega arith) (omega arith) i && all_of_range p (first + 1) n (λ k from below. each k (omega arith)
    (omega arith)) i

and_false : (b : Bool) → (b && false) ≡ false
and_false true = refl
and_false false = refl

pub not_all_of_range : (p : ℕ → Bool) (first n k : ℕ) → first ≤ k → k < first + n → p k ≡ false →
    list_all p (range_with_len first n) ≡ false
not_all_of_range p first zero k from below fails = absurd (omega arith)
not_all_of_range p first (suc n) k from below fails =
    elim (cases_eq k first) [
      | inl same ↦ ap (λ b. b && list_all p (range_with_len (first + 1) n)) (ap p (sym same) ∙ fails)
      | inr other ↦ ap (λ b. p first && b) (not_all_of_range p (first + 1) n k (omega arith) (omega arith) fails)
          ∙ and_false (p first)
    ]

-- where each board is complete
pub all_complete : (public : Public) (boards : ℕ) → boards ≡ boards_of public.movement →
    ((board : ℕ) → board < boards → is_complete public (board + 1) ≡ true) →
    are_all_live public ≡ true
unfolding are_all_live
all_complete public boards all each =
    all_of_range (is_complete public) 1 (boards_of public.movement)
    (λ k from below. let same : (k - 1) + 1 ≡ k = omega arith in ap (is_complete public) (sym same) ∙ each (k - 1)
    (omega arith))

-- where one isn't
pub one_incomplete : (public : Public) (board : ℕ) → board < boards_of public.movement → is_complete public (board + 1)
    ≡ false → are_all_live public ≡ false
unfolding are_all_live
one_incomplete public board below incomplete =
    not_all_of_range (is_complete public) 1 (boards_of public.movement) (board + 1) (omega arith) (omega arith)
    incomplete

-- all results are there just where each cell of the movement has one
each_of_range : (p : ℕ → Bool) (first n k : ℕ) → list_all p (range_with_len first n) ≡ true → first ≤ k →
    k < first + n → p k ≡ true
each_of_range p first n k all from below =
    elim (cases_Bool (p k)) [
      | inl passes ↦ passes
      | inr fails ↦ absurd (false≢true (sym (not_all_of_range p first n k from below fails) ∙ all))
    ]

pub all_live_decides : (public : Public) → IsSection public.movement → (are_all_live public ≡ true) ↔
    ((cell : Cell) → IsCell public.movement cell → is_live public.live cell ≡ true)
unfolding are_all_live
all_live_decides public is_section = (
  λ all cell is_cell.
      let range = cell_in_range public.movement cell is_section is_cell in
      let complete = each_of_range (is_complete public) 1 (boards_of public.movement) cell.board all range.from_board
      (omega (arith, range.to_board)) in
      (complete_decides public cell.board).0 complete cell is_cell refl,
  λ each. all_of_range (is_complete public) 1 (boards_of public.movement) (λ k from below. (complete_decides public k).1
      (λ cell is_cell _. each cell is_cell)),
)
