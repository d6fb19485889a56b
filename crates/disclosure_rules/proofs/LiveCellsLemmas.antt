-- The live cells, read at a board, and what they say of a complete board.
use Rattle.std.proofs.Common.{
  ◌≡◌,
  ◌⊎◌,
  ◌↔◌,
  ℕ,
  zero,
  suc,
  ◌+◌,
  ◌-◌,
  ◌<◌,
  ◌≤◌,
  true,
  List,
  [],
  ◌∷◌,
  length,
  get_or,
  refl,
  sym,
  ap,
  ◌∙◌,
  subst,
  arith,
  inl,
  inr,
}
use Rattle.small_sets.specs.Numbers.{has_number, AreAmong}
use Rattle.movement.specs.declared.cell.Cell.{Cell}
use Rattle.movement.specs.Movement.{IsCell}
use Rattle.disclosure_rules.specs.declared.public.Public.{Public}
use Rattle.disclosure_rules.specs.LiveCells.{tables_at}
use Rattle.disclosure_rules.specs.Seating.{IsComplete}

past : (live : List (List ℕ)) (i : ℕ) → length live ≤ i → get_or live i [] ≡ []
past [] i beyond = refl
past (tables ∷ live) zero beyond = absurd (omega arith)
past (tables ∷ live) (suc i) beyond = past live i (omega arith)

-- the tables of a board stand at its place
pub tables_at_place : (live : List (List ℕ)) (board : ℕ) → 1 ≤ board →
    tables_at live board ≡ get_or live (board - 1) []
tables_at_place live zero from = absurd (omega arith)
tables_at_place live (suc board) from =
    let same : board ≡ suc board - 1 = omega arith in ap (λ k. get_or live k []) same

-- and beyond the list there are none
pub tables_at_none : (live : List (List ℕ)) (board : ℕ) → (board < 1) ⊎ (length live < board) →
    tables_at live board ≡ []
tables_at_none live zero out = refl
tables_at_none live (suc board) (inl low) = absurd (omega arith)
tables_at_none live (suc board) (inr beyond) = past live board (omega arith)

-- the scheduled tables are among those with a result exactly where the board is complete
pub complete_from_among : (public : Public) (board : ℕ) (scheduled : List ℕ) →
    ((t : ℕ) → (has_number scheduled t ≡ true) ↔ IsCell public.movement (record { table = t; board = board })) →
    AreAmong scheduled (tables_at public.live board) → IsComplete public board
complete_from_among public board scheduled is_scheduled among cell is_cell at_board =
    let here : cell ≡ record { table = cell.table; board = board } =
    λ i. record { table = cell.table; board = at_board i } in
    ap (λ (c : Cell). has_number (tables_at public.live c.board) c.table) here
    ∙ among cell.table ((is_scheduled cell.table).1 (subst (IsCell public.movement) here is_cell))

pub among_from_complete : (public : Public) (board : ℕ) (scheduled : List ℕ) →
    ((t : ℕ) → (has_number scheduled t ≡ true) ↔ IsCell public.movement (record { table = t; board = board })) →
    IsComplete public board → AreAmong scheduled (tables_at public.live board)
among_from_complete public board scheduled is_scheduled complete t held =
    complete (record { table = t; board = board }) ((is_scheduled t).0 held) refl
