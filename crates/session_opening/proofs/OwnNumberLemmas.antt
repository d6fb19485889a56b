-- At the opening nothing is solved.
use Rattle.std.proofs.Common.{◌≡◌, ℕ, zero, suc, ◌-◌, get_or, replicate, refl, sym, ◌∙◌}
use Rattle.std.specs.Prelude.{Option, Some, None}
use Rattle.cards.specs.Hands.{Hands}
use Rattle.movement.specs.Movement.{most_boards}
use Rattle.session_opening.specs.Opening.{opening_of}
use Rattle.session_opening.specs.declared.config.Config.{Config}
use Rattle.session_state.specs.OwnNumbers.{KeepsOwn}
use Rattle.session_state.specs.SessionState.{cell_index, most_cells}
use Rattle.session_commands.specs.declared.cell_state.CellState.TheVariants.{Empty, Confirmed}

same_items : {A : Type 0} (n i : ℕ) (a : A) → get_or (replicate n a) i a ≡ a
same_items zero i a = refl
same_items (suc n) zero a = refl
same_items (suc n) (suc i) a = same_items n i a

-- no board has a table, and no cell a result
pub opening_own : (config : Config) → KeepsOwn (opening_of config)
opening_own config = record {
  tables = λ board table is. let never : None ≡ Some table = sym (same_items {A = Option Hands} most_boards (board - 1)
      None) ∙ is in absurd cc;
  costs = λ cell outcome play costs placed is. let never : Empty ≡ Confirmed outcome play (Some costs) =
      sym (same_items most_cells (cell_index cell) Empty) ∙ is in absurd cc;
}
