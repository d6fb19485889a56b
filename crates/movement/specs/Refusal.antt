-- When no movement is made: the causes of refusal, of a Mitchell's numbers and of a list.
use Rattle.std.specs.Prelude.{◌≡◌, ℕ, ◌*◌, ◌<◌, ◌⊎◌, false, Option, List, IsSomeAnd}
use Rattle.table_terms.specs.declared.pair.Pair.{Pair}
use Rattle.movement.specs.declared.limits.Limits.{Limits}
use Rattle.movement.specs.declared.list_error.ListError.{ListError}
use Rattle.movement.specs.declared.list_error.ListError.TheVariants.{BadTables, BadRounds, BadSets, BadRow, BadPair}
use Rattle.movement.specs.Movement.{least_tables, most_tables, most_sets, most_per_set, most_boards}
use Rattle.movement.specs.declared.row.Row.{Row}
use Rattle.movement.specs.Listed.{is_seated}
use Rattle.movement.specs.Sound.{IsSound, IsFirstMisplaced}
pub use Rattle.mitchell.specs.Refusal.{Refuses, number_of}

-- what each refusal of a list says: too few or too many tables, no round, too few or
-- too many sets or boards, the first row that can't stand after those before it, or no row that seats the absent pair
abbrev pub RefusesList : Limits → ℕ → Option Pair → List Row → ListError → Type 0
RefusesList limits per_set absent rows BadTables = (limits.tables < least_tables) ⊎ (most_tables < limits.tables)
RefusesList limits per_set absent rows BadRounds = limits.rounds < 1
RefusesList limits per_set absent rows BadSets =
    (per_set < 1) ⊎
    ((most_per_set < per_set) ⊎
    ((limits.sets < 1) ⊎ ((most_sets < limits.sets) ⊎ (most_boards < limits.sets * per_set))))
RefusesList limits per_set absent rows (BadRow misplaced) =
    IsFirstMisplaced limits rows misplaced × ¬ IsSound limits rows
RefusesList limits per_set absent rows BadPair = IsSomeAnd absent (λ pair. is_seated rows pair ≡ false)

-- the place of a cause in the order
abbrev pub list_error_number : ListError → ℕ
list_error_number BadTables = 1
list_error_number BadRounds = 2
list_error_number BadSets = 3
list_error_number (BadRow misplaced) = 4
list_error_number BadPair = 5
