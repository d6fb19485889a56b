-- When no movement is made: the causes of refusal, in the order in which they are tested.
use Rattle.std.specs.Prelude.{ℕ, ◌*◌, ◌<◌, ◌⊎◌, IsSomeAnd}
use Rattle.mitchell.specs.Mitchell.{
  MitchellSection,
  most_rounds,
  least_tables,
  most_tables,
  most_per_set,
  most_boards,
}
use Rattle.mitchell.specs.declared.movement_error.MovementError.{MovementError}
use Rattle.mitchell.specs.declared.movement_error.MovementError.TheVariants.{BadTables, BadRounds, BadSets, BadPair}

-- the limit that each refusal says is broken: too few or too many tables, rounds, boards in a set or boards in all; or
-- no such pair is absent
abbrev pub Refuses : MovementError → MitchellSection → Type 0
Refuses BadTables section = (section.tables < least_tables) ⊎ (most_tables < section.tables)
Refuses BadRounds section = (section.rounds < 1) ⊎ (most_rounds section.tables < section.rounds)
Refuses BadSets section =
    (section.per_set < 1) ⊎
    ((most_per_set < section.per_set) ⊎ (most_boards < section.tables * section.per_set))
Refuses BadPair section = IsSomeAnd section.absent (λ pair. (pair.number < 1) ⊎ (section.tables < pair.number))

-- the place of a cause in the order
abbrev pub number_of : MovementError → ℕ
number_of BadTables = 1
number_of BadRounds = 2
number_of BadSets = 3
number_of BadPair = 4
