-- What a movement that is named by a word is, and when there is none.
use Rattle.std.specs.Prelude.{◌≡◌, ◌-◌, ◌*◌, ◌<◌, ◌⊎◌, Bool, true, false, ◌&&◌, nat_eq, if◌then◌else◌, List, IsSomeAnd}
use Rattle.mitchell.specs.Mitchell.{most_per_set, most_boards}
use Rattle.movement.specs.Listed.{listed_section}
use Rattle.movement.specs.Mitchell.{mitchell_section}
use Rattle.movement.specs.Movement.{Section}
use Rattle.movement.specs.declared.row.Row.{Row}
use Rattle.movement.specs.Switched.{switched}
use Rattle.movement.specs.declared.limits.Limits.{Limits}
use Rattle.movement.specs.declared.list_error.ListError.{ListError}
use Rattle.movement.specs.declared.list_error.ListError.TheVariants.{BadTables, BadRounds, BadSets, BadRow, BadPair}
use Rattle.named_movements.specs.Words.{
  can_have_tables,
  can_have_rounds,
  sets_of_word,
  sharing_of_word,
  rows_of_word,
}
use Rattle.named_movements.specs.declared.movement_word.MovementWord.{MovementWord}
use Rattle.named_movements.specs.declared.movement_word.MovementWord.TheVariants.{Mitchell, Howell, ShareAndRelay, Web}
use Rattle.named_movements.specs.declared.named_movement.NamedMovement.{NamedMovement}

-- in which limits its rows stay
abbrev pub limits_of_word : NamedMovement → Limits
limits_of_word named = record {
  rounds = named.rounds;
  tables = named.tables;
  sets = sets_of_word named.word named.tables named.rounds;
  shared_by = sharing_of_word named.word named.tables named.rounds;
}

-- its rows: in the last rounds the two pairs of each table sit the other way round
abbrev pub named_rows : NamedMovement → List Row
named_rows named = switched (named.rounds - named.switched) (rows_of_word named.word named.tables named.rounds)

-- whether the word is the Mitchell's
abbrev pub is_mitchell : MovementWord → Bool
is_mitchell Mitchell = true
is_mitchell Howell = false
is_mitchell ShareAndRelay = false
is_mitchell Web = false

-- whether it is a Mitchell in which nobody changes sides
abbrev pub is_plain : NamedMovement → Bool
is_plain named = is_mitchell named.word && nat_eq named.switched 0

-- the movement: a Mitchell in which nobody changes sides is the plain one, as if it weren't named
abbrev pub named_section : NamedMovement → Section
named_section named =
    if is_plain named
    then mitchell_section (record {
      tables = named.tables;
      rounds = named.rounds;
      per_set = named.per_set;
      absent = named.absent;
    })
    else listed_section (limits_of_word named) named.per_set named.absent (named_rows named)

-- what each refusal says: the movement can't be played at so many tables, or for so many rounds; too few or too many boards
-- in a set, or too many boards in all; or the absent pair isn't one of the two for each table. No row is misplaced
abbrev pub RefusesNamed : NamedMovement → ListError → Type 0
RefusesNamed named BadTables = can_have_tables named.word named.tables ≡ false
RefusesNamed named BadRounds = can_have_rounds named.word named.tables named.rounds ≡ false
RefusesNamed named BadSets =
    (named.per_set < 1) ⊎
    ((most_per_set < named.per_set) ⊎
    (most_boards < sets_of_word named.word named.tables named.rounds * named.per_set))
RefusesNamed named (BadRow misplaced) = ⊥
RefusesNamed named BadPair = IsSomeAnd named.absent (λ pair. (pair.number < 1) ⊎ (named.tables < pair.number))
