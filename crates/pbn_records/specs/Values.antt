-- What value each used tag has in a game (PBN 2.1, in this project's profile).
use Rattle.std.specs.Prelude.{
  ℕ,
  Bool,
  false,
  ◌&&◌,
  ◌==◌,
  if◌then◌else◌,
  List,
  [],
  ◌∷◌,
  Option,
  Some,
  None,
  codes,
  bytes_eq,
}
use Rattle.pbn_pieces.specs.Pieces.{is_escape}
use Rattle.pbn_records.specs.Bytes.{hash}
use Rattle.pbn_records.specs.declared.used.Used.{Used}
use Rattle.pbn_records.specs.Tags.{Placed, Valued, tag_in}

-- `\"` stands for `"`, `\\` for `\`, and any other byte for itself
abbrev pub read_value : List ℕ → List ℕ
read_value [] = []
read_value (byte ∷ []) = byte ∷ []
read_value (byte ∷ next ∷ bytes) = if is_escape byte next
    then next ∷ read_value bytes else byte ∷ read_value (next ∷ bytes)

-- the value that the tag had in the game before, if it had one
abbrev pub inherited : ℕ → Option Valued → Option Valued
inherited offset None = None
inherited offset (Some before) = Some (record { offset = offset; value = before.value })

-- a tag's value: `#` takes the value that the tag had in the game before; if it had none, the tag is missing
abbrev pub valued : Option Valued → Option Valued → Option Valued
valued before None = None
valued before (Some tag) =
    if bytes_eq tag.value (codes "#") then inherited tag.offset before
    else Some (record { offset = tag.offset; value = read_value tag.value })

-- the values of a game's used tags
abbrev pub Values : Type 0
Values = Used → Option Valued

-- before the first game no tag has a value
abbrev pub no_values : Values
no_values used = None

-- the values of a game, by those of the game before
abbrev pub values_of : Values → List Placed → Values
values_of before game used = valued (before used) (tag_in used game)

-- each game's values: the game before is any game, also one that is ignored
abbrev pub all_values : Values → List (List Placed) → List Values
all_values before [] = []
all_values before (game ∷ games) = values_of before game ∷ all_values (values_of before game) games

-- a value that begins with `##`
abbrev pub is_inherited_form : List ℕ → Bool
is_inherited_form [] = false
is_inherited_form (byte ∷ []) = false
is_inherited_form (byte ∷ next ∷ bytes) = byte == hash && next == hash
