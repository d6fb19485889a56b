-- The members of a session object that say which movement is played: a word or a list of rows, by how many tables a set
-- is shared, and how many rounds are switched.
use Rattle.std.specs.Prelude.{
  ◌≡◌,
  ℕ,
  ◌≤◌,
  nat_le,
  Bool,
  ◌&&◌,
  if◌then◌else◌,
  List,
  [],
  ◌∷◌,
  length,
  codes,
  Option,
  Some,
  None,
  option_map,
  option_and_then,
  is_none,
  IfSome,
}
use Rattle.std.specs.List.{find}
use Rattle.std.specs.Option.{unwrap_or}
use Rattle.std.specs.Str.{bytes_eq}
use Rattle.serde_json.specs.Data.{Data, Items, no_items, item}
use Rattle.serde_json.specs.Find.{as_str, as_array}
use Rattle.table_terms.specs.declared.pair.Pair.{Pair}
use Rattle.movement.specs.declared.row.Row.{Row}
use Rattle.movement.specs.Movement.{most_tables}
use Rattle.named_movements.specs.Words.{text_of_word}
use Rattle.named_movements.specs.declared.movement_word.MovementWord.{MovementWord}
use Rattle.named_movements.specs.declared.movement_word.MovementWord.TheVariants.{Mitchell, Howell, ShareAndRelay, Web}
use Rattle.json_fields.specs.Form.{Member, if_there, applied, item_count, each, AreEach}
use Rattle.json_fields.specs.Field.{small, IsSmall, numbered}
use Rattle.json_fields.specs.User.{pair_said, IsPair}
use Rattle.session_object.specs.declared.asked_movement.AskedMovement.{AskedMovement}
use Rattle.session_object.specs.declared.asked_movement.AskedMovement.TheVariants.{Nothing, Word, Rows}
use Rattle.session_object.specs.declared.movement_reading.TheConstants.{LONGEST_LIST}

-- ---- rows: `[round,table,set,"NS1","EW1"]`

-- a row of three numbers and two pairs
abbrev pub a_row : ℕ → ℕ → ℕ → Pair → Pair → Row
a_row round table set north_south east_west =
    record { round = round; table = table; set = set; north_south = north_south; east_west = east_west }

-- the row that five items are
abbrev pub row_of_items : Items → Option Row
row_of_items (item round (item table (item set (item north_south (item east_west no_items))))) =
    applied (applied (applied (applied (applied (Some a_row) (small (Some round))) (small (Some table)))
    (small (Some set))) (pair_said (Some north_south))) (pair_said (Some east_west))
row_of_items _ = None

-- the row that stands there
unfoldable pub row_said : Data → Option Row
row_said d = option_and_then row_of_items (as_array d)

-- there are five items: a round, a table and a set, and the pairs that sit North-South and East-West
abbrev pub AreRow : Items → Row → Type 0
AreRow (item round (item table (item set (item north_south (item east_west no_items))))) row =
    IsSmall (Some round) row.round × IsSmall (Some table) row.table × IsSmall (Some set) row.set
    × IsPair (Some north_south) row.north_south × IsPair (Some east_west) row.east_west
AreRow _ row = ⊥

-- what stands there is a list of the row's items
abbrev pub IsRow : Data → Row → Type 0
IsRow d row = (items : Items) × (as_array d ≡ Some items) × AreRow items row

-- ---- lists of rows

-- how many rows a list has at most: one for each table at each set
abbrev pub longest_list : ℕ
longest_list = LONGEST_LIST

-- the list isn't empty, and hasn't too many rows
abbrev pub is_row_count : ℕ → Bool
is_row_count many = nat_le 1 many && nat_le many longest_list

-- the rows that a list's items are
unfoldable pub rows_said : Items → Option (List Row)
rows_said items = if is_row_count (item_count items) then each row_said items else None

-- each item is the row in its place, and there are not too few and not too many
pub record AreRows (items : Items) (rows : List Row) : Type 0 where
  pub each : AreEach IsRow items rows
  pub least : 1 ≤ length rows
  pub most : length rows ≤ longest_list

-- ---- the member `movement`: a word or a list of rows, or nothing

-- the word whose text it is
abbrev pub word_named : List ℕ → Option MovementWord
word_named text =
    find (λ word. bytes_eq (text_of_word word) text) (Mitchell ∷ Howell ∷ ShareAndRelay ∷ Web ∷ [])

-- the movement that a text or a list is
abbrev pub movement_in : Option (List ℕ) → Option Items → Option AskedMovement
movement_in (Some text) items = option_map (λ word. Word word) (word_named text)
movement_in None (Some items) = option_map (λ rows. Rows rows) (rows_said items)
movement_in None None = None

-- the movement that stands there
abbrev pub movement_said : Option Data → Option AskedMovement
movement_said None = Some Nothing
movement_said (Some d) = movement_in (as_str d) (as_array d)

-- what stands there asks for this movement: the text of its word, or a list of its rows; or nothing does
abbrev pub SaysMovement : Option Data → AskedMovement → Type 0
SaysMovement None asked = asked ≡ Nothing
SaysMovement (Some d) Nothing = ⊥
SaysMovement (Some d) (Word word) = as_str d ≡ Some (text_of_word word)
SaysMovement (Some d) (Rows rows) = (items : Items) × (as_array d ≡ Some items) × AreRows items rows

-- the movement that is asked for
abbrev pub asked_movement : Member AskedMovement
asked_movement = record { name = codes "movement"; value = movement_said; Is = SaysMovement }

-- ---- beside it

-- by how many tables a set may be played in a round
abbrev pub shared_by : Member (Option ℕ)
shared_by = if_there (numbered (codes "shared_by"))

-- in how many of the last rounds the pairs sit the other way round
abbrev pub switched_rounds : Member (Option ℕ)
switched_rounds = if_there (numbered (codes "switched"))

-- how many rounds of a movement may be switched, where that is said: in a Howell the pairs change sides by themselves
abbrev pub IsSwitched : MovementWord → ℕ → Option ℕ → Type 0
IsSwitched Mitchell rounds switched = IfSome switched (λ many. many ≤ rounds)
IsSwitched Howell rounds switched = switched ≡ None
IsSwitched ShareAndRelay rounds switched = IfSome switched (λ many. many ≤ rounds)
IsSwitched Web rounds switched = IfSome switched (λ many. many ≤ rounds)

-- where they may stand: a number of tables beside a list alone, and one of switched rounds beside a word alone
abbrev pub StandsBeside : AskedMovement → ℕ → Option ℕ → Option ℕ → Type 0
StandsBeside Nothing rounds tables switched = (tables ≡ None) × (switched ≡ None)
StandsBeside (Word word) rounds tables switched = (tables ≡ None) × IsSwitched word rounds switched
StandsBeside (Rows rows) rounds tables switched =
    IfSome tables (λ many. (1 ≤ many) × (many ≤ most_tables)) × (switched ≡ None)

-- whether they do
abbrev pub is_switched : MovementWord → ℕ → Option ℕ → Bool
is_switched Mitchell rounds switched = nat_le (unwrap_or switched 0) rounds
is_switched Howell rounds switched = is_none switched
is_switched ShareAndRelay rounds switched = nat_le (unwrap_or switched 0) rounds
is_switched Web rounds switched = nat_le (unwrap_or switched 0) rounds

abbrev pub stands_beside : AskedMovement → ℕ → Option ℕ → Option ℕ → Bool
stands_beside Nothing rounds tables switched = is_none tables && is_none switched
stands_beside (Word word) rounds tables switched = is_none tables && is_switched word rounds switched
stands_beside (Rows rows) rounds tables switched =
    (nat_le 1 (unwrap_or tables 1) && nat_le (unwrap_or tables 1) most_tables) && is_none switched
