-- The movements that a word names: at how many tables and for how many rounds each can be played, and who plays what.
--
-- own: the words; which numbers of tables and rounds are played; and that fewer rounds leave out the last ones, but in a web,
-- which has as many sets as rounds. In all but the Howell the North-South pairs stay at their tables, and the East-West pairs
-- move up one table a round.
use Rattle.std.specs.Prelude.{
  ℕ,
  ◌+◌,
  ◌-◌,
  ◌*◌,
  ◌/◌,
  ◌%◌,
  Bool,
  ◌&&◌,
  nat_eq,
  nat_lt,
  nat_le,
  if◌then◌else◌,
  List,
  map,
  codes,
}
use Rattle.std.specs.List.{flat_map, range_with_len}
use Rattle.table_terms.specs.declared.side.Side.TheVariants.{NorthSouth, EastWest}
use Rattle.mitchell.specs.Mitchell.{least_tables, most_tables, most_rounds, row_of}
use Rattle.movement.specs.Mitchell.{row_of_mitchell}
use Rattle.movement.specs.declared.row.Row.{Row}
use Rattle.named_movements.specs.Howell.{howell_row, howell_sets}
use Rattle.named_movements.specs.declared.movement_word.MovementWord.{MovementWord}
use Rattle.named_movements.specs.declared.movement_word.MovementWord.TheVariants.{Mitchell, Howell, ShareAndRelay, Web}

abbrev pub text_of_word : MovementWord → List ℕ
text_of_word Mitchell = codes "mitchell"
text_of_word Howell = codes "howell"
text_of_word ShareAndRelay = codes "share_and_relay"
text_of_word Web = codes "web"

-- whether the movement can be played at so many tables
abbrev pub can_have_tables : MovementWord → ℕ → Bool
can_have_tables Mitchell tables = nat_le least_tables tables && nat_le tables most_tables
can_have_tables Howell tables = nat_le 3 tables && nat_le tables 8
can_have_tables ShareAndRelay tables = nat_eq (tables % 2) 0 && (nat_le 4 tables && nat_le tables most_tables)
can_have_tables Web tables = nat_eq (tables % 2) 0 && (nat_le 6 tables && nat_le tables most_tables)

-- whether so many rounds of it can be played
abbrev pub can_have_rounds : MovementWord → ℕ → ℕ → Bool
can_have_rounds Mitchell tables rounds = nat_le 1 rounds && nat_le rounds (most_rounds tables)
can_have_rounds Howell tables rounds = nat_le 1 rounds && nat_le rounds (howell_sets tables)
can_have_rounds ShareAndRelay tables rounds = nat_le 1 rounds && nat_le rounds tables
can_have_rounds Web tables rounds = nat_eq (rounds % 2) 1 && nat_lt rounds tables

-- how many sets it has
abbrev pub sets_of_word : MovementWord → ℕ → ℕ → ℕ
sets_of_word Mitchell tables rounds = tables
sets_of_word Howell tables rounds = howell_sets tables
sets_of_word ShareAndRelay tables rounds = tables
sets_of_word Web tables rounds = rounds

-- by how many tables a set is played in one round at most. Two halves of a web go through all its sets, and where it has
-- fewer sets than half its tables each half begins anew
abbrev pub sharing_of_word : MovementWord → ℕ → ℕ → ℕ
sharing_of_word Mitchell tables rounds = 1
sharing_of_word Howell tables rounds = if nat_eq tables 3 then 3 else 1
sharing_of_word ShareAndRelay tables rounds = 2
sharing_of_word Web tables rounds = 2 * ((tables / 2 + rounds - 1) / rounds)

-- ---- who plays what, where tables, rounds, sets and pairs are counted from 0

-- the row of an East-West pair at a table whose North-South pair stays there
abbrev pub visit : ℕ → ℕ → ℕ → ℕ → Row
visit round table set east_west = record {
  round = round + 1;
  table = table + 1;
  set = set + 1;
  north_south = record { side = NorthSouth; number = table + 1 };
  east_west = record { side = EastWest; number = east_west + 1 };
}

-- the table of an East-West pair in a round: up one table a round
abbrev pub table_up : ℕ → ℕ → ℕ → ℕ
table_up tables east_west round = (east_west + round) % tables

-- share and relay: the sets move down one table a round. Between the two halves of the tables a set lies by for a round,
-- and so the last table plays the set of the first one, and they share it
abbrev pub relayed_set : ℕ → ℕ → ℕ → ℕ
relayed_set tables table round = (table + round + (if nat_le tables (2 * table) then 1 else 0)) % tables

-- a web: in the lower half of the tables the sets follow one another as in a Mitchell, with a set for each round; the
-- upper half has sets of its own, and goes through them backwards
abbrev pub web_set : ℕ → ℕ → ℕ → ℕ → ℕ
web_set tables rounds table round =
    if nat_lt (2 * table) tables
    then (table + round) % rounds
    else ((tables - 1 - table) + (rounds - 1 - round)) % rounds

abbrev pub relay_row : ℕ → ℕ → ℕ → Row
relay_row tables round east_west =
    let table = table_up tables east_west round in
    visit round table (relayed_set tables table round) east_west

abbrev pub web_row : ℕ → ℕ → ℕ → ℕ → Row
web_row tables rounds round east_west =
    let table = table_up tables east_west round in
    visit round table (web_set tables rounds table round) east_west

-- one of the rows of a round: what an East-West pair plays, and in a Howell what a table plays
abbrev pub row_of_word : MovementWord → ℕ → ℕ → ℕ → ℕ → Row
row_of_word Mitchell tables rounds round k = row_of_mitchell (row_of tables round k)
row_of_word Howell tables rounds round k = howell_row tables round k
row_of_word ShareAndRelay tables rounds round k = relay_row tables round k
row_of_word Web tables rounds round k = web_row tables rounds round k

-- the rows of so many rounds at so many tables
unfoldable pub rows_of_word : MovementWord → ℕ → ℕ → List Row
rows_of_word word tables rounds =
    flat_map (λ round. map (row_of_word word tables rounds round) (range_with_len 0 tables)) (range_with_len 0 rounds)
