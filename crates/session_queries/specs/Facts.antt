-- The facts of a section, in their order.
use Rattle.std.specs.Prelude.{ℕ, Bool, true, ◌&&◌, nat_eq, nat_le, List, [], ◌∷◌, ◌++◌, map, filter}
use Rattle.std.specs.List.{flat_map, range_with_len}
use Rattle.movement.specs.declared.cell.Cell.{Cell}
use Rattle.movement.specs.Movement.{Section, boards_of, has_board}
use Rattle.movement.specs.Schedule.{is_scheduled}
use Rattle.denials.specs.Evidence.{denied_board, denied_table}
use Rattle.disclosure_rules.specs.declared.fact.Fact.{Fact}
use Rattle.disclosure_rules.specs.declared.fact.Fact.TheVariants.{Public, Accounts, Hands, Analysis, Result, Play, Cost}
use Rattle.disclosure_rules.specs.declared.fact.Fact.TheVariants.{Reason}

-- a table on a board
abbrev pub cell_on : ℕ → ℕ → Cell
cell_on board table = record { table = table; board = board }

-- the cells of a board, table by table
abbrev pub cells_of_board : Section → ℕ → List Cell
cells_of_board section board = filter (is_scheduled section) (map (cell_on board) (range_with_len 1 section.tables))

-- the facts of a cell
abbrev pub facts_of_cell : Cell → List Fact
facts_of_cell cell = Result cell ∷ Play cell ∷ Cost cell ∷ Reason cell ∷ []

-- the facts of a board: its hands, its analysis, and those of its cells
abbrev pub facts_of_board : Section → ℕ → List Fact
facts_of_board section board = Hands board ∷ Analysis board ∷ flat_map facts_of_cell (cells_of_board section board)

-- the boards of a section
abbrev pub boards : Section → List ℕ
boards section = range_with_len 1 (boards_of section)

-- the facts of a section: what every member may see, the accounts, and those of each board
abbrev pub facts : Section → List Fact
facts section = Public ∷ Accounts ∷ flat_map (facts_of_board section) (boards section)

-- what kind of fact it is
abbrev pub kind_of : Fact → ℕ
kind_of Public = 0
kind_of Accounts = 1
kind_of (Hands board) = 2
kind_of (Analysis board) = 3
kind_of (Result cell) = 4
kind_of (Play cell) = 5
kind_of (Cost cell) = 6
kind_of (Reason cell) = 7

-- whether two facts are one: of one kind, of one board and of one table
unfoldable pub same_fact : Fact → Fact → Bool
same_fact a b =
    nat_eq (kind_of a) (kind_of b)
    && (nat_eq (denied_board a) (denied_board b) && nat_eq (denied_table a) (denied_table b))

-- whether the section has a table on a board: both are the section's, and the table plays the board
abbrev pub has_table_on : Section → Cell → Bool
has_table_on section cell =
    has_board section cell.board
    && (nat_le 1 cell.table && (nat_le cell.table section.tables && is_scheduled section cell))

-- whether the section has what a fact belongs to: its board, or its table on its board
abbrev pub has_place : Section → Fact → Bool
has_place section Public = true
has_place section Accounts = true
has_place section (Hands board) = has_board section board
has_place section (Analysis board) = has_board section board
has_place section (Result cell) = has_table_on section cell
has_place section (Play cell) = has_table_on section cell
has_place section (Cost cell) = has_table_on section cell
has_place section (Reason cell) = has_table_on section cell
