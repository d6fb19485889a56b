-- The state of a session, as plain lists.
use Rattle.std.specs.Prelude.{
  ◌≡◌,
  ◌≤◌,
  ℕ,
  ◌+◌,
  ◌-◌,
  ◌*◌,
  Bool,
  ◌&&◌,
  nat_eq,
  Option,
  None,
  List,
  slice_get,
  slice_index_or,
  slice_set,
  refl,
}
use Rattle.std.specs.List.{find}
use Rattle.std.specs.Option.{option_map}
use Rattle.std.specs.Cmp.Lexicographic.{pointwise}
use Rattle.std.specs.Coded.{Coded, code_by, coded×, coded_list, coded_option}
use Rattle.cards.specs.Cards.{are_same}
use Rattle.cards.specs.Hands.{Hands, hands_code}
use Rattle.session_roles.specs.declared.role.Role.{Role}
use Rattle.rbac.specs.Authorization.{authorized_roles}
use Rattle.rbac.specs.RoleData.{RoleData}
use Rattle.rbac.specs.contracts.roles.Roles as the_roles
use Rattle.movement.specs.declared.cell.Cell.{Cell}
use Rattle.movement.specs.Movement.{most_tables, most_boards}
use Rattle.disclosure_rules.specs.declared.public.Public.{Public}
use Rattle.disclosure_rules.specs.contracts.public.Public as the_public
use Rattle.disclosure_rules.specs.LiveCells.{is_live}
use Rattle.disclosure_rules.specs.Seating.{some_that}
use Rattle.disclosure_rules.specs.declared.seat.Seat.{Seat}
use Rattle.disclosure_rules.specs.declared.viewer.Viewer.{Viewer}
use Rattle.user_names.specs.declared.digest.Digest.{Digest}
use Rattle.user_names.specs.contracts.digest.Digest as the_digest
use Rattle.user_names.specs.contracts.shown_name.ShownName as the_shown_name
use Rattle.notices.specs.declared.notices.Notices.{Notices}
use Rattle.notices.specs.contracts.notices.Notices as the_notices
use Rattle.session_state.specs.declared.seated.Seated.{Seated}
use Rattle.session_state.specs.contracts.seated.Seated as the_seated
use Rattle.session_commands.specs.declared.cell_state.CellState.{CellState}
use Rattle.session_commands.specs.declared.cell_state.CellState.TheVariants.{Empty}
use Rattle.session_commands.specs.contracts.cell_state.CellState as the_cell_state
use Rattle.session_commands.specs.CellState.{has_result}

-- the users with their roles and the role hierarchy, in the order of the accounts the digest of each user's token and
-- the name to show, which is empty where there is none, where users sit, what every member may see, what is known of
-- each cell, of board 1, 2, .. the hands, and the double-dummy table, if it is solved, and what the session tells its
-- members of itself. A table is seen as the deal that it is of, since its type keeps the numbers
pub record SessionState : Type 0 where
  pub roles : RoleData
  pub digests : List Digest
  pub names : List (List ℕ)
  pub seats : List Seated
  pub public : Public
  pub cells : List CellState
  pub deals : List Hands
  pub tables : List (Option Hands)
  pub notices : Notices

-- a state is stored as the tuple of its parts
abbrev pub session_code : Coded SessionState
session_code =
    code_by
    (RoleData × (List Digest × (List (List ℕ) × (List Seated × (Public × (List CellState × (List Hands ×
    (List (Option Hands) × Notices))))))))
    (coded× the_roles.the_row.coded (coded× (coded_list the_digest.the_row.coded)
    (coded× (coded_list the_shown_name.the_row.coded)
    (coded× (coded_list the_seated.the_row.coded) (coded× the_public.the_row.coded
    (coded× (coded_list the_cell_state.the_row.coded) (coded× (coded_list hands_code)
    (coded× (coded_list (coded_option hands_code)) the_notices.the_row.coded))))))))
    (λ s. (s.roles, (s.digests, (s.names, (s.seats, (s.public, (s.cells, (s.deals, (s.tables, s.notices)))))))))
    (λ p. record {
      roles = p.0;
      digests = p.1.0;
      names = p.1.1.0;
      seats = p.1.1.1.0;
      public = p.1.1.1.1.0;
      cells = p.1.1.1.1.1.0;
      deals = p.1.1.1.1.1.1.0;
      tables = p.1.1.1.1.1.1.1.0;
      notices = p.1.1.1.1.1.1.1.1;
    })
    (λ _. refl)

-- how many cells there is room for: each table on each board
abbrev pub most_cells : ℕ
most_cells = most_tables * most_boards

-- where a cell stands among the cells: the tables of board 1 come first, then those of board 2, and so on
abbrev pub cell_index : Cell → ℕ
cell_index cell = (cell.board - 1) * most_tables + (cell.table - 1)

-- a place is kept for the cell
pub record IsPlaced (cell : Cell) : Type 0 where
  pub from_table : 1 ≤ cell.table
  pub to_table : cell.table ≤ most_tables
  pub from_board : 1 ≤ cell.board
  pub to_board : cell.board ≤ most_boards

-- a place is kept for a board of this number
abbrev pub IsKeptBoard : ℕ → Type 0
IsKeptBoard board = (1 ≤ board) × (board ≤ most_boards)

-- what is known of a cell
abbrev pub cell_at : SessionState → Cell → CellState
cell_at state cell = slice_index_or state.cells (cell_index cell) Empty

-- with something else known of a cell
abbrev pub with_cell : SessionState → Cell → CellState → SessionState
with_cell state cell known = record state { cells = slice_set state.cells (cell_index cell) known }

-- the table of a board, if it is solved
abbrev pub table_at : SessionState → ℕ → Option Hands
table_at state board = slice_index_or state.tables (board - 1) None

-- whether two deals are one
abbrev pub same_hands : Hands → Hands → Bool
same_hands a b =
    are_same a.north b.north && (are_same a.east b.east && (are_same a.south b.south && are_same a.west b.west))

-- whether these are the hands of a board
abbrev pub is_dealt : SessionState → ℕ → Hands → Bool
is_dealt state board hands = some_that (slice_get state.deals (board - 1)) (same_hands hands)

-- the live bits are set just where a cell has a result
abbrev pub AreLive : List (List ℕ) → List CellState → Type 0
AreLive live cells =
    (cell : Cell) → IsPlaced cell → is_live live cell ≡ has_result (slice_index_or cells (cell_index cell) Empty)

-- the roles that a user is authorized for, if the user has an account
abbrev pub authorized_of : SessionState → List ℕ → Option (List Role)
authorized_of state name = authorized_roles state.roles name

-- where a user sits, if the user sits somewhere
abbrev pub seat_of : SessionState → List ℕ → Option Seat
seat_of state name =
    option_map (λ seated. seated.seat) (find (λ (seated : Seated). pointwise nat_eq seated.name name) state.seats)

-- a user as the policy sees one
abbrev pub viewer_of : SessionState → List ℕ → Viewer
viewer_of state name = record { roles = authorized_of state name; seat = seat_of state name }
