-- What is written of a session's status: what every member may see.
use Rattle.std.specs.Prelude.{ℕ, Bool, true, false, Option, None, Some, option_map, List, [], ◌∷◌, ◌++◌, take, codes}
use Rattle.std.specs.List.{range_with_len}
use Rattle.serde_json.specs.Data.{Data, boolean, string, array, object}
use Rattle.serde_json.specs.View.{items_of}
use Rattle.table_terms.specs.Pair.{pair_text}
use Rattle.table_terms.specs.Place.{place_letter}
use Rattle.table_terms.specs.Vulnerability.{vulnerability_text}
use Rattle.session_roles.specs.declared.edition.Edition.{Edition}
use Rattle.session_roles.specs.declared.edition.Edition.TheVariants.{First, Second}
use Rattle.movement.specs.declared.row.Row.{Row}
use Rattle.movement.specs.Movement.{rows, boards_of}
use Rattle.disclosure_rules.specs.declared.marks.Marks.{Marks}
use Rattle.disclosure_rules.specs.declared.phase.Phase.{Phase}
use Rattle.disclosure_rules.specs.declared.phase.Phase.TheVariants.{Running, Closed, Final}
use Rattle.disclosure_rules.specs.declared.public.Public.{Public}
use Rattle.disclosure_rules.specs.LiveCells.{is_live}
use Rattle.small_sets.specs.Numbers.{has_number, numbers_that}
use Rattle.session_state.specs.declared.seated.Seated.{Seated}
use Rattle.session_state.specs.declared.shown_user.ShownUser.{ShownUser}
use Rattle.notices.specs.declared.notices.Notices.{Notices}
use Rattle.reply_texts.specs.DataOf.{number_data, list_data}
use Rattle.reply_texts.specs.Slots.{Slot, always, perhaps, members_of}

abbrev pub phase_name : Phase → List ℕ
phase_name Running = codes "Running"
phase_name Closed = codes "Closed"
phase_name Final = codes "Final"

-- the boards of the section that are held, in ascending order
abbrev pub held_boards : Public → List ℕ
held_boards public = numbers_that (boards_of public.movement) (has_number public.held)

-- the tables of the section that have a result on a board, in ascending order
abbrev pub live_tables : Public → ℕ → List ℕ
live_tables public board =
    numbers_that public.movement.tables (λ table. is_live public.live (record { table = table; board = board }))

-- the tables that have a result on a board, as a list
abbrev pub tables_data : Public → ℕ → Data
tables_data public board = list_data number_data (live_tables public board)

-- a list of tables for each board, from board 1 on
abbrev pub live_data : Public → Data
live_data public = list_data (tables_data public) (range_with_len 1 (boards_of public.movement))

-- a board's marks: the dealer's letter and who is vulnerable, as `E ns`
abbrev pub marks_text : Marks → List ℕ
marks_text marks = (place_letter marks.dealer ∷ []) ++ (codes " " ++ vulnerability_text marks.vulnerability)

abbrev pub mark_data : Marks → Data
mark_data marks = string (marks_text marks)

-- the marks of each board of the section, from board 1 on
abbrev pub marks_data : Public → Data
marks_data public = list_data mark_data (take (boards_of public.movement) public.marks)

-- what a table plays in a round: the round, the table, the set, and who sits there North-South and East-West
abbrev pub movement_row_data : Row → Data
movement_row_data row =
    array (items_of (number_data row.round
    ∷ number_data row.table
    ∷ number_data row.set
    ∷ string (pair_text row.north_south)
    ∷ string (pair_text row.east_west)
    ∷ []))

-- a user's name, pair and place
abbrev pub seat_data : Seated → Data
seat_data seated =
    array (items_of (string seated.name
    ∷ string (pair_text seated.seat.pair)
    ∷ string (place_letter seated.seat.place ∷ [])
    ∷ []))

-- a user's name, and the name to show in its place
abbrev pub shown_data : ShownUser → Data
shown_data user = array (items_of (string user.name ∷ string user.shown ∷ []))

-- a list, where it isn't empty
abbrev pub some_list : {A : Type 0} → (A → Data) → List A → Option Data
some_list data_of [] = None
some_list data_of (x ∷ xs) = Some (list_data data_of (x ∷ xs))

-- the number of the second edition, which alone is told
abbrev pub edition_data : Edition → Option Data
edition_data First = None
edition_data Second = Some (number_data 2)

-- whether there is an embargo, which the second edition knows
abbrev pub embargo_data : Edition → Bool → Option Data
embargo_data First embargo = None
embargo_data Second embargo = Some (boolean embargo)

-- the rows of a movement that was named, by set and then by table
abbrev pub movement_data : Bool → List Row → Option Data
movement_data false rows = None
movement_data true rows = Some (list_data movement_row_data rows)

-- the members of a status, in the order of their names: the first of them,
abbrev pub first_slots : Public → Notices → List Slot
first_slots public notices =
    perhaps (codes "absent") (option_map (λ pair. string (pair_text pair)) public.movement.absent)
    ∷ perhaps (codes "date") (option_map (λ date. string date) notices.date)
    ∷ perhaps (codes "edition") (edition_data public.edition)
    ∷ perhaps (codes "embargo") (embargo_data public.edition public.embargo)
    ∷ []

-- those of boards and users,
abbrev pub board_slots : Public → List ShownUser → List Slot
board_slots public names =
    always (codes "held") (list_data number_data (held_boards public))
    ∷ always (codes "live") (live_data public)
    ∷ always (codes "marks") (marks_data public)
    ∷ perhaps (codes "movement") (movement_data public.movement.is_named (rows public.movement))
    ∷ perhaps (codes "names") (some_list shown_data names)
    ∷ []

-- of what has come,
abbrev pub progress_slots : Public → Notices → List Slot
progress_slots public notices =
    always (codes "per_set") (number_data public.movement.per_set)
    ∷ always (codes "phase") (string (phase_name public.phase))
    ∷ perhaps (codes "reasons") (some_list (λ reason. string reason) notices.reasons)
    ∷ always (codes "round") (number_data public.round)
    ∷ always (codes "rounds") (number_data public.movement.rounds)
    ∷ []

-- and the last
abbrev pub last_slots : Public → List Seated → Notices → List Slot
last_slots public seats notices =
    always (codes "seats") (list_data seat_data seats)
    ∷ always (codes "tables") (number_data public.movement.tables)
    ∷ perhaps (codes "title") (option_map (λ title. string title) notices.title)
    ∷ []

-- all of them
abbrev pub status_slots : Public → List Seated → List ShownUser → Notices → List Slot
status_slots public seats names notices =
    first_slots public notices
    ++ (board_slots public names ++ (progress_slots public notices ++ last_slots public seats notices))

-- the status: those of its members that aren't left out
abbrev pub status_data : Public → List Seated → List ShownUser → Notices → Data
status_data public seats names notices = object (members_of (status_slots public seats names notices))
