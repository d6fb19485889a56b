-- The program's command line, as `clap` reads it: a subcommand `script` with nothing after it, and subcommands `serve`,
-- `audit`, `copy`, `check`, `prepare` and `report` with options, of which each has a value. `clap` adds its help and the version.
use Rattle.std.specs.Prelude.{Bool, ℕ, ℤ, List, [], ◌∷◌, ◌||◌, Some, true, false, not, pos, codes, drop, eqb}
use Rattle.std.specs.List.{list_any, starts_with}
use Rattle.std.specs.Str.{bytes_eq}
use Rattle.clap.specs.Words.{App, Rule, Text, new_app, new_rule, with_rule, with_subcommand}
use Rattle.server_words.specs.declared.words.TheConstants.{DISPLAYS_AT_MOST, MOST_WORKERS, MOST_CONNECTIONS, MOST_BUDGET, CLIENTS_AT_MOST}
use Rattle.clap.specs.declared.builder.value_parser.ValueParser.TheVariants.{Signed}

-- own: each number's limits
abbrev pub least_port : ℕ
least_port = 1

abbrev pub most_port : ℕ
most_port = 65535

abbrev pub least_displays : ℕ
least_displays = 1

abbrev pub most_displays : ℕ
most_displays = DISPLAYS_AT_MOST

abbrev pub most_workers : ℕ
most_workers = MOST_WORKERS

abbrev pub most_connections : ℕ
most_connections = MOST_CONNECTIONS

abbrev pub least_clients : ℕ
least_clients = 1

abbrev pub most_clients : ℕ
most_clients = CLIENTS_AT_MOST

abbrev pub least_idle : ℕ
least_idle = 1

abbrev pub most_idle : ℕ
most_idle = 86400

-- an option of this name
abbrev pub option_rule : Text → Rule
option_rule name = record (new_rule name) { long = Some name; value_names = 1 }

-- an option that names a file, and that may have to be there
abbrev pub file_rule : Bool → Text → Rule
file_rule needed name = record (option_rule name) { required = needed }

-- an option with a number from one limit to the other
abbrev pub number_rule : Text → ℤ → ℤ → Rule
number_rule name least most = record (option_rule name) { parser = Some (Signed least most) }

-- an option with such a number, which is this one where the option isn't there
abbrev pub default_rule : Text → ℤ → ℤ → Text → Rule
default_rule name least most default = record (number_rule name least most) { defaults = default ∷ [] }

-- the files of the session, if they are needed, and its journal
abbrev pub with_files : Bool → App → App
with_files needed line =
    with_rule
    (with_rule (with_rule line (file_rule needed (codes "session"))) (file_rule needed (codes "deals")))
    (option_rule (codes "journal"))

abbrev pub port_rule : Rule
port_rule = record (number_rule (codes "port") (pos least_port) (pos most_port)) { required = true }

abbrev pub displays_rule : Rule
displays_rule = default_rule (codes "displays") (pos least_displays) (pos most_displays) (codes "4")

abbrev pub workers_rule : Rule
workers_rule = default_rule (codes "workers") (pos 0) (pos most_workers) (codes "2")

abbrev pub connections_rule : Rule
connections_rule = default_rule (codes "connections") (pos 0) (pos most_connections) (codes "0")

-- how many of each there are
abbrev pub with_counts : App → App
with_counts line = with_rule (with_rule (with_rule line displays_rule) workers_rule) connections_rule

abbrev pub idle_rule : Rule
idle_rule = default_rule (codes "idle") (pos least_idle) (pos most_idle) (codes "300")

abbrev pub clients_rule : Rule
clients_rule = default_rule (codes "clients") (pos least_clients) (pos most_clients) (codes "1000")

-- how many clients there may be, what is asked of each, what is handed out, where, and where it is logged: options that may
-- be left out stand last
abbrev pub with_clients : App → App
with_clients line =
    with_rule
    (with_rule
    (with_rule
    (with_rule (with_rule (with_rule line clients_rule) idle_rule) (option_rule (codes "origin")))
    (option_rule (codes "page")))
    (option_rule (codes "listen")))
    (option_rule (codes "log"))

-- how clients are served, where the files of the session may be needed
abbrev pub serve_line : Bool → App
serve_line needed = with_clients (with_counts (with_rule (with_files needed (new_app (codes "serve"))) port_rule))

-- which journal's audit is told
abbrev pub audit_line : App
audit_line = with_rule (new_app (codes "audit")) (file_rule true (codes "journal"))

-- which journal is copied, and to where
abbrev pub copy_line : App
copy_line =
    with_rule (with_rule (new_app (codes "copy")) (file_rule true (codes "journal"))) (file_rule true (codes "to"))

-- of which journal a report is written, and in which form
abbrev pub report_line : App
report_line =
    with_rule (with_rule (new_app (codes "report")) (file_rule true (codes "journal"))) (file_rule true (codes "as"))

-- which session is looked at: its deals may be left out
abbrev pub check_line : App
check_line =
    with_rule (with_rule (new_app (codes "check")) (file_rule true (codes "session"))) (file_rule false (codes "deals"))

-- one of the subcommands has to be there
-- a number that has to be there
abbrev pub needed_number : Text → ℤ → ℤ → Rule
needed_number name least most = record (number_rule name least most) { required = true }

-- an option of this name whose value is this text where the option isn't there
abbrev pub default_option : Text → Text → Rule
default_option name default = record (option_rule name) { defaults = default ∷ [] }

-- own: the most visits of a solver's call
abbrev pub most_budget : ℤ
most_budget = MOST_BUDGET

-- what a session is prepared of, and to where
unfoldable pub with_prepared_files : App → App
with_prepared_files line =
    with_rule
    (with_rule (with_rule line (file_rule true (codes "people"))) (file_rule true (codes "deals")))
    (file_rule true (codes "to"))

-- the numbers of its movement
unfoldable pub with_movement_numbers : App → App
with_movement_numbers line =
    with_rule
    (with_rule (with_rule line (needed_number (codes "tables") (pos 0) (pos 255)))
    (needed_number (codes "rounds") (pos 0) (pos 255)))
    (needed_number (codes "per-set") (pos 0) (pos 255))

-- what else may be said of it
unfoldable pub with_movement_words : App → App
with_movement_words line =
    with_rule
    (with_rule (with_rule line (option_rule (codes "movement"))) (default_rule (codes "switched") (pos 0) (pos 255) (codes "0")))
    (option_rule (codes "absent"))

-- what is said of the session besides
unfoldable pub with_notice_words : App → App
with_notice_words line =
    with_rule
    (with_rule (with_rule line (default_rule (codes "budget") (pos 0) most_budget (codes "10000000")))
    (option_rule (codes "title")))
    (option_rule (codes "date"))

-- the same, and where people sign in
unfoldable pub with_session_words : App → App
with_session_words line =
    with_rule (with_notice_words line) (default_option (codes "address") (codes "http://localhost:8000/"))

-- how a session is prepared
unfoldable pub prepare_line : App
prepare_line =
    with_session_words (with_movement_words (with_movement_numbers (with_prepared_files (new_app (codes "prepare")))))

-- one of the subcommands has to be there, and the version may be asked for
abbrev pub needing_one : App
needing_one =
    let plain = new_app (codes "bridge_server") in
    record plain { top = record plain.top { subcommand_required = true; has_version = true } }

-- the whole, where the files of the session may be needed
abbrev pub command_line : Bool → App
command_line needed =
    with_subcommand
    (with_subcommand
    (with_subcommand
    (with_subcommand
    (with_subcommand
    (with_subcommand
    (with_subcommand
    needing_one
    (new_app (codes "script")).top)
    (serve_line needed).top)
    audit_line.top)
    copy_line.top)
    check_line.top)
    prepare_line.top)
    report_line.top

-- a word is an option, or the option with its value, which begins so
abbrev pub is_option : Text → Text → Text → Bool
is_option alone beginning word = bytes_eq word alone || starts_with eqb word beginning

-- one of the words after the program's name is this option
abbrev pub names_option : Text → Text → List Text → Bool
names_option alone beginning words = list_any (is_option alone beginning) (drop 1 words)

-- the files of a session are needed, unless words name a journal and neither file
abbrev pub needs_files : List Text → Bool
needs_files words =
    not (names_option (codes "--journal") (codes "--journal=") words)
    || (names_option (codes "--session") (codes "--session=") words
    || names_option (codes "--deals") (codes "--deals=") words)

-- the command line by which words are read
abbrev pub line_for : List Text → App
line_for words = command_line (needs_files words)
