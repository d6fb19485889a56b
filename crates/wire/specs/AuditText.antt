-- What is written of an audit: a JSON text with no space.
--
-- own: the rows tell who gave which command and what it is about.
use Rattle.std.specs.Prelude.{ℕ, List, [], ◌∷◌, ◌++◌, map, codes}
use Rattle.std.specs.Fmt.{decimal}
use Rattle.serde_json.specs.Data.{Data, null, string, number, unsigned, array, object, member, no_members}
use Rattle.serde_json.specs.View.{items_of}
use Rattle.serde_json.specs.Written.{compact_text}
use Rattle.session_roles.specs.Role.{role_name}
use Rattle.session_book.specs.declared.audit.AuditRow.{AuditRow}
use Rattle.session_commands.specs.declared.actor.Actor.{Actor}
use Rattle.session_commands.specs.declared.actor.Actor.TheVariants.{User, Solver}
use Rattle.session_commands.specs.declared.target.Target.{Target}
use Rattle.session_commands.specs.declared.target.Target.TheVariants as about
use Rattle.session_commands.specs.Row.{word_text}

-- what a command is about: a table's number and the board's, as `2/14`; a board's; a user; a user's role, as
-- `d:Director`; the senior role and the junior one that it inherits, as `Director>Scorer`; nothing, where it is the
-- session
abbrev pub target_text : Target → List ℕ
target_text about.Session = []
target_text (about.Cell cell) = decimal cell.table ++ (codes "/" ++ decimal cell.board)
target_text (about.Board board) = decimal board
target_text (about.NewUser name) = name
target_text (about.User name) = name
target_text (about.Assignment name role) = name ++ (codes ":" ++ role_name role)
target_text (about.Inheritance senior junior) = role_name senior ++ (codes ">" ++ role_name junior)

-- who gave a command: a user's name, or null for the solver
abbrev pub actor_data : Actor → Data
actor_data (User name) = string name
actor_data Solver = null

-- an entry's number, who gave the command, how it is called, and what it is about
abbrev pub audit_row_data : AuditRow → Data
audit_row_data row =
    array (items_of (number (unsigned row.number)
    ∷ actor_data row.actor
    ∷ string (word_text row.word)
    ∷ string (target_text row.target)
    ∷ []))

-- a row as it is written by itself
unfoldable pub audit_row_text : AuditRow → List ℕ
audit_row_text row = compact_text (audit_row_data row)

-- the rows, at a version
abbrev pub audit_data : List AuditRow → ℕ → Data
audit_data rows version =
    object (member (codes "audit") (array (items_of (map audit_row_data rows)))
    (member (codes "version") (number (unsigned version)) no_members))

-- the audit as it is written
unfoldable pub audit_text : List AuditRow → ℕ → List ℕ
audit_text rows version = compact_text (audit_data rows version)

-- what a user is told who has no permission for the audit: no version
abbrev pub refusal_data : Data
refusal_data = object (member (codes "error") (string (codes "NotPermitted")) no_members)

-- and how it is written
unfoldable pub audit_refusal_text : List ℕ
audit_refusal_text = compact_text refusal_data
