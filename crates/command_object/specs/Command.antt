-- The commands of a batch: objects, each with its word in the member `cmd`.
use Rattle.std.specs.Prelude.{◌≡◌, ℕ, List, [], ◌∷◌, Bool, false, not, ◌||◌, codes, Option, Some, None, option_and_then}
use Rattle.serde_json.specs.Data.{Data, Items, no_items, item}
use Rattle.movement.specs.declared.cell.Cell.{Cell}
use Rattle.session_commands.specs.declared.command.Command.{Command}
use Rattle.session_commands.specs.declared.command.Command.TheVariants.{
  Enter,
  Confirm,
  Correct,
  Rule,
  Void,
  Hold,
  Release,
}
use Rattle.session_commands.specs.declared.command.Command.TheVariants.{Seat, Unseat, NextRound, Close, Finalise}
use Rattle.session_commands.specs.declared.command.Command.TheVariants.{AddUser, Assign, Deassign, AddInheritance}
use Rattle.session_commands.specs.declared.command.Command.TheVariants.{DeleteInheritance, Embargo, Lift, Rename}
use Rattle.session_roles.specs.declared.edition.Edition.{Edition}
use Rattle.session_roles.specs.declared.edition.Edition.TheVariants.{First, Second}
use Rattle.session_roles.specs.declared.role.Role.{Role}
use Rattle.json_fields.specs.Form.{Member, Form, form, ◌with◌, is_word_of, by_word, HasFormOf, each}
use Rattle.json_fields.specs.Field.{text, text_at, numbered}
use Rattle.json_fields.specs.Message.{table, board}
use Rattle.command_object.specs.Result.{outcome}
use Rattle.command_object.specs.Play.{play}
use Rattle.json_fields.specs.User.{user_name, new_shown, digest, role_named, IsRole, pair, place}

-- a ruling: a percentage for each side, and the number of its reason
abbrev pub north_south : Member ℕ
north_south = numbered (codes "ns")

abbrev pub east_west : Member ℕ
east_west = numbered (codes "ew")

abbrev pub reason : Member ℕ
reason = numbered (codes "reason")

-- a member of this name that is the name of a role, of those that an edition of the policy knows
abbrev pub role_called : Edition → List ℕ → Member Role
role_called edition name = record {
  name = name;
  value = λ o. option_and_then (role_named edition) (text o);
  Is = λ o role. IsRole edition (text o) role;
}

-- the role that is assigned, or taken away
abbrev pub role : Edition → Member Role
role edition = role_called edition (codes "role")

-- the two roles of an inheritance pair
abbrev pub senior : Edition → Member Role
senior edition = role_called edition (codes "senior")

abbrev pub junior : Edition → Member Role
junior edition = role_called edition (codes "junior")

-- the cell of a table and a board
abbrev pub cell : ℕ → ℕ → Cell
cell table board = record { table = table; board = board }

-- the commands that an edition has beside those of the first
abbrev pub added_commands : Edition → List (Form Command)
added_commands First = []
added_commands Second =
    form (codes "Embargo") Embargo
    ∷ form (codes "Lift") Lift
    ∷ (form (codes "Rename") Rename with user_name with new_shown)
    ∷ []

-- each command of an edition: its word and its members, of which `play` may be left out
abbrev pub commands : Edition → List (Form Command)
commands edition =
    (form (codes "Enter") (λ t b o p. Enter (cell t b) o p) with table with board with outcome with play)
    ∷ (form (codes "Confirm") (λ t b o. Confirm (cell t b) o) with table with board with outcome)
    ∷ (form (codes "Correct") (λ t b o p. Correct (cell t b) o p) with table with board with outcome with play)
    ∷ (form (codes "Rule") (λ t b n e r. Rule (cell t b) n e r) with table with board with north_south with east_west
    with reason)
    ∷ (form (codes "Void") (λ t b. Void (cell t b)) with table with board)
    ∷ (form (codes "Hold") Hold with board)
    ∷ (form (codes "Release") Release with board)
    ∷ (form (codes "Seat") Seat with user_name with pair with place)
    ∷ (form (codes "Unseat") Unseat with user_name)
    ∷ form (codes "NextRound") NextRound
    ∷ form (codes "Close") Close
    ∷ form (codes "Finalise") Finalise
    ∷ (form (codes "AddUser") AddUser with user_name with digest)
    ∷ (form (codes "Assign") Assign with user_name with role edition)
    ∷ (form (codes "Deassign") Deassign with user_name with role edition)
    ∷ (form (codes "AddInheritance") AddInheritance with senior edition with junior edition)
    ∷ (form (codes "DeleteInheritance") DeleteInheritance with senior edition with junior edition)
    ∷ added_commands edition

-- the command of a word
abbrev pub command_called : Edition → List ℕ → Data → Option Command
command_called edition word d = by_word (codes "cmd" ∷ []) (commands edition) word d

-- a command, by the word in its member `cmd`
unfoldable pub command_of : Edition → Data → Option Command
command_of edition d = option_and_then (λ word. command_called edition word d) (text_at (codes "cmd") d)

-- a command for each element
abbrev pub commands_in : Edition → Items → Option (List Command)
commands_in edition ds = each (command_of edition) ds

-- a text that stands there and names no command
abbrev pub is_other_word : Edition → Option (List ℕ) → Bool
is_other_word edition None = false
is_other_word edition (Some word) = not (is_word_of (commands edition) word)

-- an object whose `cmd` is a text that names no command
unfoldable pub is_unknown : Edition → Data → Bool
is_unknown edition d = is_other_word edition (text_at (codes "cmd") d)

-- some element is such an object
abbrev pub has_unknown : Edition → Items → Bool
has_unknown edition no_items = false
has_unknown edition (item d ds) = is_unknown edition d || has_unknown edition ds

-- its word is the command's, and its members are those of the command
abbrev pub IsCommand : Edition → Data → Command → Type 0
IsCommand edition d command =
    (word : List ℕ) × (text_at (codes "cmd") d ≡ Some word)
    × HasFormOf (codes "cmd" ∷ []) (commands edition) word d command
