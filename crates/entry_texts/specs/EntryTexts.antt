-- An entry as two texts: who gave it, and the JSON of its command.
use Rattle.std.specs.Prelude.{◌≡◌, ℕ, List, ◌++◌, codes, Some, string_bytes}
use Rattle.serde_json.specs.Read.{read}
use Rattle.serde_json.specs.Written.{compact_text}
use Rattle.session_commands.specs.declared.actor.Actor.{Actor}
use Rattle.session_commands.specs.declared.actor.Actor.TheVariants.{User, Solver}
use Rattle.session_commands.specs.declared.command.Command.{Command}
use Rattle.session_commands.specs.declared.entry.Entry.{Entry}
use Rattle.command_writing.specs.CommandData.{command_data}
use Rattle.command_writing.specs.Values.{IsName}
use Rattle.command_writing.specs.Writable.{IsWritable}
use Rattle.entry_texts.specs.declared.writing.EntryText.{EntryText}

-- the bytes of both
pub record Texts : Type 0 where
  pub actor : List ℕ
  pub command : List ℕ

-- who gave it: a user by name, or the solver
abbrev pub actor_text : Actor → List ℕ
actor_text (User name) = codes "user " ++ name
actor_text Solver = codes "solver"

-- the JSON of a command, without spaces
abbrev pub command_text : Command → List ℕ
command_text command = compact_text (command_data command)

-- the texts of an entry
abbrev pub texts_of_entry : Entry → Texts
texts_of_entry entry = record { actor = actor_text entry.actor; command = command_text entry.command }

-- the bytes of the texts that were made
abbrev pub texts_in : EntryText → Texts
texts_in text = record { actor = string_bytes text.actor; command = string_bytes text.command }

-- ---- entries that there are

-- a user's name is no longer than a name is
abbrev pub IsActor : Actor → Type 0
IsActor (User name) = IsName name
IsActor Solver = Unit {0}

-- its name and its numbers are such as their types keep, and its command's text is JSON of that command: so is each
-- entry that was made
pub record IsKeepable (entry : Entry) : Type 0 where
  pub actor : IsActor entry.actor
  pub command : IsWritable entry.command
  pub json : read (command_text entry.command) ≡ Some (command_data entry.command)
