-- What the texts of an entry tell of it.
use Rattle.std.specs.Prelude.{◌≡◌, false, Result, Ok, Err}
use Rattle.session_commands.specs.declared.actor.Actor.{Actor}
use Rattle.session_commands.specs.declared.actor.Actor.TheVariants.{User, Solver}
use Rattle.session_commands.specs.declared.command.Command.{Command}
use Rattle.session_commands.specs.declared.command.Command.TheVariants as command
use Rattle.session_commands.specs.declared.entry.Entry.{Entry}
use Rattle.session_commands.specs.Command.{is_solvers}
use Rattle.json_fields.specs.declared.request_fault.RequestFault.{RequestFault}
use Rattle.json_fields.specs.declared.request_fault.RequestFault.TheVariants as request
use Rattle.command_writing.specs.Writable.{IsSendable}
use Rattle.entry_texts.specs.declared.kept_entry.KeptEntry.{KeptEntry}
use Rattle.entry_texts.specs.declared.kept_entry.KeptEntry.TheVariants.{Given, Solved, Analysed}
use Rattle.entry_texts.specs.declared.text_fault.TextFault.{TextFault}
use Rattle.entry_texts.specs.declared.text_fault.TextFault.TheVariants.{Unreadable, OutOfMemory}

-- who gives a command that a client can send is a user
abbrev pub IsSentBy : Actor → Command → Type 0
IsSentBy (User name) given = IsSendable given
IsSentBy Solver given = ⊥

-- an entry that can be accepted: a user gives what a client can send; and what the solver tells may be given by whoever
-- it is, since its numbers aren't taken from a text
abbrev pub IsReadable : Actor → Command → Type 0
IsReadable actor (command.Solved board table) = Unit {0}
IsReadable actor (command.Analysed cell costs) = Unit {0}
IsReadable actor given = IsSentBy actor given

-- of what the solver tells the texts tell who gave it and what it is of, and of every other entry all that it is
abbrev pub kept_command : Entry → Command → KeptEntry
kept_command entry (command.Solved board table) = Solved entry.actor board table
kept_command entry (command.Analysed cell costs) = Analysed entry.actor cell costs.deal costs.contract costs.play
kept_command entry _ = Given entry

abbrev pub kept_of : Entry → KeptEntry
kept_of entry = kept_command entry entry.command

-- what reading gives for the texts of an entry: what they tell, unless memory was refused
abbrev pub TellsEntry : Entry → Result KeptEntry TextFault → Type 0
TellsEntry entry (Ok kept) = kept ≡ kept_of entry
TellsEntry entry (Err fault) = fault ≡ OutOfMemory

-- a user's entry, whose command isn't the solver's
abbrev pub IsOfUser : Actor → Command → Type 0
IsOfUser (User name) given = is_solvers given ≡ false
IsOfUser Solver given = ⊥

-- what was read as a whole is a user's
abbrev pub IsOwn : KeptEntry → Type 0
IsOwn (Given entry) = IsOfUser entry.actor entry.command
IsOwn (Solved actor board deal) = Unit {0}
IsOwn (Analysed actor cell deal contract play) = Unit {0}

-- ---- for private clauses: what a fault of reading a command is of the texts

abbrev pub fault_of : RequestFault → TextFault
fault_of request.OutOfMemory = OutOfMemory
fault_of _ = Unreadable
