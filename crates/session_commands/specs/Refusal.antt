-- Refusals that don't look at the state.
use Rattle.std.specs.Prelude.{ℕ, Bool, true, false, if◌then◌else◌, Option, None, option_map, List, codes}
use Rattle.session_commands.specs.declared.command.Command.{Command}
use Rattle.session_commands.specs.declared.refusal.Refusal.{Refusal}
use Rattle.session_commands.specs.declared.refusal.Refusal.TheVariants.{Spoiled, OutOfMemory}
use Rattle.session_commands.specs.declared.refusal.Refusal.TheVariants as refusal
use Rattle.session_commands.specs.Command.{is_told_by_table}

-- whether a result is spoiled by who sits at its cell: by the first user there who was shown something of the board, if
-- there is one; this is no hindrance, since what users were shown is not in the state
abbrev pub spoiled : Command → Option (List ℕ) → Option Refusal
spoiled command spoiler = if is_told_by_table command then option_map Spoiled spoiler else None

-- whether the refusal is that memory was refused, which no state is a cause of
abbrev pub is_out_of_memory : Refusal → Bool
is_out_of_memory OutOfMemory = true
is_out_of_memory _ = false

-- how a cause of refusal is called
abbrev pub refusal_name : Refusal → List ℕ
refusal_name refusal.NotPermitted = codes "NotPermitted"
refusal_name refusal.NoSuchUser = codes "NoSuchUser"
refusal_name refusal.NoSuchCell = codes "NoSuchCell"
refusal_name refusal.NoSuchBoard = codes "NoSuchBoard"
refusal_name refusal.WrongPhase = codes "WrongPhase"
refusal_name refusal.RoundNotStarted = codes "RoundNotStarted"
refusal_name refusal.BadResult = codes "BadResult"
refusal_name refusal.AlreadyLive = codes "AlreadyLive"
refusal_name refusal.NothingEntered = codes "NothingEntered"
refusal_name refusal.Mismatch = codes "Mismatch"
refusal_name (refusal.Spoiled _) = codes "Spoiled"
refusal_name refusal.NotLive = codes "NotLive"
refusal_name refusal.BadRuling = codes "BadRuling"
refusal_name refusal.AlreadyHeld = codes "AlreadyHeld"
refusal_name refusal.NotHeld = codes "NotHeld"
refusal_name refusal.AlreadyEmbargoed = codes "AlreadyEmbargoed"
refusal_name refusal.NotEmbargoed = codes "NotEmbargoed"
refusal_name refusal.NoSuchPair = codes "NoSuchPair"
refusal_name refusal.WrongDirection = codes "WrongDirection"
refusal_name refusal.NotContestant = codes "NotContestant"
refusal_name refusal.AlreadySeated = codes "AlreadySeated"
refusal_name refusal.SeatTaken = codes "SeatTaken"
refusal_name refusal.NotSeated = codes "NotSeated"
refusal_name refusal.NoMoreRounds = codes "NoMoreRounds"
refusal_name refusal.NotAllLive = codes "NotAllLive"
refusal_name refusal.BadName = codes "BadName"
refusal_name refusal.UserExists = codes "UserExists"
refusal_name refusal.TooManyUsers = codes "TooManyUsers"
refusal_name refusal.NoSuchRole = codes "NoSuchRole"
refusal_name refusal.AlreadyAssigned = codes "AlreadyAssigned"
refusal_name (refusal.Separation _) = codes "Separation"
refusal_name refusal.NotAssigned = codes "NotAssigned"
refusal_name refusal.StillSeated = codes "StillSeated"
refusal_name refusal.LastAdministrator = codes "LastAdministrator"
refusal_name refusal.Cycle = codes "Cycle"
refusal_name refusal.AlreadyThere = codes "AlreadyThere"
refusal_name refusal.NotThere = codes "NotThere"
refusal_name refusal.StrangeDeal = codes "StrangeDeal"
refusal_name refusal.AlreadySolved = codes "AlreadySolved"
refusal_name refusal.StrangePlay = codes "StrangePlay"
refusal_name refusal.JournalFull = codes "JournalFull"
refusal_name refusal.OutOfMemory = codes "OutOfMemory"
refusal_name refusal.NotTried = codes "NotTried"
