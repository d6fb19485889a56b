-- What becomes of a batch of commands.
use Rattle.std.specs.Prelude.{
  ◌≡◌,
  ℕ,
  ◌+◌,
  ◌⊎◌,
  nat_lt,
  if◌then◌else◌,
  Option,
  Some,
  None,
  Bool,
  true,
  false,
  List,
  [],
  ◌∷◌,
  ◌++◌,
  map,
}
use Rattle.std.specs.List.{fold}
use Rattle.session_book.specs.declared.answer.Answer.{Answer}
use Rattle.session_book.specs.declared.answer.Answer.TheVariants.{Accepted, Refused}
use Rattle.session_commands.specs.declared.actor.Actor.{Actor}
use Rattle.session_commands.specs.declared.actor.Actor.TheVariants.{User}
use Rattle.session_commands.specs.declared.command.Command.{Command}
use Rattle.session_commands.specs.declared.entry.Entry.{Entry}
use Rattle.session_commands.specs.declared.refusal.Refusal.{Refusal}
use Rattle.session_commands.specs.declared.refusal.Refusal.TheVariants.{OutOfMemory, NotTried}
use Rattle.session_commands.specs.Refusal.{is_out_of_memory}
use Rattle.session_book.specs.declared.book.TheConstants.Book.{MOST_COMMANDS}
use Rattle.session_book.specs.Journal.{Ledger, refusal_after, refusal_at}
use Rattle.session_state.specs.SessionState.{SessionState}

-- how many commands a batch has at most
abbrev pub most_commands : ℕ
most_commands = MOST_COMMANDS

-- a journal, and the answers to the commands so far
pub record Progress : Type 0 where
  pub journal : List Entry
  pub answers : List Answer

-- the answer to a command, from why it is refused, if it is
abbrev pub answer_of : Option Refusal → Answer
answer_of None = Accepted
answer_of (Some cause) = Refused cause

-- a user's command that nothing refuses joins the journal; another is answered why it is refused
abbrev pub answered : Progress → List ℕ → Command → Option Refusal → Progress
answered so_far actor command None =
    record {
      journal = so_far.journal ++ record { actor = User actor; command = command } ∷ [];
      answers = so_far.answers ++ Accepted ∷ [];
    }
answered so_far actor command (Some cause) =
    record { journal = so_far.journal; answers = so_far.answers ++ Refused cause ∷ [] }

-- one command more
abbrev pub after_command : SessionState → List ℕ → Progress → Command → Progress
after_command opening actor so_far command =
    answered so_far actor command (refusal_after opening so_far.journal (User actor) command)

-- the commands of a user's batch in their order, after a journal
unfoldable pub run : SessionState → List Entry → List ℕ → List Command → Progress
run opening journal actor batch = fold (after_command opening actor) (record { journal = journal; answers = [] }) batch

-- memory is refused at a command that nothing else refuses: those before it stand, and those after it are not tried
pub record RunsUntil (opening : SessionState) (before : List Entry) (actor : List ℕ) (batch : List Command)
    (after : Progress) : Type 0 where
  pub tried : List Command
  pub command : Command
  pub later : List Command
  pub split : batch ≡ tried ++ command ∷ later
  pub accepted : refusal_after opening (run opening before actor tried).journal (User actor) command ≡ None
  pub journal : after.journal ≡ (run opening before actor tried).journal
  pub answers : after.answers ≡ (run opening before actor tried).answers
      ++ Refused OutOfMemory ∷ map (λ _. Refused NotTried) later

-- what becomes of a batch: all its commands are run, or memory is refused at one of them
abbrev pub Runs : Bool → SessionState → List Entry → List ℕ → List Command → Progress → Type 0
Runs false opening journal actor batch after = after ≡ run opening journal actor batch
Runs true opening journal actor batch after = RunsUntil opening journal actor batch after

-- what becomes of one command that is tried by itself: it joins the journal, or it is answered why it is refused, where
-- memory may be refused that nothing else refuses
abbrev pub IsTried : Ledger → Actor → Command → Answer → Ledger → Type 0
IsTried before actor command Accepted after =
    (refusal_at before actor command ≡ None)
    × (after.journal ≡ before.journal ++ record { actor = actor; command = command } ∷ [])
IsTried before actor command (Refused cause) after =
    ((refusal_at before actor command ≡ Some cause)
    ⊎ ((cause ≡ OutOfMemory) × (refusal_at before actor command ≡ None)))
    × (after.journal ≡ before.journal)

-- the numbers of the first and the last entry that joined a journal, or 0 where none did, from its lengths before and
-- after
abbrev pub first_number : ℕ → ℕ → ℕ
first_number before after = if nat_lt before after then before + 1 else 0

abbrev pub last_number : ℕ → ℕ → ℕ
last_number before after = if nat_lt before after then after else 0

-- ---- for private clauses

-- whether no command is tried any more: memory was refused
abbrev pub stops : Option Refusal → Bool
stops None = false
stops (Some cause) = is_out_of_memory cause
