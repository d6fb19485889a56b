-- A journal, and when it is accepted.
use Rattle.std.specs.Prelude.{◌≡◌, ℕ, zero, suc, Option, None, slice_get, List, [], ◌∷◌, ◌++◌, length, refl}
use Rattle.std.specs.Coded.{Coded, code_by, coded×, coded_list, coded_ℕ}
use Rattle.session_commands.specs.declared.actor.Actor.{Actor}
use Rattle.session_commands.specs.declared.command.Command.{Command}
use Rattle.session_commands.specs.declared.entry.Entry.{Entry}
use Rattle.session_commands.specs.contracts.entry.Entry as the_entry
use Rattle.session_commands.specs.declared.refusal.Refusal.{Refusal}
use Rattle.session_state.specs.Refusal.{refusal_of}
use Rattle.session_state.specs.SessionState.{SessionState, session_code}
use Rattle.session_book.specs.Exposure.{spoiler_of}
unfoldable pub use Rattle.session_book.specs.Replay.{replay}

-- why a command is refused after a journal, if it is
unfoldable pub refusal_after : SessionState → List Entry → Actor → Command → Option Refusal
refusal_after opening journal actor command =
    refusal_of (replay opening journal) (spoiler_of opening journal command) actor command (length journal)

-- nothing refuses the entry after a journal
abbrev pub MayFollow : SessionState → List Entry → Entry → Type 0
MayFollow opening before entry = refusal_after opening before entry.actor entry.command ≡ None

-- each of the entries may follow, one after another
abbrev pub Follow : SessionState → List Entry → List Entry → Type 0
Follow opening before [] = Unit {0}
Follow opening before (entry ∷ entries) = MayFollow opening before entry × Follow opening (before ++ entry ∷ []) entries

-- a journal is accepted where each of its entries may follow those before it
abbrev pub IsAccepted : SessionState → List Entry → Type 0
IsAccepted opening journal = Follow opening [] journal

-- a book: the state that it opened with, its journal, and for how many more entries there is room
pub record Ledger : Type 0 where
  pub opening : SessionState
  pub journal : List Entry
  pub spare : ℕ

abbrev pub ledger_code : Coded Ledger
ledger_code =
    code_by (SessionState × (List Entry × ℕ))
    (coded× session_code (coded× (coded_list the_entry.the_row.coded) coded_ℕ))
    (λ l. (l.opening, (l.journal, l.spare)))
    (λ p. record { opening = p.0; journal = p.1.0; spare = p.1.1 })
    (λ _. refl)

-- the state that a book has come to
abbrev pub state_of : Ledger → SessionState
state_of ledger = replay ledger.opening ledger.journal

-- why a book refuses a command, if it does
abbrev pub refusal_at : Ledger → Actor → Command → Option Refusal
refusal_at ledger actor command = refusal_after ledger.opening ledger.journal actor command

-- the entry of a number, counted from 1
abbrev pub entry_of : List Entry → ℕ → Option Entry
entry_of journal zero = None
entry_of journal (suc number) = slice_get journal number
