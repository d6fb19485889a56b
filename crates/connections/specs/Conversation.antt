-- A conversation on connections over one keeper, one message after another, whoever sends them.
use Rattle.std.specs.Prelude.{◌≡◌, ◌⊎◌, ℕ, Option, Some, None, Ok, List, [], ◌∷◌}
use Rattle.session_state.specs.SessionState.{SessionState}
use Rattle.session_commands.specs.declared.command.Command.{Command}
use Rattle.session_commands.specs.declared.entry.Entry.{Entry}
use Rattle.wire.specs.ReceiptText.{connection_fault_text}
use Rattle.wire.specs.Request.{connection_meaning}
use Rattle.wire.specs.declared.connection_fault.ConnectionFault.TheVariants.{NoEntry, NotKept, Unsure}
use Rattle.wire.specs.declared.request.RequestBody.TheVariants.{OfUser}
use Rattle.wire.specs.declared.request.UserRequest.{UserRequest}
use Rattle.wire.specs.declared.request.UserRequest.TheVariants.{Query, Batch, Audit}
use Rattle.request_answers.specs.Conversing.{Turn, Answered, TakenIn, Passed, Stop}
use Rattle.connections.specs.Linked.{Linked, EntersNone}
use Rattle.connections.specs.Serving.{AnswersOnce, HasNoAnswer, Serves}

-- a message, its answer, or none where memory was refused, and the connection before and after it
pub record Exchange : Type 0 where
  pub before : Linked
  pub message : List ℕ
  pub answer : Option (List ℕ)
  pub after : Linked

-- what `serve_message` promises of a message
abbrev pub IsExchanged : (List Entry → List Entry → Type 0) → Type 0 → Type 0 → Linked → List ℕ → Option (List ℕ)
    → Linked → Type 0
IsExchanged Others no_entry not_kept before message (Some text) after =
    Serves Others no_entry not_kept before after message text
IsExchanged Others no_entry not_kept before message None after = HasNoAnswer Others before after message

-- the journal after the exchanges of a conversation, of which the newest comes first
abbrev pub journal_then : List Exchange → List Entry
journal_then [] = []
journal_then (exchange ∷ earlier) = exchange.after.journal

-- how many entries the keeper has entered after them, which had entered so many before
abbrev pub own_entries_then : ℕ → List Exchange → ℕ
own_entries_then own [] = own
own_entries_then own (exchange ∷ earlier) = exchange.after.own_entries

-- messages were exchanged in a session from its opening on, over a keeper that had entered so many entries, each where
-- the one before it had left the journal and what the keeper has entered. Who is signed in may be another: connections
-- come and go
abbrev pub AreExchanged : (List Entry → List Entry → Type 0) → Type 0 → Type 0 → SessionState → ℕ → List Exchange → Type 0
AreExchanged Others no_entry not_kept opening own [] = Unit {0}
AreExchanged Others no_entry not_kept opening own (exchange ∷ earlier) =
    (exchange.before.opening ≡ opening) × (exchange.before.journal ≡ journal_then earlier)
    × (exchange.before.own_entries ≡ own_entries_then own earlier)
    × IsExchanged Others no_entry not_kept exchange.before exchange.message exchange.answer exchange.after
    × AreExchanged Others no_entry not_kept opening own earlier

-- the message of an exchange is a request of the user who is signed in
abbrev pub Asks : Exchange → List ℕ → UserRequest → Type 0
Asks exchange user request =
    (connection_meaning exchange.before.opening.public.edition exchange.message ≡ Ok (OfUser request))
    × (exchange.before.user ≡ Some user)

-- and a batch
pub record SendsBatch (exchange : Exchange) : Type 0 where
  pub user : List ℕ
  pub commands : List Command
  pub asks : Asks exchange user (Batch commands)

-- what the keeper has entered by the turn that an exchange took: where a request took effect, it is the message's, and
-- just what came of it, once; else nothing
abbrev pub EntersByTurn : (List Entry → List Entry → Type 0) → Exchange → Turn → Type 0
EntersByTurn Others exchange (Answered user request text) =
    Asks exchange user request × (exchange.answer ≡ Some text)
    × AnswersOnce Others exchange.before exchange.after user request text
EntersByTurn Others exchange (TakenIn user request) =
    Asks exchange user request × (exchange.answer ≡ None)
    × (text : List ℕ) × AnswersOnce Others exchange.before exchange.after user request text
EntersByTurn Others exchange Passed = EntersNone exchange.before exchange.after

-- the text of a fault in place of the answer to a request: to a query that no version could be entered, to a batch that
-- it isn't kept, or may not be, and to an audit none
abbrev pub IsFaultFor : Type 0 → Type 0 → UserRequest → List ℕ → Type 0
IsFaultFor no_entry not_kept (Query query since) text = no_entry × (text ≡ connection_fault_text NoEntry)
IsFaultFor no_entry not_kept (Batch commands) text =
    not_kept × ((text ≡ connection_fault_text NotKept) ⊎ (text ≡ connection_fault_text Unsure))
IsFaultFor no_entry not_kept (Audit range) text = ⊥

-- a stop of a conversation of users is that of an exchange: it has its journal, by its turn the keeper has entered what
-- it has, and where a request of who is signed in was answered, its turn is that answer, or nothing came of the request,
-- and the text is that of a fault
pub record IsStopOf (Others : List Entry → List Entry → Type 0) (no_entry not_kept : Type 0) (exchange : Exchange)
    (stop : Stop) : Type 0 where
  pub journal : stop.journal ≡ exchange.after.journal
  pub entered : EntersByTurn Others exchange stop.turn
  pub answered : (user : List ℕ) (request : UserRequest) (text : List ℕ) →
      connection_meaning exchange.before.opening.public.edition exchange.message ≡ Ok (OfUser request) →
      exchange.before.user ≡ Some user → exchange.answer ≡ Some text →
      (stop.turn ≡ Answered user request text)
      ⊎ ((stop.turn ≡ Passed) × IsFaultFor no_entry not_kept request text)

-- each stop is that of its exchange
abbrev pub AreStopsOf : (List Entry → List Entry → Type 0) → Type 0 → Type 0 → List Exchange → List Stop → Type 0
AreStopsOf Others no_entry not_kept [] [] = Unit {0}
AreStopsOf Others no_entry not_kept [] (stop ∷ stops) = ⊥
AreStopsOf Others no_entry not_kept (exchange ∷ earlier) [] = ⊥
AreStopsOf Others no_entry not_kept (exchange ∷ earlier) (stop ∷ stops) =
    IsStopOf Others no_entry not_kept exchange stop × AreStopsOf Others no_entry not_kept earlier stops
