-- The clients of a session, beside one another over one who keeps it: what was exchanged with them.
use Rattle.std.specs.Prelude.{◌≡◌, ◌≢◌, ◌≤◌, ℕ, true, Option, None, List, [], ◌∷◌}
use Rattle.json_fields.specs.declared.request_fault.RequestFault.TheVariants.{Malformed, OutOfMemory}
use Rattle.session_state.specs.SessionState.{SessionState}
use Rattle.session_commands.specs.declared.entry.Entry.{Entry}
use Rattle.wire.specs.ReceiptText.{fault_text}
use Rattle.wire.specs.Request.{is_message_text}
use Rattle.connections.specs.Conversation.{Exchange, AreExchanged, journal_then, own_entries_then}
use Rattle.connections.specs.Linked.{Linked, signed_in}
use Rattle.many_clients.specs.Hall.{HasTaken, IsHallStep, arrivals}
use Rattle.many_clients.specs.Talker.{Talker}

-- what was exchanged so far, of which the newest comes first, and the connection of the newest as it stands then
pub record Transcript : Type 0 where
  pub exchanges : List Exchange
  pub now : Linked

-- at a session's opening nothing was exchanged yet, nothing is entered that the keeper knows of, which has entered so many
-- entries itself, and nobody is signed in
abbrev pub opening_transcript : SessionState → ℕ → Transcript
opening_transcript opening own = record {
  exchanges = [];
  now = record { opening = opening; journal = []; own_entries = own; user = None };
}

-- one exchange more, on the connection of this user, or of nobody who is signed in: of a message, with the text that
-- answers it, or none where memory was refused for one; it leaves the connection to who is signed in then
abbrev pub Transcribes : Transcript → Option (List ℕ) → List ℕ → Option (List ℕ) → Transcript → Option (List ℕ) → Type 0
Transcribes before user message answer after user_after =
    (after.exchanges
    ≡ record { before = signed_in user before.now; message = message; answer = answer; after = after.now }
    ∷ before.exchanges)
    × (user_after ≡ after.now.user) × (answer ≡ None → is_message_text message ≡ true)

-- clients were served beside one another, in turns, from an empty hall and the session's opening on, over streams whose bytes
-- are known so, by a keeper that had entered so many entries, and who are at these places then; and then the keeper stands for a
-- journal, and has entered so many: what was exchanged are exchanges on connections over the keeper, one after another, and
-- beside them it has entered nothing; each text that was read of one of them is the message of the next exchange, of who is
-- signed in on its own connection, where nobody is at first; and its answer, or that memory is wanting, was the text sent for it.
-- Where so many connections are to be accepted, and not all that come, no more clients came than that
pub record AreServedInTurns {S : Type 0} (remaining contents : S → Option (List ℕ))
    (Others : List Entry → List Entry → Type 0) (no_entry not_kept : Type 0) (opening : SessionState) (own connections : ℕ)
    (places : ℕ → Option (Talker S (Option (List ℕ)))) (journal : List Entry) (own_now : ℕ) : Type 0 where
  pub transcript : Transcript
  pub exchanged : AreExchanged Others no_entry not_kept opening own transcript.exchanges
  pub reached : journal_then transcript.exchanges ≡ journal
  pub entered : own_entries_then own transcript.exchanges ≡ own_now
  pub served :
      HasTaken (IsHallStep remaining contents Transcribes (fault_text Malformed) (fault_text OutOfMemory) None)
      (λ _. None) (opening_transcript opening own) places transcript
  pub few : connections ≢ 0 → arrivals served.0 ≤ connections
