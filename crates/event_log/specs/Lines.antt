-- own: the line of each event: when it happened, its word, who it is of, and what is told of it.
use Rattle.std.specs.Prelude.{◌≡◌, ℕ, ◌/◌, List, ◌++◌, Option, Some, None, codes}
use Rattle.std.specs.Fmt.{decimal}
use Rattle.std.specs.List.{flat_map}
use Rattle.std.specs.Duration.{as_nanos}
use Rattle.std.specs.declared.time.Duration.{Duration}
use Rattle.hall_terms.specs.declared.client_end.ClientEnd.{ClientEnd}
use Rattle.hall_terms.specs.declared.client_end.ClientEnd.TheVariants as ended
use Rattle.session_commands.specs.Row.{word_text}
use Rattle.session_commands.specs.Refusal.{refusal_name}
use Rattle.event_log.specs.Moment.{IsMoment}
use Rattle.event_log.specs.Plain.{plain}
use Rattle.event_log.specs.declared.event.Guest.{Guest}
use Rattle.event_log.specs.declared.event.Guest.TheVariants.{Nobody, User}
use Rattle.event_log.specs.declared.event.AnsweredCommand.{AnsweredCommand}
use Rattle.event_log.specs.declared.event.AnsweredCommand.TheVariants.{Entered, Refused}
use Rattle.event_log.specs.declared.event.BatchFault.{BatchFault}
use Rattle.event_log.specs.declared.event.BatchFault.TheVariants as undone
use Rattle.event_log.specs.declared.event.Event.{Event}
use Rattle.event_log.specs.declared.event.Event.TheVariants.{
  SignedIn,
  NotSignedIn,
  Answered,
  Unanswered,
  Ended,
  TableSolved,
  CostsFound,
  NotFound,
}

-- ---- words

-- why a batch has no answer of its own
abbrev pub batch_fault_word : BatchFault → List ℕ
batch_fault_word undone.NotKept = codes "NotKept"
batch_fault_word undone.Unsure = codes "Unsure"
batch_fault_word undone.OutOfMemory = codes "OutOfMemory"

-- why a client's connection ended
abbrev pub client_end_word : ClientEnd → List ℕ
client_end_word ended.Closed = codes "Closed"
client_end_word ended.Late = codes "Late"
client_end_word ended.BrokeRule = codes "BrokeRule"
client_end_word ended.TooLong = codes "TooLong"
client_end_word ended.Failed = codes "Failed"
client_end_word ended.OutOfMemory = codes "OutOfMemory"

-- who is on a connection: a user by the name, and nobody by a `-`
abbrev pub guest_text : Guest → List ℕ
guest_text Nobody = codes "-"
guest_text (User name) = plain name

-- what became of a command: its word, and `ok` or the name of the cause for which it was refused
abbrev pub answered_text : AnsweredCommand → List ℕ
answered_text (Entered word) = codes " " ++ (word_text word ++ codes "=ok")
answered_text (Refused word cause) = codes " " ++ (word_text word ++ (codes "=" ++ refusal_name cause))

-- ---- lines

-- a duration's whole milliseconds
abbrev pub millis : Duration → List ℕ
millis duration = decimal (as_nanos duration / 1000000)

-- how long something took, or a `-` where the clock couldn't be read
abbrev pub took_text : Option Duration → List ℕ
took_text (Some took) = millis took
took_text None = codes "-"

-- what a line is with an event behind it
abbrev pub with_event : List ℕ → Event → List ℕ
with_event line (SignedIn user) = line ++ codes "signed_in " ++ plain user
with_event line (NotSignedIn guest) = line ++ codes "not_signed_in " ++ guest_text guest
with_event line (Answered user first last answers) =
    line ++ codes "batch " ++ plain user ++ (codes " first=" ++ (decimal first ++ (codes " last=" ++ decimal last)))
    ++ flat_map answered_text answers.now
with_event line (Unanswered user count fault) =
    line ++ codes "batch_undone " ++ plain user
    ++ (codes " commands=" ++ (decimal count ++ (codes " why=" ++ batch_fault_word fault)))
with_event line (Ended guest why after) =
    line ++ codes "ended " ++ guest_text guest
    ++ (codes " why=" ++ (client_end_word why ++ (codes " ms=" ++ millis after)))
with_event line (TableSolved board took) =
    line ++ (codes "table_solved board=" ++ (decimal board ++ (codes " ms=" ++ took_text took)))
with_event line (CostsFound table board took) =
    line ++ (codes "costs_found table=" ++ (decimal table ++ (codes " board=" ++ (decimal board
    ++ (codes " ms=" ++ took_text took)))))
with_event line (NotFound board took) =
    line ++ (codes "not_found board=" ++ (decimal board ++ (codes " ms=" ++ took_text took)))

-- the text is the line of an event that happened so many seconds after 1970 began, if that is known
pub record IsLogLine (at : Option ℕ) (event : Event) (text : List ℕ) : Type 0 where
  pub moment : List ℕ
  pub is_moment : IsMoment at moment
  pub is : text ≡ with_event (moment ++ codes " ") event ++ codes "\n"
