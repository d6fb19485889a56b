-- What is written of a batch that was tried, and of a message that no request was read from or that a connection
-- doesn't answer: JSON texts with no space.
use Rattle.std.specs.Prelude.{ℕ, List, ◌++◌, map, codes}
use Rattle.serde_json.specs.Data.{Data, string, number, unsigned, array, object, Items, member, no_members}
use Rattle.serde_json.specs.View.{items_of}
use Rattle.serde_json.specs.Written.{compact_text}
use Rattle.session_roles.specs.Separation.{set_name}
use Rattle.session_book.specs.declared.answer.Answer.{Answer}
use Rattle.session_book.specs.declared.answer.Answer.TheVariants.{Accepted, Refused}
use Rattle.session_commands.specs.declared.refusal.Refusal.{Refusal}
use Rattle.session_commands.specs.declared.refusal.Refusal.TheVariants as refusal
use Rattle.session_commands.specs.Refusal.{refusal_name}
use Rattle.json_fields.specs.declared.request_fault.RequestFault.{RequestFault}
use Rattle.json_fields.specs.declared.request_fault.RequestFault.TheVariants as fault
use Rattle.wire.specs.declared.connection_fault.ConnectionFault.{ConnectionFault}
use Rattle.wire.specs.declared.connection_fault.ConnectionFault.TheVariants as connection

-- ---- receipts

-- a name, and in brackets who or what it is about
abbrev pub about : List ℕ → List ℕ → List ℕ
about name subject = name ++ codes "(" ++ subject ++ codes ")"

-- what is written of a cause of refusal: its name, with the user or the separation set in brackets where there is one
abbrev pub refusal_text : Refusal → List ℕ
refusal_text (refusal.Spoiled name) = about (codes "Spoiled") name
refusal_text (refusal.Separation set) = about (codes "Separation") (set_name set)
refusal_text refusal = refusal_name refusal

-- what is written of an answer: `ok`, or the cause of refusal
abbrev pub answer_text : Answer → List ℕ
answer_text Accepted = codes "ok"
answer_text (Refused refusal) = refusal_text refusal

abbrev pub answer_data : Answer → Data
answer_data answer = string (answer_text answer)

-- a text for each answer
abbrev pub answers_data : List Answer → Items
answers_data answers = items_of (map answer_data answers)

-- the answers, the numbers of the first and the last entry that joined the journal, and the version after the batch
abbrev pub receipt_data : List Answer → ℕ → ℕ → ℕ → Data
receipt_data answers first last version =
    object (member (codes "answers") (array (answers_data answers))
    (member (codes "first") (number (unsigned first))
    (member (codes "last") (number (unsigned last))
    (member (codes "version") (number (unsigned version)) no_members))))

-- the receipt as it is written
unfoldable pub receipt_text : List Answer → ℕ → ℕ → ℕ → List ℕ
receipt_text answers first last version = compact_text (receipt_data answers first last version)

-- ---- faults

-- an error by its name
abbrev pub error_data : List ℕ → Data
error_data name = object (member (codes "error") (string name) no_members)

-- how a fault of reading is called
abbrev pub fault_name : RequestFault → List ℕ
fault_name fault.TooLong = codes "TooLong"
fault_name fault.Malformed = codes "Malformed"
fault_name fault.UnknownRequest = codes "UnknownRequest"
fault_name fault.BadField = codes "BadField"
fault_name fault.OutOfMemory = codes "OutOfMemory"

-- the fault as it is written
unfoldable pub fault_text : RequestFault → List ℕ
fault_text fault = compact_text (error_data (fault_name fault))

-- how a connection's fault is called
abbrev pub connection_fault_name : ConnectionFault → List ℕ
connection_fault_name connection.NotSignedIn = codes "NotSignedIn"
connection_fault_name connection.NotKnown = codes "NotKnown"
connection_fault_name connection.NoEntry = codes "NoEntry"
connection_fault_name connection.NotKept = codes "NotKept"
connection_fault_name connection.Unsure = codes "Unsure"
connection_fault_name connection.OutOfMemory = codes "OutOfMemory"

-- and how it is written
unfoldable pub connection_fault_text : ConnectionFault → List ℕ
connection_fault_text fault = compact_text (error_data (connection_fault_name fault))
