-- A script: each of its lines after the first that isn't empty is a message, and one line responds to each, in order.
use Rattle.std.specs.Prelude.{
  ℕ,
  Bool,
  true,
  false,
  ◌&&◌,
  if◌then◌else◌,
  Option,
  None,
  Result,
  Ok,
  Err,
  List,
  [],
  ◌∷◌,
  ◌++◌,
  map,
  filter,
  drop,
}
use Rattle.std.specs.List.{fold}
use Rattle.script_lines.specs.Lines.{lines_of}
use Rattle.session_state.specs.SessionState.{SessionState}
use Rattle.session_commands.specs.declared.entry.Entry.{Entry}
use Rattle.json_fields.specs.declared.request_fault.RequestFault.{RequestFault}
use Rattle.json_fields.specs.declared.request_fault.RequestFault.TheVariants.{OutOfMemory}
use Rattle.wire.specs.ReceiptText.{fault_text}
use Rattle.wire.specs.Request.{is_message_text, script_meaning}
use Rattle.wire.specs.declared.request.ScriptRequest.{ScriptRequest}
use Rattle.request_answers.specs.Response.{Response, response_at}

-- ---- lines

-- a line that has some byte
abbrev pub is_not_empty : List ℕ → Bool
is_not_empty [] = false
is_not_empty (byte ∷ bytes) = true

-- the messages among the lines of a script: the first line is the session's, and empty lines are passed over
abbrev pub messages_among : List (List ℕ) → List (List ℕ)
messages_among lines = filter is_not_empty (drop 1 lines)

-- ---- memory

-- where memory was refused to a message, if anywhere: before it had any effect, at a command of its batch, which comes
-- after so many others, or for the text of its response
pub record MemoryRefusals : Type 0 where
  pub refused_before : Bool
  pub refused_at : Option ℕ
  pub refused_after : Bool

-- memory was ample throughout
abbrev pub ample : MemoryRefusals
ample = record { refused_before = false; refused_at = None; refused_after = false }

-- a message as it came, and what memory there was for it
pub record Received : Type 0 where
  pub line : List ℕ
  pub memory : MemoryRefusals

-- a message for which there was all the memory that it took
abbrev pub with_ample_memory : List ℕ → Received
with_ample_memory line = record { line = line; memory = ample }

-- ---- responses

-- the text of a response, or that there was no memory for it
abbrev pub text_with : MemoryRefusals → List ℕ → List ℕ
text_with memory text = if memory.refused_after then fault_text OutOfMemory else text

-- what a user's request has, where memory may be refused at a command of its batch, or for its text
abbrev pub response_to_request : SessionState → List Entry → MemoryRefusals → ScriptRequest → Response
response_to_request opening journal memory said =
    let response = response_at opening journal memory.refused_at said.user said.request in
    record { journal = response.journal; text = text_with memory response.text }

-- what is no request has its fault, whose text takes no memory
abbrev pub response_to_meaning : SessionState → List Entry → MemoryRefusals → Result ScriptRequest RequestFault →
    Response
response_to_meaning opening journal memory (Ok said) = response_to_request opening journal memory said
response_to_meaning opening journal memory (Err fault) =
    record { journal = journal; text = fault_text fault }

-- a message is what its line means by the session's edition of the policy, unless memory was refused before it had any
-- effect. A line that is too long, or no text in UTF-8, takes none
unfoldable pub response_to_line : SessionState → List Entry → Received → Response
response_to_line opening journal received =
    if received.memory.refused_before && is_message_text received.line
    then record { journal = journal; text = fault_text OutOfMemory }
    else response_to_meaning opening journal received.memory (script_meaning opening.public.edition received.line)

-- ---- scripts

-- one response more, which is a line
abbrev pub with_response : Response → Response → Response
with_response so_far next = record { journal = next.journal; text = so_far.text ++ (next.text ++ 10 ∷ []) }

-- one message more
abbrev pub respond : SessionState → Response → Received → Response
respond opening so_far received = with_response so_far (response_to_line opening so_far.journal received)

-- messages, one after another, from the opening on
unfoldable pub responses_to : SessionState → List Received → Response
responses_to opening messages = fold (respond opening) (record { journal = []; text = [] }) messages

-- the text of a script, where all the memory is there that it takes
unfoldable pub script_text : SessionState → List ℕ → List ℕ
script_text opening input = (responses_to opening (map with_ample_memory (messages_among (lines_of input)))).text
