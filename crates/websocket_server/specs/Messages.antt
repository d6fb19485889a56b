-- own: what is said of a message and of its answer, beside RFC 6455.
use Rattle.std.specs.Prelude.{ℕ, List, Option, Some, None}
use Rattle.websocket_server.specs.declared.longest_message.TheConstants.{LONGEST_MESSAGE}

-- how many bytes a message has at most that is read whole
abbrev pub longest_message : ℕ
longest_message = LONGEST_MESSAGE

-- the text that is sent for an answer: its own, or a fixed one where it found no memory
abbrev pub sent_text : List ℕ → Option (List ℕ) → List ℕ
sent_text memory_text (Some answer) = answer
sent_text memory_text None = memory_text
