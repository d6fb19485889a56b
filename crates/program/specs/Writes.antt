-- What a script's run reads and writes, against the text of the script.
use Rattle.std.specs.Prelude.{◌≡◌, ℕ, ◌+◌, ◌≤◌, ◌⊎◌, ⊤, Option, Some, List, [], ◌∷◌, ◌++◌, map, length}
use Rattle.std.specs.Io.KnownBytes.{Consumes, Appends, IsAtEnd}
use Rattle.script_lines.specs.Lines.{pieces_of, ended_lines, lines_of, first_line_of}
use Rattle.script_lines.specs.declared.sink.SinkFault.{SinkFault}
use Rattle.script_lines.specs.declared.sink.SinkFault.TheVariants as sink
use Rattle.session_object.specs.Reading.{most_bytes}
use Rattle.session_commands.specs.declared.entry.Entry.{Entry}
use Rattle.session_state.specs.SessionState.{SessionState}
use Rattle.program.specs.declared.fault.Fault.{Fault}
use Rattle.program.specs.declared.fault.Fault.TheVariants.{Session, Opening, Input, Output, OutOfMemory}
use Rattle.program.specs.declared.script.TheConstants.{SCRIPT_LIMIT}
use Rattle.program.specs.FirstLine.{Opens, BeginsNone}
use Rattle.program.specs.Script.{MemoryRefusals, Received, response_to_line, responses_to, messages_among}

-- how many bytes a script has at most
abbrev pub script_limit : ℕ
script_limit = SCRIPT_LIMIT

-- ---- responses, with memory refused here or there

-- a message leads from a journal to another, and this text with its LF responds to it
pub record Responds (opening : SessionState) (journal : List Entry) (line : List ℕ) (after : List Entry) (text : List ℕ)
    : Type 0 where
  pub memory : MemoryRefusals
  pub journal_is : (response_to_line opening journal (record { line = line; memory = memory })).journal ≡ after
  pub text_is : (response_to_line opening journal (record { line = line; memory = memory })).text ++ 10 ∷ [] ≡ text

-- messages lead from the opening to a journal, and this text responds to them
pub record RespondsToEach (opening : SessionState) (messages : List (List ℕ)) (journal : List Entry) (text : List ℕ)
    : Type 0 where
  pub received : List Received
  pub each : map (λ (r : Received). r.line) received ≡ messages
  pub journal_is : (responses_to opening received).journal ≡ journal
  pub text_is : (responses_to opening received).text ≡ text

-- ---- what a writer was given

-- the responses to the messages among these lines, of which the first opens the session; and nothing else
pub record WritesResponses (lines : List (List ℕ)) (before after : Option (List ℕ)) : Type 0 where
  pub opening : SessionState
  pub opened : Opens (first_line_of lines) opening
  pub journal : List Entry
  pub text : List ℕ
  pub responses : RespondsToEach opening (messages_among lines) journal text
  pub appended : Appends before after text

-- after these bytes come just the responses to the messages of a script, of which the first line opens the session
pub record AnswersScript (input before after : List ℕ) : Type 0 where
  pub opening : SessionState
  pub opened : Opens (first_line_of (lines_of input)) opening
  pub received : List Received
  pub each : map (λ (r : Received). r.line) received ≡ messages_among (lines_of input)
  pub written : after ≡ before ++ (responses_to opening received).text

-- nothing before the first line is read, and then the responses
abbrev pub WritesSoFar : List (List ℕ) → Option (List ℕ) → Option (List ℕ) → Type 0
WritesSoFar [] before after = Appends before after []
WritesSoFar (first ∷ lines) before after = WritesResponses (first ∷ lines) before after

-- a first part of the responses to the messages among these lines
pub record WritesPartOfResponses (lines : List (List ℕ)) (before after : Option (List ℕ)) : Type 0 where
  pub opening : SessionState
  pub opened : Opens (first_line_of lines) opening
  pub journal : List Entry
  pub text : List ℕ
  pub responses : RespondsToEach opening (messages_among lines) journal text
  pub part : List ℕ
  pub missing : List ℕ
  pub split : text ≡ part ++ missing
  pub appended : Appends before after part

-- the responses to the messages among these lines, and a first part of the response to one message more
pub record WritesPartOfLast (lines : List (List ℕ)) (last : List ℕ) (before after : Option (List ℕ)) : Type 0 where
  pub opening : SessionState
  pub opened : Opens (first_line_of lines) opening
  pub journal : List Entry
  pub text : List ℕ
  pub responses : RespondsToEach opening (messages_among lines) journal text
  pub journal_after : List Entry
  pub response : List ℕ
  pub responds : Responds opening journal last journal_after response
  pub part : List ℕ
  pub missing : List ℕ
  pub split : response ≡ part ++ missing
  pub appended : Appends before after (text ++ part)

-- ---- how a run ends

-- the script was read whole: it isn't too long, its first line opened the session, and each of its messages has its
-- response
pub record IsDone (input : List ℕ) (left : Option (List ℕ)) (before after : Option (List ℕ)) : Type 0 where
  pub short : length input ≤ script_limit
  pub consumed : Consumes (Some input) left input
  pub written : WritesResponses (lines_of input) before after

-- no run begins with the first line: nothing is written, and no more is read than shows this, nor a second line
pub record IsUnopened (fault : Fault) (input : List ℕ) (left : Option (List ℕ))
    (before after : Option (List ℕ)) : Type 0 where
  pub read : List ℕ
  pub consumed : Consumes (Some input) left read
  pub few : length read ≤ most_bytes + 2
  pub first : length (lines_of read) ≤ 1
  pub begins_none : BeginsNone fault (first_line_of (lines_of input))
  pub unwritten : Appends before after []

-- reading ended early: just the messages whose lines had ended are answered
pub record IsCutShort (input : List ℕ) (left : Option (List ℕ)) (before after : Option (List ℕ)) : Type 0 where
  pub read : List ℕ
  pub consumed : Consumes (Some input) left read
  pub within : length read ≤ script_limit
  pub written : WritesSoFar (ended_lines read) before after

-- there was no memory for a byte of a line of which there was room for more, and so in the midst of that line: just the
-- messages whose lines had ended are answered
pub record IsCutForMemory (input : List ℕ) (left : Option (List ℕ)) (before after : Option (List ℕ)) : Type 0 where
  pub read : List ℕ
  pub consumed : Consumes (Some input) left read
  pub within : length read ≤ script_limit
  pub midst : 1 ≤ length (pieces_of read).rest
  pub few : length (pieces_of read).rest ≤ most_bytes
  pub written : WritesSoFar (ended_lines read) before after

-- the script is too long: one byte beyond the limit was read, and just the messages whose lines had ended are answered
pub record IsTooLong (input : List ℕ) (left : Option (List ℕ)) (before after : Option (List ℕ)) : Type 0 where
  pub read : List ℕ
  pub beyond : ℕ
  pub consumed : Consumes (Some input) left (read ++ beyond ∷ [])
  pub full : length read ≡ script_limit
  pub written : WritesSoFar (ended_lines read) before after

-- writing ended early, in the response to the last line that was read: it was read to its end, and no byte after it
pub record IsUnwritten (input : List ℕ) (left : Option (List ℕ)) (before after : Option (List ℕ)) : Type 0 where
  pub read : List ℕ
  pub consumed : Consumes (Some input) left read
  pub within : length read ≤ script_limit
  pub whole : ((pieces_of read).rest ≡ []) ⊎ IsAtEnd left
  pub lines : List (List ℕ)
  pub last : List ℕ
  pub begun : 1 ≤ length lines
  pub last_line : lines_of read ≡ lines ++ last ∷ []
  pub message : messages_among (lines_of read) ≡ messages_among lines ++ last ∷ []
  pub written : WritesPartOfLast lines last before after

-- what stands after each fault. A fault of the input or of the output needs what it takes for the source to fail, or for
-- the sink to fail so; a script that is too long needs neither
abbrev pub EndsOver : Type 0 → (SinkFault → Type 0) → Fault → List ℕ → Option (List ℕ) → Option (List ℕ) →
    Option (List ℕ) → Type 0
EndsOver reading writing (Session fault) input left before after = IsUnopened (Session fault) input left before after
EndsOver reading writing (Opening cause) input left before after = IsUnopened (Opening cause) input left before after
EndsOver reading writing Input input left before after =
    (reading × IsCutShort input left before after) ⊎ IsTooLong input left before after
EndsOver reading writing Output input left before after = writing sink.Output × IsUnwritten input left before after
EndsOver reading writing OutOfMemory input left before after =
    IsUnopened OutOfMemory input left before after
    ⊎ (IsCutForMemory input left before after
    ⊎ (writing sink.OutOfMemory × IsUnwritten input left before after))

-- over a reader and a writer of the system, each of which may fail at any time
abbrev pub EndsWith : Fault → List ℕ → Option (List ℕ) → Option (List ℕ) → Option (List ℕ) → Type 0
EndsWith fault input left before after = EndsOver ⊤ (λ why. why ≡ sink.Output) fault input left before after

-- over bytes in memory, where a reading never fails and a writing only for want of memory
abbrev pub EndsInMemory : Fault → List ℕ → Option (List ℕ) → Option (List ℕ) → Option (List ℕ) → Type 0
EndsInMemory fault input left before after = EndsOver ⊥ (λ why. why ≡ sink.OutOfMemory) fault input left before after
