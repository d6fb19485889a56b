-- For private clauses: how far a script's run has come.
use Rattle.std.specs.Prelude.{◌≡◌, ℕ, ◌+◌, ◌≤◌, Option, Result, Ok, Err, List, [], ◌∷◌, ◌++◌, length}
use Rattle.std.specs.Io.KnownBytes.{Consumes, Appends, IsAtEnd}
use Rattle.script_lines.specs.declared.line_end.LineEnd.{LineEnd}
use Rattle.script_lines.specs.declared.line_end.LineEnd.TheVariants.{LineFeed, EndOfInput}
use Rattle.script_lines.specs.declared.reading.ReadFault.{ReadFault}
use Rattle.script_lines.specs.declared.reading.ReadFault.TheVariants as read
use Rattle.script_lines.specs.declared.sink.SinkFault.{SinkFault}
use Rattle.script_lines.specs.declared.sink.SinkFault.TheVariants as sink
use Rattle.script_lines.specs.Lines.{pieces_of, ended_lines, lines_of, first_line_of}
use Rattle.session_book.specs.Journal.{Ledger}
use Rattle.json_fields.specs.declared.request_fault.RequestFault.{RequestFault}
use Rattle.wire.specs.ReceiptText.{fault_text}
use Rattle.program.specs.declared.fault.Fault.{Fault}
use Rattle.program.specs.declared.fault.Fault.TheVariants.{Input, Output, OutOfMemory}
use Rattle.program.specs.FirstLine.{Opens}
use Rattle.program.specs.Script.{messages_among}
use Rattle.program.specs.Writes.{script_limit, RespondsToEach}

-- the line that responds: the text, or the fault's own
abbrev pub line_of : {S : Type 0} → (S → List ℕ) → Result S RequestFault → List ℕ
line_of bytes (Ok text) = bytes text
line_of bytes (Err fault) = fault_text fault ++ 10 ∷ []

-- so many bytes were taken from the reader, the first of these lines opened the session, and the messages among them
-- have their responses
pub record Stands (input before reader writer : Option (List ℕ)) (ledger : Ledger) (left : ℕ) (taken : List ℕ)
    (lines : List (List ℕ)) : Type 0 where
  pub consumed : Consumes input reader taken
  pub counted : left + length taken ≡ script_limit
  pub opened : Opens (first_line_of lines) ledger.opening
  pub text : List ℕ
  pub responses : RespondsToEach ledger.opening (messages_among lines) ledger.journal text
  pub appended : Appends before writer text

-- after a line that an LF ended
pub record StandsAtLine (input before reader writer : Option (List ℕ)) (ledger : Ledger) (left : ℕ) : Type 0 where
  pub taken : List ℕ
  pub whole : (pieces_of taken).rest ≡ []
  pub begun : 1 ≤ length (ended_lines taken)
  pub stands : Stands input before reader writer ledger left taken (ended_lines taken)

-- at the input's end
pub record StandsAtEnd (input before reader writer : Option (List ℕ)) (ledger : Ledger) (left : ℕ) : Type 0 where
  pub taken : List ℕ
  pub at_end : IsAtEnd reader
  pub stands : Stands input before reader writer ledger left taken (lines_of taken)

-- after a line that ended so
abbrev pub StandsAfter : LineEnd → Option (List ℕ) → Option (List ℕ) → Option (List ℕ) → Option (List ℕ) → Ledger → ℕ
    → Type 0
StandsAfter LineFeed input before reader writer ledger left = StandsAtLine input before reader writer ledger left
StandsAfter EndOfInput input before reader writer ledger left = StandsAtEnd input before reader writer ledger left

-- how many LFs ended a line
abbrev pub line_feeds : LineEnd → ℕ
line_feeds LineFeed = 1
line_feeds EndOfInput = 0

-- the fault of a script whose next line wasn't read
abbrev pub fault_of_read : ReadFault → Fault
fault_of_read read.Input = Input
fault_of_read read.OutOfMemory = OutOfMemory

-- the fault of a script whose response wasn't written whole
abbrev pub fault_of_write : SinkFault → Fault
fault_of_write sink.Output = Output
fault_of_write sink.OutOfMemory = OutOfMemory
