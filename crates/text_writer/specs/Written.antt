-- What a writer of a text has so far, where no memory was refused.
use Rattle.std.specs.Prelude.{◌≡◌, ℕ, List, IfOk}
use Rattle.std.specs.List.{concat}
use Rattle.text_writer.specs.declared.text_writer.TextWriter.{TextWriter}

-- the parts so far, one after another
pub record HasWritten (writer : TextWriter) (parts : List (List ℕ)) : Type 0 where
  pub is : IfOk writer.written (λ text. text.items ≡ concat parts)
