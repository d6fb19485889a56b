-- What is told whoever runs the program: lines on standard error.
use Rattle.std.specs.Prelude.{ℕ, ◌⊎◌, Option, List, ◌++◌, codes}
use Rattle.std.specs.Io.KnownBytes.{Appends}
use Rattle.script_lines.specs.Writing.{WritesPart}

-- a text is written, or where it can't be, a first part of it
abbrev pub TellsLine : Option (List ℕ) → Option (List ℕ) → List ℕ → Type 0
TellsLine before after text = Appends before after text ⊎ WritesPart before after text

-- own: a name, and in brackets what it is about and why, as `bridge_server: Unread (club.pbn: it is a folder)`
unfoldable pub named_line : List ℕ → List ℕ → List ℕ → List ℕ
named_line name subject why =
    codes "bridge_server: " ++ (name ++ (codes " (" ++ (subject ++ (codes ": " ++ (why ++ codes ")\n")))))

-- own: what stands in the place of a line for which there is no memory
abbrev pub untold_line : List ℕ
untold_line = codes "bridge_server: OutOfMemory (to say why)\n"
