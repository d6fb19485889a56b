-- The lines of a text of bytes. An LF ends a line; neither it nor one CR before it belongs to the line. What stands
-- after the last LF is a line too, where it isn't empty, and a CR there is a byte of the line.
use Rattle.std.specs.Prelude.{ℕ, ◌==◌, if◌then◌else◌, List, [], ◌∷◌, ◌++◌, map}
use Rattle.std.specs.Io.BufRead.{strip_last}

-- what a text is cut into: what stands before each LF, and what stands after the last one
pub record CutText : Type 0 where
  pub ended : List (List ℕ)
  pub rest : List ℕ

-- a byte that doesn't end a line is the first of what follows it
abbrev pub before_rest : ℕ → List (List ℕ) → List ℕ → CutText
before_rest byte [] rest = record { ended = []; rest = byte ∷ rest }
before_rest byte (line ∷ lines) rest = record { ended = (byte ∷ line) ∷ lines; rest = rest }

-- an LF ends an empty line before what follows it
abbrev pub before : ℕ → CutText → CutText
before byte following =
    if byte == 10
    then record { ended = [] ∷ following.ended; rest = following.rest }
    else before_rest byte following.ended following.rest

abbrev pub pieces_of : List ℕ → CutText
pieces_of [] = record { ended = []; rest = [] }
pieces_of (byte ∷ bytes) = before byte (pieces_of bytes)

-- what an LF ends, as a line: without one CR before the LF
abbrev pub ended_line : List ℕ → List ℕ
ended_line piece = strip_last 13 piece

-- the lines that an LF ends
unfoldable pub ended_lines : List ℕ → List (List ℕ)
ended_lines text = map ended_line (pieces_of text).ended

-- what stands after the last LF, where it isn't empty
abbrev pub last_line : List ℕ → List (List ℕ)
last_line [] = []
last_line (byte ∷ bytes) = (byte ∷ bytes) ∷ []

-- all lines of a text
unfoldable pub lines_of : List ℕ → List (List ℕ)
lines_of text = ended_lines text ++ last_line (pieces_of text).rest

-- the first of some lines, and the empty line where there is none
abbrev pub first_line_of : List (List ℕ) → List ℕ
first_line_of [] = []
first_line_of (first ∷ lines) = first
