-- What reading a line takes from a source of bytes.
use Rattle.std.specs.Prelude.{
  ◌≡◌,
  ◌≢◌,
  ◌⊎◌,
  ℕ,
  ◌+◌,
  ◌<◌,
  ◌≤◌,
  Option,
  Some,
  None,
  IfSome,
  List,
  [],
  ◌∷◌,
  ◌++◌,
  length,
  take,
  All,
}
use Rattle.std.specs.Io.KnownBytes.{Consumes, IsAtEnd}
use Rattle.script_lines.specs.declared.line_end.LineEnd.{LineEnd}
use Rattle.script_lines.specs.declared.line_end.LineEnd.TheVariants.{LineFeed, EndOfInput}
use Rattle.script_lines.specs.declared.reading.ReadFault.{ReadFault}
use Rattle.script_lines.specs.declared.reading.ReadFault.TheVariants.{Input, OutOfMemory}
use Rattle.script_lines.specs.Lines.{ended_line, first_line_of, lines_of}

-- no byte of it ends a line
abbrev pub IsUnbroken : List ℕ → Type 0
IsUnbroken bytes = All (λ byte. byte ≢ 10) bytes

-- a line that an LF ends: the source has lost it with its LF, and as many bytes fewer may still be read
pub record TakesEnded (old new : Option (List ℕ)) (line : List ℕ) (left_old left_new : ℕ) : Type 0 where
  pub piece : List ℕ
  pub unbroken : IsUnbroken piece
  pub consumed : Consumes old new (piece ++ 10 ∷ [])
  pub shortened : line ≡ ended_line piece
  pub counted : left_new + (length piece + 1) ≡ left_old

-- what stands after the last LF: the source has nothing left
pub record TakesRest (old new : Option (List ℕ)) (rest : List ℕ) (left_old left_new : ℕ) : Type 0 where
  pub unbroken : IsUnbroken rest
  pub consumed : Consumes old new rest
  pub at_end : IsAtEnd new
  pub counted : left_new + length rest ≡ left_old

abbrev pub TakesLine : LineEnd → Option (List ℕ) → Option (List ℕ) → List ℕ → ℕ → ℕ → Type 0
TakesLine LineFeed old new line left_old left_new = TakesEnded old new line left_old left_new
TakesLine EndOfInput old new line left_old left_new = TakesRest old new line left_old left_new

-- a line that is taken whole, and of which no more is kept than shows whether it has more than so many bytes
pub record TakesKept (end : LineEnd) (old new : Option (List ℕ)) (most : ℕ) (line : List ℕ)
    (left_old left_new : ℕ) : Type 0 where
  pub whole : List ℕ
  pub takes : TakesLine end old new whole left_old left_new
  pub kept : line ≡ take (most + 1) whole

-- the source failed: what came before of the line is taken, as many of its bytes are kept as there is room for, and
-- nothing is lost
pub record FailsAtInput (fails : Type 0) (old new : Option (List ℕ)) (room : ℕ) (line : List ℕ)
    (left_old left_new : ℕ) : Type 0 where
  pub failed : fails
  pub piece : List ℕ
  pub unbroken : IsUnbroken piece
  pub kept : line ≡ take room piece
  pub consumed : Consumes old new piece
  pub counted : left_new + length piece ≡ left_old

-- the source had a byte more than may be read, which is lost: what came before of the line is taken, and as many of its
-- bytes are kept as there is room for
pub record IsBeyondLimit (old new : Option (List ℕ)) (room : ℕ) (line : List ℕ) (left_old left_new : ℕ) : Type 0 where
  pub piece : List ℕ
  pub unbroken : IsUnbroken piece
  pub kept : line ≡ take room piece
  pub beyond : ℕ
  pub consumed : Consumes old new (piece ++ beyond ∷ [])
  pub counted : left_new + length piece ≡ left_old
  pub full : left_new ≡ 0

-- memory was refused for a byte of the line that was to be kept, which may be read and is lost: the line keeps what
-- came before
pub record FailsForMemory (old new : Option (List ℕ)) (room : ℕ) (line : List ℕ) (left_old left_new : ℕ) : Type 0 where
  pub unbroken : IsUnbroken line
  pub lost : ℕ
  pub ends_no_line : lost ≢ 10
  pub consumed : Consumes old new (line ++ lost ∷ [])
  pub few : length line < room
  pub counted : left_new + (length line + 1) ≡ left_old

-- what each fault says of what was read, and kept of a line of which so many bytes are kept at most; and that a source
-- failed, unless it has more bytes than may be read
abbrev pub FailsFor : Type 0 → ReadFault → Option (List ℕ) → Option (List ℕ) → ℕ → List ℕ → ℕ → ℕ → Type 0
FailsFor fails Input old new room line left_old left_new =
    FailsAtInput fails old new room line left_old left_new ⊎ IsBeyondLimit old new room line left_old left_new
FailsFor fails OutOfMemory old new room line left_old left_new = FailsForMemory old new room line left_old left_new

-- ---- a line that is to have so many bytes at most

-- the first line of what the source has is longer: no more is taken of it than shows this
pub record TakesLonger (old new : Option (List ℕ)) (most left_old left_new : ℕ) : Type 0 where
  pub piece : List ℕ
  pub unbroken : IsUnbroken piece
  pub consumed : Consumes old new piece
  pub few : length piece ≤ most + 2
  pub counted : left_new + length piece ≡ left_old
  pub longer : IfSome old (λ text. most < length (first_line_of (lines_of text)))

-- a line that isn't longer, or the front of one that is
abbrev pub TakesUpTo : Option LineEnd → Option (List ℕ) → Option (List ℕ) → List ℕ → ℕ → ℕ → ℕ → Type 0
TakesUpTo (Some end) old new line most left_old left_new =
    TakesLine end old new line left_old left_new × (length line ≤ most)
TakesUpTo None old new line most left_old left_new = TakesLonger old new most left_old left_new
