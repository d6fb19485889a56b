-- What a reader is told of a text's first piece.
use Rattle.std.specs.Prelude.{◌≡◌, ℕ, ◌≤◌, Bool, List, ◌∷◌, ◌++◌, length}
use Rattle.pbn_pieces.specs.Bytes.{quote}
use Rattle.pbn_pieces.specs.declared.piece.NextPiece.{NextPiece}
use Rattle.pbn_pieces.specs.declared.piece.NextPiece.TheVariants as found
use Rattle.pbn_pieces.specs.Pieces.{
  Tag,
  Piece,
  Comment,
  OpenComment,
  LineComment,
  EscapeLine,
  BlankLine,
  Quoted,
  Tagged,
  Broken,
  Plain,
  Quotes,
  spelled,
  MayStand,
  starts_line,
}
use Rattle.pbn_pieces.specs.Cutting.{piece_at}

-- a piece of which nothing is told: neither a tag, nor a `[` that begins none, nor a blank line
abbrev pub IsSkipped : Piece → Type 0
IsSkipped (Comment inside) = Unit {0}
IsSkipped (OpenComment inside) = Unit {0}
IsSkipped (LineComment inside) = Unit {0}
IsSkipped (EscapeLine inside) = Unit {0}
IsSkipped (BlankLine spaces return) = ⊥
IsSkipped (Quoted within) = Unit {0}
IsSkipped (Tagged tag) = ⊥
IsSkipped (Broken after) = ⊥
IsSkipped (Plain byte) = Unit {0}

-- what is told is true of the piece
abbrev pub Shows : NextPiece → Piece → Type 0
Shows (found.Tag name value) piece = (tag : Tag) × (piece ≡ Tagged tag) × (tag.name ≡ name.now) × (tag.value
    ≡ value.now)
Shows found.BlankLine piece = (spaces : List ℕ) × (return : Bool) × (piece ≡ BlankLine spaces return)
Shows found.BadTag piece = (after : List ℕ) × (piece ≡ Broken after)
Shows (found.Skipped ends_line) piece = IsSkipped piece × (starts_line piece ≡ ends_line)

-- a piece that may stand at the text's front is told, with what stands after it
pub record Cuts (starting : Bool) (text : List ℕ) (seen : NextPiece) (rest : List ℕ) : Type 0 where
  pub piece : Piece
  pub joined : text ≡ spelled piece rest
  pub stands : MayStand starting piece rest
  pub shown : Shows seen piece

-- a text, or what is left of one, at a line's start or within a line
pub record Uncut : Type 0 where
  pub starting : Bool
  pub rest : List ℕ

-- a piece that may stand at the front is taken off, and told
pub record Takes (old : Uncut) (seen : NextPiece) (new : Uncut) : Type 0 where
  pub cuts : Cuts old.starting old.rest seen new.rest
  pub starts : new.starting ≡ starts_line cuts.piece

-- no `"` that has so many bytes after it begins a quoted text
abbrev pub NoneCloses : List ℕ → ℕ → Type 0
NoneCloses text least = (front back : List ℕ) → text ≡ front ++ quote ∷ back → least ≤ length back → ¬ Quotes back

-- ---- for private clauses

-- the same of the computed piece that begins with a byte
pub record CutsAt (starting : Bool) (byte : ℕ) (bytes : List ℕ) (seen : NextPiece) (rest : List ℕ) : Type 0 where
  pub piece : Piece
  pub first : piece_at starting byte bytes ≡ (piece, rest)
  pub shown : Shows seen piece
