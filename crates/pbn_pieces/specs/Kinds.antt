-- Which bytes are of a kind.
use Rattle.std.specs.Prelude.{ℕ, Bool}
use Rattle.pbn_pieces.specs.declared.spans.Kind.{Kind}
use Rattle.pbn_pieces.specs.declared.spans.Kind.TheVariants.{Blanks, Spaces, NameBytes, OtherThan}
use Rattle.pbn_pieces.specs.Pieces.{is_blank, is_space, is_tag_name_byte, is_other_than}

-- whether a byte is of the kind
abbrev pub is_of_kind : Kind → ℕ → Bool
is_of_kind Blanks byte = is_blank byte
is_of_kind Spaces byte = is_space byte
is_of_kind NameBytes byte = is_tag_name_byte byte
is_of_kind (OtherThan end) byte = is_other_than end byte
