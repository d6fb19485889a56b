-- The marks of an export: its tags, and a blank line behind each game. No `[` of it begins no tag.
use Rattle.std.proofs.Common.{◌≡◌, ℕ, ◌+◌, Bool, true, false, List, [], ◌∷◌, ◌++◌, map, refl, sym, ap, ◌∙◌, arith}
use Rattle.std.proofs.Common.{append_assoc}
use Rattle.std.specs.Prelude.{None, if◌then◌else◌}
use Rattle.std.specs.List.{flat_map, list_all}
use Rattle.std.specs.Option.{option_or}
use Rattle.std.proofs.lemmas.Bool.{and_parts, and_from}
use Rattle.std.proofs.lemmas.List.Folds.{list_all-append}
use Rattle.pbn_pieces.specs.Pieces.{Piece, Comment, OpenComment, LineComment, EscapeLine, BlankLine, Quoted, Tagged, Broken, Plain, size}
use Rattle.pbn_records.specs.Tags.{Placed, Mark, Named, Break, mark_of, marks_from, bad_at, bad_from}
use Rattle.pbn_export.specs.Tables.{value_text, is_word, TableRow, GameTag}
use Rattle.pbn_export.proofs.SpellLemmas.{item_pieces, next_pieces, row_pieces, tag_pieces, game_pieces, written_tag}

-- how many bytes pieces have
pub sizes : List Piece → ℕ
sizes [] = 0
sizes (piece ∷ pieces) = size piece + sizes pieces

pub marks-append : (offset : ℕ) (some more : List Piece) →
    marks_from offset (some ++ more) ≡ marks_from offset some ++ marks_from (offset + sizes some) more
unfolding sizes
marks-append offset [] more = ap (λ n. marks_from n more) (omega arith)
marks-append offset (piece ∷ some) more =
    let next = offset + size piece in
    let same : next + sizes some ≡ offset + (size piece + sizes some) = omega arith in
    ap (λ marks. mark_of offset piece ++ marks)
    (marks-append next some more ∙ ap (λ n. marks_from next some ++ marks_from n more) same)
    ∙ sym (append_assoc (mark_of offset piece) (marks_from next some) (marks_from (offset + (size piece + sizes some)) more))

-- whether a piece has no mark
abbrev pub is_silent : Piece → Bool
is_silent (Comment inside) = true
is_silent (OpenComment inside) = true
is_silent (LineComment inside) = true
is_silent (EscapeLine inside) = true
is_silent (BlankLine spaces return) = false
is_silent (Quoted within) = true
is_silent (Tagged tag) = false
is_silent (Broken after) = true
is_silent (Plain byte) = true

silent_mark : (offset : ℕ) (piece : Piece) → is_silent piece ≡ true → mark_of offset piece ≡ []
silent_mark offset (Comment inside) silent = refl
silent_mark offset (OpenComment inside) silent = refl
silent_mark offset (LineComment inside) silent = refl
silent_mark offset (EscapeLine inside) silent = refl
silent_mark offset (BlankLine spaces return) silent = absurd (cc)
silent_mark offset (Quoted within) silent = refl
silent_mark offset (Tagged tag) silent = absurd (cc)
silent_mark offset (Broken after) silent = refl
silent_mark offset (Plain byte) silent = refl

no_marks : (offset : ℕ) (pieces : List Piece) → list_all is_silent pieces ≡ true → marks_from offset pieces ≡ []
no_marks offset [] silent = refl
no_marks offset (piece ∷ pieces) silent =
    let both = and_parts (is_silent piece) (list_all is_silent pieces) silent in
    (λ i. silent_mark offset piece both.0 i ++ no_marks (offset + size piece) pieces both.1 i)

-- whether a piece is no broken tag
abbrev pub is_whole : Piece → Bool
is_whole (Comment inside) = true
is_whole (OpenComment inside) = true
is_whole (LineComment inside) = true
is_whole (EscapeLine inside) = true
is_whole (BlankLine spaces return) = true
is_whole (Quoted within) = true
is_whole (Tagged tag) = true
is_whole (Broken after) = false
is_whole (Plain byte) = true

whole_bad : (offset : ℕ) (piece : Piece) → is_whole piece ≡ true → bad_at offset piece ≡ None
whole_bad offset (Comment inside) whole = refl
whole_bad offset (OpenComment inside) whole = refl
whole_bad offset (LineComment inside) whole = refl
whole_bad offset (EscapeLine inside) whole = refl
whole_bad offset (BlankLine spaces return) whole = refl
whole_bad offset (Quoted within) whole = refl
whole_bad offset (Tagged tag) whole = refl
whole_bad offset (Broken after) whole = absurd (cc)
whole_bad offset (Plain byte) whole = refl

pub none_bad : (offset : ℕ) (pieces : List Piece) → list_all is_whole pieces ≡ true → bad_from offset pieces ≡ None
none_bad offset [] whole = refl
none_bad offset (piece ∷ pieces) whole =
    let both = and_parts (is_whole piece) (list_all is_whole pieces) whole in
    ap (λ o. option_or o (bad_from (offset + size piece) pieces)) (whole_bad offset piece both.0)
    ∙ none_bad (offset + size piece) pieces both.1

-- ---- rows have no marks

all_plain : (test : Piece → Bool) → ((byte : ℕ) → test (Plain byte) ≡ true) → (bytes : List ℕ) →
    list_all test (map Plain bytes) ≡ true
all_plain test is [] = refl
all_plain test is (byte ∷ bytes) = and_from (test (Plain byte)) _ (is byte) (all_plain test is bytes)

pub both_pass : (test : Piece → Bool) (some more : List Piece) → list_all test some ≡ true → list_all test more ≡ true →
    list_all test (some ++ more) ≡ true
both_pass test some more a b = list_all-append test some more ∙ and_from (list_all test some) (list_all test more) a b

pub each_pass : {A : Type 0} (test : Piece → Bool) (pieces : A → List Piece) →
    ((x : A) → list_all test (pieces x) ≡ true) → (xs : List A) → list_all test (flat_map pieces xs) ≡ true
each_pass test pieces is [] = refl
each_pass test pieces is (x ∷ xs) = both_pass test (pieces x) (flat_map pieces xs) (is x) (each_pass test pieces is xs)

-- a test that plain bytes and quoted texts pass
module _ (test : Piece → Bool) (plain : (byte : ℕ) → test (Plain byte) ≡ true)
    (quoted : (within : List ℕ) → test (Quoted within) ≡ true) where
  item_pass : (item : List ℕ) → list_all test (item_pieces item) ≡ true
  item_pass item = by_word (is_word item)
    where
      by_word : (b : Bool) → list_all test (if b then map Plain item else Quoted (value_text item) ∷ []) ≡ true
      by_word true = all_plain test plain item
      by_word false = and_from (test (Quoted (value_text item))) true (quoted (value_text item)) refl

  next_pass : (item : List ℕ) → list_all test (next_pieces item) ≡ true
  next_pass item = and_from (test (Plain 32)) _ (plain 32) (item_pass item)

  row_pass : (row : TableRow) → list_all test (row_pieces row) ≡ true
  row_pass row =
      both_pass test (item_pieces row.first) _ (item_pass row.first)
      (both_pass test (flat_map next_pieces row.others) (Plain 10 ∷ []) (each_pass test next_pieces next_pass row.others)
      (and_from (test (Plain 10)) true (plain 10) refl))

  pub rows_pass : (rows : List TableRow) → list_all test (flat_map row_pieces rows) ≡ true
  rows_pass rows = each_pass test row_pieces row_pass rows

  pub tag_pass : ((tag : GameTag) → test (Tagged (written_tag tag.name tag.value)) ≡ true) → (tag : GameTag) →
      list_all test (tag_pieces tag) ≡ true
  tag_pass tagged tag =
      and_from (test (Tagged (written_tag tag.name tag.value))) _ (tagged tag)
      (and_from (test (Plain 10)) _ (plain 10) (rows_pass tag.rows))

pub game_whole : (tags : List GameTag) → list_all is_whole (game_pieces tags) ≡ true
game_whole tags =
    both_pass is_whole (flat_map tag_pieces tags) (BlankLine [] false ∷ [])
    (each_pass is_whole tag_pieces (tag_pass is_whole (λ _. refl) (λ _. refl) (λ _. refl)) tags) refl

-- ---- the marks of games

-- a tag at an offset
abbrev pub placed_tag : ℕ → GameTag → Placed
placed_tag offset tag = record { offset = offset; name = tag.name; value = value_text tag.value }

-- tags, of which the first stands at an offset
abbrev pub placed_tags : ℕ → List GameTag → List Placed
placed_tags offset [] = []
placed_tags offset (tag ∷ tags) = placed_tag offset tag ∷ placed_tags (offset + sizes (tag_pieces tag)) tags

-- a tag stands for each placed one
abbrev pub named_all : List Placed → List Mark
named_all [] = []
named_all (tag ∷ tags) = Named tag ∷ named_all tags

tag_marks : (offset : ℕ) (tag : GameTag) → marks_from offset (tag_pieces tag) ≡ Named (placed_tag offset tag) ∷ []
tag_marks offset tag =
    let after = offset + size (Tagged (written_tag tag.name tag.value)) + size (Plain 10) in
    ap (λ marks. Named (placed_tag offset tag) ∷ marks)
    (no_marks after (flat_map row_pieces tag.rows) (rows_pass is_silent (λ _. refl) (λ _. refl) tag.rows))

tags_marks : (offset : ℕ) (tags : List GameTag) →
    marks_from offset (flat_map tag_pieces tags) ≡ named_all (placed_tags offset tags)
tags_marks offset [] = refl
tags_marks offset (tag ∷ tags) =
    marks-append offset (tag_pieces tag) (flat_map tag_pieces tags)
    ∙ (λ i. tag_marks offset tag i ++ tags_marks (offset + sizes (tag_pieces tag)) tags i)

pub game_marks : (offset : ℕ) (tags : List GameTag) →
    marks_from offset (game_pieces tags) ≡ named_all (placed_tags offset tags) ++ Break ∷ []
game_marks offset tags =
    marks-append offset (flat_map tag_pieces tags) (BlankLine [] false ∷ [])
    ∙ ap (λ marks. marks ++ Break ∷ []) (tags_marks offset tags)
