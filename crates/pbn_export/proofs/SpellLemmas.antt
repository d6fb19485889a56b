-- The pieces of tags, tables and games: their text is the written one, and each may stand where it does.
use Rattle.std.proofs.Common.{◌≡◌, ℕ, Bool, true, false, List, [], ◌∷◌, ◌++◌, length, map, refl, sym, ap, subst, ◌∙◌, arith, inl, inr}
use Rattle.std.proofs.Common.{append_assoc}
use Rattle.std.specs.Prelude.{◌==◌, ◌&&◌, ◌||◌, not, nat_eq, nat_lt, if◌then◌else◌}
use Rattle.std.specs.List.{concat, flat_map, list_all}
use Rattle.std.proofs.lemmas.Bool.{true≢false, and_parts, and_from, cases_Bool, eqb-true}
use Rattle.std.proofs.lemmas.List.{append-nil}
use Rattle.pbn_pieces.specs.Pieces.{is_tag_name_byte, is_escape, is_letter, is_within_quotes, Each, Tag, IsTag}
use Rattle.pbn_pieces.specs.Pieces.{Piece, BlankLine, Quoted, Tagged, Plain, spelled}
use Rattle.pbn_export.specs.Tables.{is_control_byte, value_text, is_word_byte, is_word, item_text, next_item}
use Rattle.pbn_export.specs.Tables.{TableRow, row_text, GameTag, tag_line, game_tag_text, game_text}
use Rattle.pbn_export.proofs.SafeLemmas.{is_safe, AllSafe, start_after, spell}
use Rattle.pbn_export.proofs.SafeLemmas.{start_after-append, safe-append, spell-append}

-- ---- pieces

abbrev pub item_pieces : List ℕ → List Piece
item_pieces item = if is_word item then map Plain item else Quoted (value_text item) ∷ []

abbrev pub next_pieces : List ℕ → List Piece
next_pieces item = Plain 32 ∷ item_pieces item

abbrev pub row_pieces : TableRow → List Piece
row_pieces row = item_pieces row.first ++ (flat_map next_pieces row.others ++ Plain 10 ∷ [])

abbrev pub written_tag : List ℕ → List ℕ → Tag
written_tag name value = record {
  before = [];
  name = name;
  between = 32 ∷ [];
  value = value_text value;
  after = [];
}

abbrev pub tag_pieces : GameTag → List Piece
tag_pieces tag = Tagged (written_tag tag.name tag.value) ∷ Plain 10 ∷ flat_map row_pieces tag.rows

abbrev pub game_pieces : List GameTag → List Piece
game_pieces tags = flat_map tag_pieces tags ++ BlankLine [] false ∷ []

-- ---- their text

-- where each item's text is that of its pieces, so is the text of all, and of a tail behind them
pub each_spelled : {A : Type 0} (text : A → List ℕ) (pieces : A → List Piece) →
    ((x : A) (rest : List ℕ) → text x ++ rest ≡ spell (pieces x) rest) →
    (xs : List A) (tail : List (List ℕ)) (rest : List ℕ) →
    concat (map text xs ++ tail) ++ rest ≡ spell (flat_map pieces xs) (concat tail ++ rest)
each_spelled text pieces is [] tail rest = refl
each_spelled text pieces is (x ∷ xs) tail rest =
    append_assoc (text x) (concat (map text xs ++ tail)) rest
    ∙ (is x (concat (map text xs ++ tail) ++ rest)
    ∙ (ap (spell (pieces x)) (each_spelled text pieces is xs tail rest)
    ∙ sym (spell-append (pieces x) (flat_map pieces xs) (concat tail ++ rest))))

-- the same without a tail
pub all_spelled : {A : Type 0} (text : A → List ℕ) (pieces : A → List Piece) →
    ((x : A) (rest : List ℕ) → text x ++ rest ≡ spell (pieces x) rest) →
    (xs : List A) (rest : List ℕ) → concat (map text xs) ++ rest ≡ spell (flat_map pieces xs) rest
all_spelled text pieces is xs rest =
    ap (λ parts. concat parts ++ rest) (sym (append-nil (map text xs))) ∙ each_spelled text pieces is xs [] rest

word_spelled : (bytes rest : List ℕ) → bytes ++ rest ≡ spell (map Plain bytes) rest
word_spelled [] rest = refl
word_spelled (byte ∷ bytes) rest = ap (λ more. byte ∷ more) (word_spelled bytes rest)

pub item_spelled : (item rest : List ℕ) → item_text item ++ rest ≡ spell (item_pieces item) rest
item_spelled item rest = by_word (is_word item)
  where
    by_word : (b : Bool) →
        (if b then item else concat ((34 ∷ []) ∷ value_text item ∷ (34 ∷ []) ∷ [])) ++ rest
        ≡ spell (if b then map Plain item else Quoted (value_text item) ∷ []) rest
    by_word true = word_spelled item rest
    by_word false = ap (λ more. 34 ∷ more) (append_assoc (value_text item) (34 ∷ []) rest)

next_spelled : (item rest : List ℕ) → next_item item ++ rest ≡ spell (next_pieces item) rest
next_spelled item rest =
    ap (λ more. 32 ∷ (more ++ rest)) (append-nil (item_text item))
    ∙ ap (λ more. 32 ∷ more) (item_spelled item rest)

pub row_spelled : (row : TableRow) (rest : List ℕ) → row_text row ++ rest ≡ spell (row_pieces row) rest
row_spelled row rest =
    let first = row.first in
    let tail = map next_item row.others ++ (10 ∷ []) ∷ [] in
    append_assoc (item_text first) (concat tail) rest
    ∙ (item_spelled first (concat tail ++ rest)
    ∙ (ap (spell (item_pieces first))
    (each_spelled next_item next_pieces next_spelled row.others ((10 ∷ []) ∷ []) rest
    ∙ sym (spell-append (flat_map next_pieces row.others) (Plain 10 ∷ []) rest))
    ∙ sym (spell-append (item_pieces first) (flat_map next_pieces row.others ++ Plain 10 ∷ []) rest)))

line_spelled : (name value rest : List ℕ) →
    tag_line name value ++ rest ≡ spelled (Tagged (written_tag name value)) (10 ∷ rest)
line_spelled name value rest =
    ap (λ more. 91 ∷ more)
    (append_assoc name (32 ∷ 34 ∷ (value_text value ++ (34 ∷ 93 ∷ 10 ∷ []))) rest
    ∙ ap (λ more. name ++ (32 ∷ 34 ∷ more)) (append_assoc (value_text value) (34 ∷ 93 ∷ 10 ∷ []) rest))

pub tag_spelled : (tag : GameTag) (rest : List ℕ) → game_tag_text tag ++ rest ≡ spell (tag_pieces tag) rest
tag_spelled tag rest =
    let line = tag_line tag.name tag.value in
    let rows = concat (map row_text tag.rows) in
    append_assoc line (rows ++ []) rest
    ∙ (ap (λ more. line ++ (more ++ rest)) (append-nil rows)
    ∙ (ap (λ more. line ++ more) (all_spelled row_text row_pieces row_spelled tag.rows rest)
    ∙ line_spelled tag.name tag.value (spell (flat_map row_pieces tag.rows) rest)))

pub game_spelled : (tags : List GameTag) (rest : List ℕ) → game_text tags ++ rest ≡ spell (game_pieces tags) rest
game_spelled tags rest =
    each_spelled game_tag_text tag_pieces tag_spelled tags ((10 ∷ []) ∷ []) rest
    ∙ sym (spell-append (flat_map tag_pieces tags) (BlankLine [] false ∷ []) rest)

-- ---- each may stand there

-- what is within quotes ends with them alone
plain_front : (byte : ℕ) (rest : List ℕ) → is_letter byte ≡ true → (byte == 92) ≡ false →
    is_within_quotes rest ≡ true → is_within_quotes (byte ∷ rest) ≡ true
plain_front byte [] letter plain within = grind (arith, letter, plain)
plain_front byte (next ∷ rest) letter plain within =
    ap (λ (b : Bool). if b then is_within_quotes rest else is_letter byte && is_within_quotes (next ∷ rest)) no_escape
    ∙ and_from (is_letter byte) _ letter within
  where
    no_escape : is_escape byte next ≡ false
    no_escape = ap (λ (b : Bool). b && (next == 34 || next == 92)) plain

pub within_quotes : (text : List ℕ) → is_within_quotes (value_text text) ≡ true
unfolding value_text
within_quotes [] = refl
within_quotes (byte ∷ text) =
    elim (cases_Bool (nat_eq byte 34)) [
      | inl quote ↦ subst (λ (b : Bool). is_within_quotes ((if b then 92 ∷ 34 ∷ [] else if nat_eq byte 92 then 92 ∷ 92 ∷ []
          else if is_control_byte byte then 63 ∷ [] else byte ∷ []) ++ value_text text) ≡ true) (sym quote) (within_quotes text)
      | inr plain ↦ subst (λ (b : Bool). is_within_quotes ((if b then 92 ∷ 34 ∷ [] else if nat_eq byte 92 then 92 ∷ 92 ∷ []
          else if is_control_byte byte then 63 ∷ [] else byte ∷ []) ++ value_text text) ≡ true) (sym plain)
          (elim (cases_Bool (nat_eq byte 92)) [
            | inl escape ↦ subst (λ (b : Bool). is_within_quotes ((if b then 92 ∷ 92 ∷ []
                else if is_control_byte byte then 63 ∷ [] else byte ∷ []) ++ value_text text) ≡ true) (sym escape)
                (within_quotes text)
            | inr letter ↦ subst (λ (b : Bool). is_within_quotes ((if b then 92 ∷ 92 ∷ []
                else if is_control_byte byte then 63 ∷ [] else byte ∷ []) ++ value_text text) ≡ true) (sym letter)
                (elim (cases_Bool (is_control_byte byte)) [
                  | inl control ↦ subst (λ (b : Bool). is_within_quotes ((if b then 63 ∷ [] else byte ∷ [])
                      ++ value_text text) ≡ true) (sym control) (plain_front 63 (value_text text) refl refl (within_quotes text))
                  | inr shown ↦ subst (λ (b : Bool). is_within_quotes ((if b then 63 ∷ [] else byte ∷ [])
                      ++ value_text text) ≡ true) (sym shown)
                      (plain_front byte (value_text text) (grind (arith, plain, shown)) (grind (arith, letter))
                      (within_quotes text))
                ])
          ])
    ]

-- a byte of a word is none that is no byte of a word
is_other : (byte begins : ℕ) → is_word_byte byte ≡ true → is_word_byte begins ≡ false → (byte == begins) ≡ false
is_other byte begins word none = elim (cases_Bool (byte == begins)) [
  | inl same ↦ absurd (true≢false (sym word ∙ (ap is_word_byte (eqb-true byte begins same) ∙ none)))
  | inr other ↦ other
]

-- so it begins nothing
word_safe : (starting : Bool) (byte : ℕ) → is_word_byte byte ≡ true → is_safe starting byte ≡ true
word_safe true byte word =
    let brace = is_other byte 123 word refl in
    let semicolon = is_other byte 59 word refl in
    let bracket = is_other byte 91 word refl in
    let quote = is_other byte 34 word refl in
    let percent = is_other byte 37 word refl in
    let space = is_other byte 32 word refl in
    let tab = is_other byte 9 word refl in
    let return = is_other byte 13 word refl in
    let feed = is_other byte 10 word refl in
    λ i. (not (brace i) && (not (semicolon i) && (not (bracket i) && not (quote i))))
    && (not (percent i) && not (space i || (tab i || (return i || feed i))))
word_safe false byte word =
    let brace = is_other byte 123 word refl in
    let semicolon = is_other byte 59 word refl in
    let bracket = is_other byte 91 word refl in
    let quote = is_other byte 34 word refl in
    λ i. not (brace i) && (not (semicolon i) && (not (bracket i) && not (quote i)))

word_goes_on : (byte : ℕ) → is_word_byte byte ≡ true → (byte == 10) ≡ false
word_goes_on byte word = is_other byte 10 word refl

-- such pieces, after which a line starts or doesn't
pub record Stand (starting after : Bool) (pieces : List Piece) : Type 0 where
  pub safe : AllSafe starting pieces
  pub ends_so : start_after starting pieces ≡ after

pub stand-append : (starting between after : Bool) (some more : List Piece) → Stand starting between some →
    Stand between after more → Stand starting after (some ++ more)
stand-append starting between after some more one two = record {
  safe = safe-append starting some more one.safe (subst (λ b. AllSafe b more) (sym one.ends_so) two.safe);
  ends_so = start_after-append starting some more ∙ (ap (λ b. start_after b more) one.ends_so ∙ two.ends_so);
}

pub each_stands : {A : Type 0} (starting : Bool) (pieces : A → List Piece) (test : A → Bool) →
    ((x : A) → test x ≡ true → Stand starting starting (pieces x)) → (xs : List A) → list_all test xs ≡ true →
    Stand starting starting (flat_map pieces xs)
each_stands starting pieces test is [] all = record { safe = tt; ends_so = refl }
each_stands starting pieces test is (x ∷ xs) all =
    let both = and_parts (test x) (list_all test xs) all in
    stand-append starting starting starting (pieces x) (flat_map pieces xs) (is x both.0)
    (each_stands starting pieces test is xs both.1)

word_stands : (bytes : List ℕ) → list_all is_word_byte bytes ≡ true → Stand false false (map Plain bytes)
word_stands [] all = record { safe = tt; ends_so = refl }
word_stands (byte ∷ bytes) all =
    let both = and_parts (is_word_byte byte) (list_all is_word_byte bytes) all in
    let goes = word_goes_on byte both.0 in
    let rest = word_stands bytes both.1 in
    record {
      safe = (word_safe false byte both.0, subst (λ b. AllSafe b (map Plain bytes)) (sym goes) rest.safe);
      ends_so = ap (λ b. start_after b (map Plain bytes)) goes ∙ rest.ends_so;
    }

first_word_stands : (starting : Bool) (item : List ℕ) → is_word item ≡ true → Stand starting false (map Plain item)
first_word_stands starting [] word = absurd (true≢false (sym word))
first_word_stands starting (byte ∷ bytes) all =
    let both = and_parts (is_word_byte byte) (list_all is_word_byte bytes) all in
    let goes = word_goes_on byte both.0 in
    let rest = word_stands bytes both.1 in
    record {
      safe = (word_safe starting byte both.0, subst (λ b. AllSafe b (map Plain bytes)) (sym goes) rest.safe);
      ends_so = ap (λ b. start_after b (map Plain bytes)) goes ∙ rest.ends_so;
    }

pub item_stands : (starting : Bool) (item : List ℕ) → Stand starting false (item_pieces item)
item_stands starting item =
    elim (cases_Bool (is_word item)) [
      | inl word ↦ subst (λ (b : Bool). Stand starting false (if b then map Plain item else Quoted (value_text item) ∷ []))
          (sym word) (first_word_stands starting item word)
      | inr plain ↦ subst (λ (b : Bool). Stand starting false (if b then map Plain item else Quoted (value_text item) ∷ []))
          (sym plain) (record { safe = (within_quotes item, tt); ends_so = refl })
    ]

next_stands : (item : List ℕ) → Stand false false (next_pieces item)
next_stands item =
    stand-append false false false (Plain 32 ∷ []) (item_pieces item) (record { safe = (refl, tt); ends_so = refl })
    (item_stands false item)

nexts_stand : (items : List (List ℕ)) → Stand false false (flat_map next_pieces items)
nexts_stand [] = record { safe = tt; ends_so = refl }
nexts_stand (item ∷ items) =
    stand-append false false false (next_pieces item) (flat_map next_pieces items) (next_stands item) (nexts_stand items)

pub row_stands : (row : TableRow) → Stand true true (row_pieces row)
row_stands row =
    stand-append true false true (item_pieces row.first) (flat_map next_pieces row.others ++ Plain 10 ∷ [])
    (item_stands true row.first)
    (stand-append false false true (flat_map next_pieces row.others) (Plain 10 ∷ []) (nexts_stand row.others)
    (record { safe = (refl, tt); ends_so = refl }))

rows_stand : (rows : List TableRow) → Stand true true (flat_map row_pieces rows)
rows_stand [] = record { safe = tt; ends_so = refl }
rows_stand (row ∷ rows) =
    stand-append true true true (row_pieces row) (flat_map row_pieces rows) (row_stands row) (rows_stand rows)

-- whether a tag's name is one
abbrev pub is_named : GameTag → Bool
is_named tag = list_all is_tag_name_byte tag.name && nat_lt 0 (length tag.name)

each_name_byte : (name : List ℕ) → list_all is_tag_name_byte name ≡ true → Each is_tag_name_byte name
each_name_byte [] all = tt
each_name_byte (byte ∷ name) all =
    let both = and_parts (is_tag_name_byte byte) (list_all is_tag_name_byte name) all in
    (both.0, each_name_byte name both.1)

pub tag_stands : (tag : GameTag) → is_named tag ≡ true → Stand true true (tag_pieces tag)
tag_stands tag named =
    let both = and_parts (list_all is_tag_name_byte tag.name) _ named in
    let some = both.1 in
    let is : IsTag (written_tag tag.name tag.value) = record {
      before = tt;
      name = each_name_byte tag.name both.0;
      named = grind (arith, some);
      between = (refl, tt);
      value = within_quotes tag.value;
      after = tt;
    } in
    stand-append true true true (Tagged (written_tag tag.name tag.value) ∷ Plain 10 ∷ []) (flat_map row_pieces tag.rows)
    (record { safe = (is, (refl, tt)); ends_so = refl }) (rows_stand tag.rows)

pub game_stands : (tags : List GameTag) → list_all is_named tags ≡ true → Stand true true (game_pieces tags)
game_stands tags named =
    stand-append true true true (flat_map tag_pieces tags) (BlankLine [] false ∷ [])
    (each_stands true tag_pieces is_named tag_stands tags named)
    (record { safe = ((refl, tt), tt); ends_so = refl })
