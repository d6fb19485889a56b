-- A text is cut in one way alone: the first piece is the computed one, if the piece may stand there.
use Rattle.std.proofs.Common.{
  ◌≡◌,
  ℕ,
  ◌<◌,
  Bool,
  true,
  false,
  List,
  [],
  ◌∷◌,
  ◌++◌,
  length,
  refl,
  sym,
  ap,
  subst,
  ◌∙◌,
  append-nil,
  arith,
}
use Rattle.std.specs.Prelude.{Option, Some, None, ◌==◌, ◌&&◌, if◌then◌else◌}
use Rattle.std.proofs.lemmas.Bool.{ne_eqb, eqb-true, true≢false, cond_both, and_from, and_parts}
use Rattle.pbn_pieces.specs.Pieces.{
  is_blank,
  is_space,
  is_tag_name_byte,
  is_other_than,
  is_escape,
  is_letter,
  is_within_quotes,
  Each,
  IsWithinQuotes,
  Quotes,
  Tag,
  tag_text,
  IsTag,
  HasTag,
  HasBlankLine,
  AtLineEnd,
  Piece,
  Comment,
  OpenComment,
  LineComment,
  EscapeLine,
  BlankLine,
  Quoted,
  Tagged,
  Broken,
  Plain,
  spelled,
  MayStand,
  starts_line,
  Joins,
}
use Rattle.pbn_pieces.specs.Cutting.{
  split,
  after_byte,
  in_front,
  closing,
  ◌>>=◌,
  nonempty_name,
  tag_name_at,
  tag_at,
  line_end,
  blank_before,
  blank_line,
  comment_at,
  quoted_at,
  tagged_at,
  piece_at,
  or_piece,
  first_piece,
}

-- the text doesn't go on with a byte that passes
abbrev pub StopsAt : (ℕ → Bool) → List ℕ → Type 0
StopsAt test [] = Unit {0}
StopsAt test (byte ∷ bytes) = test byte ≡ false

split_end : (test : ℕ → Bool) (rest : List ℕ) → StopsAt test rest → split test rest ≡ ([], rest)
split_end test [] stops = refl
split_end test (byte ∷ bytes) stops = ap (λ (b : Bool). if b then (byte ∷ (split test bytes).0, (split test bytes).1)
    else ([], byte ∷ bytes)) stops

pub split_first : (test : ℕ → Bool) (front rest : List ℕ) → Each test front → StopsAt test rest →
    split test (front ++ rest) ≡ (front, rest)
split_first test [] rest each stops = split_end test rest stops
split_first test (byte ∷ front) rest each stops =
    ap (λ (b : Bool). if b then (byte ∷ (split test (front ++ rest)).0, (split test (front ++ rest)).1)
    else ([], byte ∷ (front ++ rest))) each.0
    ∙ ap (λ (s : List ℕ × List ℕ). (byte ∷ s.0, s.1)) (split_first test front rest each.1 stops)

-- what may stand within quotes is what is found before the closing one
pub closing_first : (within rest : List ℕ) → IsWithinQuotes within → closing (within ++ 34 ∷ rest) ≡ Some (within, rest)
closing_first [] [] is = refl
closing_first [] (byte ∷ rest) is = refl
closing_first (byte ∷ []) rest is = grind (arith, is, closing_first [] rest refl)
closing_first (byte ∷ next ∷ within) rest is = grind (
  arith,
  is,
  closing_first within rest,
  closing_first
      (next ∷ within) rest,
)

-- what is found before the closing quote may stand within quotes
abbrev pub IsClosing : List ℕ → Option (List ℕ × List ℕ) → Type 0
IsClosing bytes None = Unit {0}
IsClosing bytes (Some (within, rest)) = (bytes ≡ within ++ 34 ∷ rest) × IsWithinQuotes within

first_of : List ℕ → ℕ
first_of [] = 0
first_of (byte ∷ bytes) = byte

same_first : (byte next : ℕ) (bytes others : List ℕ) → byte ∷ bytes ≡ next ∷ others → byte ≡ next
unfolding first_of
same_first byte next bytes others e = ap first_of e

escape_found : (byte next : ℕ) (bytes : List ℕ) (o : Option (List ℕ × List ℕ)) → is_escape byte next ≡ true →
    IsClosing bytes o →
    IsClosing (byte ∷ next ∷ bytes) (in_front byte (in_front next o))
escape_found byte next bytes None escape is = tt
escape_found byte next bytes (Some (within, rest)) escape is = (
  ap (λ rest. byte ∷ next ∷ rest) is.0,
  ap (λ (b : Bool). if b then is_within_quotes within else is_letter byte &&
      is_within_quotes (next ∷ within)) escape ∙ is.1,
)

letter_found : (byte next : ℕ) (bytes : List ℕ) (o : Option (List ℕ × List ℕ)) → is_letter byte ≡ true →
    is_escape byte next ≡ false → IsClosing (next ∷ bytes) o →
    IsClosing (byte ∷ next ∷ bytes) (in_front byte o)
letter_found byte next bytes None letter plain is = tt
letter_found byte next bytes (Some ([], rest)) letter plain is =
    let quote = same_first next 34 bytes rest is.0 in
    (ap (λ rest. byte ∷ rest) is.0, grind (arith, letter, plain, quote))
letter_found byte next bytes (Some (other ∷ within, rest)) letter plain is =
    let same = same_first next other bytes (within ++ 34 ∷ rest) is.0 in (
      ap (λ rest. byte ∷ rest) is.0,
      ap (λ (b : Bool). if b then is_within_quotes within else is_letter byte && is_within_quotes (other ∷ within))
          (subst (λ n. is_escape byte n ≡ false) same plain)
          ∙ and_from (is_letter byte) (is_within_quotes (other ∷ within)) letter is.1,
    )

pub closing_ok : (bytes : List ℕ) → IsClosing bytes (closing bytes)
closing_ok [] = tt
closing_ok (byte ∷ []) = cond_both (byte == 34) (Some ([], [])) None (IsClosing (byte ∷ []))
    (λ e. (ap (λ b. b ∷ []) (eqb-true byte 34 e), refl)) (λ e. tt)
closing_ok (byte ∷ next ∷ bytes) =
    cond_both (byte == 34) (Some ([], next ∷ bytes)) _ (IsClosing (byte ∷ next ∷ bytes))
    (λ e. (ap (λ b. b ∷ next ∷ bytes) (eqb-true byte 34 e), refl)) (λ quote.
    cond_both (byte == 10) None _ (IsClosing (byte ∷ next ∷ bytes)) (λ e. tt) (λ feed.
    cond_both (is_escape byte next) (in_front byte (in_front next (closing bytes)))
    (in_front byte (closing (next ∷ bytes))) (IsClosing (byte ∷ next ∷ bytes))
    (λ escape. escape_found byte next bytes (closing bytes) escape (closing_ok bytes))
    (λ plain. letter_found byte next bytes (closing (next ∷ bytes)) (grind (arith, quote, feed)) plain
    (closing_ok (next ∷ bytes)))))

pub closing_is : (bytes within rest : List ℕ) → closing bytes ≡ Some (within, rest) → (bytes ≡ within ++ 34 ∷ rest) ×
    IsWithinQuotes within
closing_is bytes within rest found = subst (IsClosing bytes) found (closing_ok bytes)

abbrev IsSplit : (ℕ → Bool) → List ℕ → List ℕ × List ℕ → Type 0
IsSplit test bytes found = (bytes ≡ found.0 ++ found.1) × Each test found.0

pub split_is : (test : ℕ → Bool) (bytes : List ℕ) → IsSplit test bytes (split test bytes)
split_is test [] = (refl, tt)
split_is test (byte ∷ bytes) =
    let inner = split_is test bytes in
    cond_both (test byte) (byte ∷ (split test bytes).0, (split test bytes).1) ([], byte ∷ bytes)
    (IsSplit test (byte ∷ bytes))
    (λ e. (ap (λ rest. byte ∷ rest) inner.0, (e, inner.1)))
    (λ e. (refl, tt))

-- a name ends the blanks before it, and blanks or a quote end a name
name_is_no_blank : (byte : ℕ) → is_tag_name_byte byte ≡ true → is_blank byte ≡ false
name_is_no_blank byte is = grind (arith, is)

blank_is_no_name : (byte : ℕ) → is_blank byte ≡ true → is_tag_name_byte byte ≡ false
blank_is_no_name byte is = grind (arith, is)

blanks_stop : (name rest : List ℕ) → Each is_tag_name_byte name → 0 < length name → StopsAt is_blank (name ++ rest)
blanks_stop [] rest each named = absurd (omega (arith, named))
blanks_stop (byte ∷ name) rest each named = name_is_no_blank byte each.0

name_stops : (blanks rest : List ℕ) → Each is_blank blanks → StopsAt is_tag_name_byte (blanks ++ 34 ∷ rest)
name_stops [] rest each = refl
name_stops (byte ∷ blanks) rest each = blank_is_no_name byte each.0

named_first : (name rest : List ℕ) → 0 < length name → nonempty_name name rest ≡ Some (name, rest)
named_first [] rest is = absurd (omega (arith, is))
named_first (byte ∷ name) rest is = refl

pub tag_first : (tag : Tag) (rest : List ℕ) → IsTag tag → tag_at (tag_text tag rest) ≡ Some (tag, rest)
unfolding tag_at
tag_first tag rest is =
    let closed = 34 ∷ (tag.value ++ 34 ∷ (tag.after ++ 93 ∷ rest)) in
    rw (split_first is_blank tag.before (tag.name ++ (tag.between ++ closed)) is.before
    (blanks_stop tag.name (tag.between ++ closed) is.name is.named))
    (rw (split_first is_tag_name_byte tag.name (tag.between ++ closed) is.name
    (name_stops tag.between (tag.value ++ 34 ∷ (tag.after ++ 93 ∷ rest)) is.between))
    (rw (named_first tag.name (tag.between ++ closed) is.named)
    (rw (split_first is_blank tag.between closed is.between refl)
    (rw (closing_first tag.value (tag.after ++ 93 ∷ rest) is.value)
    (rw (split_first is_blank tag.after (93 ∷ rest) is.after refl) refl)))))

abbrev IsNothing : {B : Type 0} → Option B → Type 0
IsNothing None = Unit {0}
IsNothing (Some x) = ⊥

pub none_some : {B : Type 0} (y : B) → (None ≡ Some y) → ⊥
none_some y e = subst IsNothing e tt

value_or : {A : Type 0} → A → Option A → A
value_or other None = other
value_or other (Some x) = x

pub some_same : {A : Type 0} (x y : A) → Some x ≡ Some y → x ≡ y
unfolding value_or
some_same x y e = ap (value_or x) e

bind_ok : {A B : Type 0} (o : Option A) (f : A → Option B) (y : B) → (o >>= f) ≡ Some y → (x : A) × (o ≡ Some x) ×
    (f x ≡ Some y)
bind_ok None f y e = absurd (none_some y e)
bind_ok (Some x) f y e = (x, refl, e)

after_byte_is : (wanted : ℕ) (bytes rest : List ℕ) → after_byte wanted bytes ≡ Some rest → bytes ≡ wanted ∷ rest
after_byte_is wanted [] rest e = grind (arith, e)
after_byte_is wanted (byte ∷ bytes) rest e = grind (arith, e)

name_is : (bytes name rest : List ℕ) → tag_name_at bytes ≡ Some (name, rest) → (bytes ≡ name ++ rest) ×
    Each is_tag_name_byte name × (0 < length name)
name_is bytes name rest found =
    let all = split_is is_tag_name_byte bytes in
    subst (λ text. (text ≡ name ++ rest) × Each is_tag_name_byte name × (0 < length name)) (sym all.0)
    (by_name (split is_tag_name_byte bytes).0 (split is_tag_name_byte bytes).1 name rest found all.1)
  where
    by_name : (some other name rest : List ℕ) → nonempty_name some other ≡ Some (name, rest) → Each is_tag_name_byte
        some →
        (some ++ other ≡ name ++ rest) × Each is_tag_name_byte name × (0 < length name)
    by_name [] other name rest found each = absurd (none_some _ found)
    by_name (byte ∷ some) other name rest found each =
        let same = some_same (byte ∷ some, other) (name, rest) found in
        subst (λ (s : List ℕ × List ℕ). (byte ∷ some ++ other ≡ s.0 ++ s.1) × Each is_tag_name_byte s.0 ×
        (0 < length s.0)) same (refl, each, omega arith)

pub tag_is : (bytes : List ℕ) (tag : Tag) (rest : List ℕ) → tag_at bytes ≡ Some (tag, rest) →
    (bytes ≡ tag_text tag rest) × IsTag tag
unfolding tag_at
tag_is bytes tag rest found =
    let before = split_is is_blank bytes in
    let name = bind_ok (tag_name_at (split is_blank bytes).1) _ _ found in
    let is_name = name_is (split is_blank bytes).1 name.0.0 name.0.1 name.1 in
    let between = split_is is_blank name.0.1 in
    let opened = bind_ok (after_byte 34 (split is_blank name.0.1).1) _ _ name.2 in
    let value = bind_ok (closing opened.0) _ _ opened.2 in
    let is_value = closing_is opened.0 value.0.0 value.0.1 value.1 in
    let after = split_is is_blank value.0.1 in
    let closed = bind_ok (after_byte 93 (split is_blank value.0.1).1) _ _ value.2 in
    subst (λ (found : Tag × List ℕ). (bytes ≡ tag_text found.0 found.1) × IsTag found.0)
    (some_same _ (tag, rest) closed.2) (
      before.0
          ∙ ap (λ x. (split is_blank bytes).0 ++ x) (is_name.0
          ∙ ap (λ x. name.0.0 ++ x) (between.0
          ∙ ap (λ x. (split is_blank name.0.1).0 ++ x) (after_byte_is 34 _ opened.0 opened.1
          ∙ ap (λ x. 34 ∷ x) (is_value.0
          ∙ ap (λ x. value.0.0 ++ 34 ∷ x) (after.0
          ∙ ap (λ x. (split is_blank value.0.1).0 ++ x) (after_byte_is 93 _ closed.0 closed.1)))))),
      record {
        before = before.1;
        name = is_name.1;
        named = is_name.2;
        between = between.1;
        value = is_value.1;
        after =
            after.1;
      },
    )

pub blank_line_first : (spaces : List ℕ) (return : Bool) (rest : List ℕ) → Each is_space spaces →
    blank_line (spelled (BlankLine spaces return) rest) ≡ Some (BlankLine spaces return, rest)
blank_line_first spaces false rest each =
    ap (λ (s : List ℕ × List ℕ). blank_before s.0 (line_end s.1)) (split_first is_space spaces (10 ∷ rest) each refl)
    ∙ ap (blank_before spaces) (feed rest)
  where
    feed : (rest : List ℕ) → line_end (10 ∷ rest) ≡ Some (false, rest)
    feed [] = refl
    feed (byte ∷ rest) = refl
blank_line_first spaces true rest each =
    ap (λ (s : List ℕ × List ℕ). blank_before s.0 (line_end s.1)) (split_first is_space spaces (13 ∷ 10 ∷ rest) each
    refl)

-- the computed blank line is one
abbrev pub IsBlankLine : List ℕ → Option (Piece × List ℕ) → Type 0
IsBlankLine bytes None = Unit {0}
IsBlankLine bytes (Some (piece, rest)) =
    (spaces : List ℕ) × (return : Bool) × (piece ≡ BlankLine spaces return) ×
    (bytes ≡ spelled (BlankLine spaces return) rest) × Each is_space spaces

abbrev IsLineEnd : List ℕ → Option (Bool × List ℕ) → Type 0
IsLineEnd bytes None = Unit {0}
IsLineEnd bytes (Some (return, rest)) = bytes ≡ (if return then 13 ∷ 10 ∷ rest else 10 ∷ rest)

line_end_ok : (bytes : List ℕ) → IsLineEnd bytes (line_end bytes)
line_end_ok [] = tt
line_end_ok (byte ∷ []) = cond_both (byte == 10) (Some (false, [])) None (IsLineEnd (byte ∷ []))
    (λ e. ap (λ b. b ∷ []) (eqb-true byte 10 e)) (λ e. tt)
line_end_ok (byte ∷ next ∷ bytes) =
    cond_both (byte == 10) (Some (false, next ∷ bytes)) _ (IsLineEnd (byte ∷ next ∷ bytes))
    (λ e. ap (λ b. b ∷ next ∷ bytes) (eqb-true byte 10 e)) (λ other.
    cond_both (byte == 13 && next == 10) (Some (true, bytes)) None (IsLineEnd (byte ∷ next ∷ bytes))
    (λ e. let both = and_parts (byte == 13) (next == 10) e in ap (λ b. b ∷ next ∷ bytes) (eqb-true byte 13 both.0)
    ∙ ap (λ b. 13 ∷ b ∷ bytes) (eqb-true next 10 both.1))
    (λ e. tt))

pub blank_line_ok : (bytes : List ℕ) → IsBlankLine bytes (blank_line bytes)
blank_line_ok bytes =
    let spaces = split_is is_space bytes in
    by_end (split is_space bytes).0 (split is_space bytes).1 (line_end (split is_space bytes).1)
    (line_end_ok (split is_space bytes).1) spaces.0 spaces.1
  where
    by_end : (spaces rest : List ℕ) (o : Option (Bool × List ℕ)) → IsLineEnd rest o → bytes ≡ spaces ++ rest →
        Each is_space spaces → IsBlankLine bytes (blank_before spaces o)
    by_end spaces rest None end whole each = tt
    by_end spaces rest (Some (return, after)) end whole each = (
      spaces,
      return,
      refl,
      whole ∙ ap (λ x. spaces ++ x) end,
      each,
    )

pub no_blank_line_found : (bytes : List ℕ) → (¬ HasBlankLine bytes) → blank_line bytes ≡ None
no_blank_line_found bytes none = by_found (blank_line bytes) (blank_line_ok bytes)
  where
    by_found : (o : Option (Piece × List ℕ)) → IsBlankLine bytes o → o ≡ None
    by_found None is = refl
    by_found (Some (piece, rest)) is =
        absurd (none (record { spaces = is.0; return = is.1; rest = rest; joined = is.3; each = is.4 }))

pub no_closing_found : (bytes : List ℕ) → (¬ Quotes bytes) → closing bytes ≡ None
no_closing_found bytes none = by_found (closing bytes) (closing_ok bytes)
  where
    by_found : (o : Option (List ℕ × List ℕ)) → IsClosing bytes o → o ≡ None
    by_found None is = refl
    by_found (Some (within, rest)) is =
        absurd (none (record { within = within; rest = rest; joined = is.0; is_within = is.1 }))

no_tag_found : (bytes : List ℕ) → (¬ HasTag bytes) → tag_at bytes ≡ None
no_tag_found bytes none = by_found (tag_at bytes) (tag_is bytes)
  where
    by_found : (o : Option (Tag × List ℕ)) → ((tag : Tag) (rest : List ℕ) → o ≡ Some (tag, rest) →
        (bytes ≡ tag_text tag rest) × IsTag tag) → o ≡ None
    by_found None is = refl
    by_found (Some (tag, rest)) is = let found = is tag rest refl in
        absurd (none (record { tag = tag; rest = rest; joined = found.0; is_tag = found.1 }))

pub no_blank_line : (byte : ℕ) (bytes : List ℕ) → is_blank byte ≡ false → blank_line (byte ∷ bytes) ≡ None
no_blank_line byte [] is = grind (arith, is)
no_blank_line byte (next ∷ bytes) is = grind (arith, is)

-- where no blank line stands, the first piece is that of the first byte
within_line : (starting : Bool) (byte : ℕ) (bytes : List ℕ) → is_blank byte ≡ false → first_piece starting
    (byte ∷ bytes) ≡ Some (piece_at starting byte bytes)
within_line false byte bytes is = refl
within_line true byte bytes is = ap (λ found. Some (or_piece found (piece_at true byte bytes)))
    (no_blank_line byte bytes is)

pub starts_blank : (text : List ℕ) (piece : Piece) (rest : List ℕ) → blank_line text ≡ Some (piece, rest) →
    first_piece true text ≡ Some (piece, rest)
starts_blank [] piece rest found = found
starts_blank (byte ∷ bytes) piece rest found = ap (λ found. Some (or_piece found (piece_at true byte bytes))) found

at_line_end_stops : (rest : List ℕ) → AtLineEnd rest → StopsAt (is_other_than 10) rest
at_line_end_stops [] at = tt
at_line_end_stops (byte ∷ rest) at = grind (arith, at)

plain_at : (starting : Bool) (byte : ℕ) (rest : List ℕ) → MayStand starting (Plain byte) rest → piece_at starting byte
    rest ≡ (Plain byte, rest)
plain_at starting byte rest stands =
    rw (ne_eqb byte 123 stands.0, ne_eqb byte 59 stands.1, ne_eqb byte 91 stands.2)
    (cond_both (byte == 37 && starting) _ _ (λ (found : Piece × List ℕ). found ≡ (Plain byte, rest))
    (λ e. let both = and_parts (byte == 37) starting e in absurd ((stands.4 both.1).0 (eqb-true byte 37 both.0)))
    (λ e. cond_both (byte == 34) _ _ (λ (found : Piece × List ℕ). found ≡ (Plain byte, rest))
    (λ quote. ap (quoted_at rest) (no_closing_found rest (stands.3 (eqb-true byte 34 quote)))
    ∙ ap (λ (b : ℕ). (Plain b, rest)) (sym (eqb-true byte 34 quote)))
    (λ other. refl)))

plain_first : (starting : Bool) (byte : ℕ) (rest : List ℕ) → MayStand starting (Plain byte) rest → first_piece starting
    (byte ∷ rest) ≡ Some (Plain byte, rest)
plain_first false byte rest stands = ap (λ (found : Piece × List ℕ). Some found) (plain_at false byte rest stands)
plain_first true byte rest stands =
    ap (λ found. Some (or_piece found (piece_at true byte rest))) (no_blank_line_found (byte ∷ rest) (stands.4 refl).1)
    ∙ ap (λ (found : Piece × List ℕ). Some found) (plain_at true byte rest stands)

pub first_is : (starting : Bool) (piece : Piece) (rest : List ℕ) → MayStand starting piece rest → first_piece starting
    (spelled piece rest) ≡ Some (piece, rest)
first_is starting (Comment inside) rest stands =
    within_line starting 123 (inside ++ 125 ∷ rest) refl
    ∙ ap (λ (s : List ℕ × List ℕ). Some (comment_at s.0 s.1)) (split_first (is_other_than 125) inside (125 ∷ rest)
    stands refl)
first_is starting (OpenComment inside) rest stands =
    within_line starting 123 (inside ++ rest) refl
    ∙ ap (λ (s : List ℕ × List ℕ). Some (comment_at s.0 s.1)) (split_first (is_other_than 125) inside rest stands.0
    (subst (StopsAt (is_other_than 125)) (sym stands.1) tt))
    ∙ ap (λ rest. Some (comment_at inside rest)) stands.1
    ∙ ap (λ (rest : List ℕ). Some (OpenComment inside, rest)) (sym stands.1)
first_is starting (LineComment inside) rest stands =
    within_line starting 59 (inside ++ rest) refl
    ∙ ap (λ (s : List ℕ × List ℕ). Some (LineComment s.0, s.1)) (split_first (is_other_than 10) inside rest stands.0
    (at_line_end_stops rest stands.1))
first_is false (EscapeLine inside) rest stands = absurd (true≢false (sym stands.0))
first_is true (EscapeLine inside) rest stands =
    within_line true 37 (inside ++ rest) refl
    ∙ ap (λ (s : List ℕ × List ℕ). Some (EscapeLine s.0, s.1)) (split_first (is_other_than 10) inside rest stands.1
    (at_line_end_stops rest stands.2))
first_is true (BlankLine spaces return) rest stands = starts_blank _ (BlankLine spaces return) rest
    (blank_line_first spaces return rest stands.1)
first_is false (BlankLine spaces return) rest stands = absurd (true≢false (sym stands.0))
first_is starting (Quoted within) rest stands =
    within_line starting 34 (within ++ 34 ∷ rest) refl ∙ ap (λ found. Some (quoted_at (within ++ 34 ∷ rest) found))
    (closing_first within rest stands)
first_is starting (Tagged tag) rest stands =
    within_line starting 91 (tag_text tag rest) refl ∙ ap (λ found. Some (tagged_at (tag_text tag rest) found))
    (tag_first tag rest stands)
first_is starting (Broken after) rest stands =
    ap (λ (rest : List ℕ). first_piece starting (91 ∷ (after ++ rest))) stands.0
    ∙ ap (λ bytes. first_piece starting (91 ∷ bytes)) (append-nil after)
    ∙ within_line starting 91 after refl
    ∙ ap (λ found. Some (tagged_at after found)) (no_tag_found after stands.1)
    ∙ ap (λ (rest : List ℕ). Some (Broken after, rest)) (sym stands.0)
first_is starting (Plain byte) rest stands = plain_first starting byte rest stands

none_joins : (starting : Bool) (piece : Piece) (pieces : List Piece) → Joins starting (piece ∷ pieces) [] → ⊥
none_joins starting piece pieces (rest, e, stands, more) = none_some (piece, rest)
    (ap (first_piece starting) e ∙ first_is starting piece rest stands)

pub cut_once : (starting : Bool) (some others : List Piece) (text : List ℕ) → Joins starting some text →
    Joins starting others text → some ≡ others
cut_once starting [] [] text a b = refl
cut_once starting [] (other ∷ others) text a b =
    absurd (none_joins starting other others (subst (Joins starting (other ∷ others)) a b))
cut_once starting (piece ∷ some) [] text a b =
    absurd (none_joins starting piece some (subst (Joins starting (piece ∷ some)) b a))
cut_once starting (piece ∷ some) (other ∷ others) text (rest, e, stands, more) (rest', e', stands', more') =
    let same = some_same (piece, rest) (other, rest') (sym (first_is starting piece rest stands)
    ∙ ap (first_piece starting) (sym e ∙ e') ∙ first_is starting other rest' stands') in
    let next = subst (λ (s : Piece × List ℕ). Joins (starts_line s.0) some s.1) same more in
    (λ i. (same i).0 ∷ cut_once (starts_line other) some others rest' next more' i)
