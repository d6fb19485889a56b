-- What an object says by a table's form, and the words of a table.
use Rattle.std.proofs.Common.{
  ◌≡◌,
  ◌≢◌,
  ℕ,
  List,
  [],
  ◌∷◌,
  Bool,
  true,
  false,
  not,
  cond,
  ◌&&◌,
  ◌||◌,
  All,
  Some,
  refl,
  ap,
  subst,
  ◌∙◌,
  inl,
  inr,
}
use Rattle.std.specs.List.{list_any}
use Rattle.std.specs.Str.{bytes_eq}
use Rattle.std.proofs.lemmas.List.Elements.{All-nil, All-cons, All-head, All-tail}
use Rattle.std.proofs.lemmas.Slice.Eq.{bytes_eq-Decides}
use Rattle.serde_json.specs.Data.{Data}
use Rattle.json_fields.specs.Form.{Form, formed, words, by_word, HasFormOf}
use Rattle.json_fields.proofs.FormLemmas.{AgreesForm, formed_read, formed_reads}

-- ---- what each form of a table says is what it is

abbrev pub AllAgree : {A : Type 0} → List (Form A) → Type 0
AllAgree [] = Unit {0}
AllAgree (f ∷ fs) = AgreesForm f × AllAgree fs

-- ---- words

-- the word is among these
abbrev pub is_among : List (List ℕ) → List ℕ → Bool
is_among ws word = list_any (λ other. bytes_eq word other) ws

-- no word comes twice
abbrev pub are_apart : List (List ℕ) → Bool
are_apart [] = true
are_apart (w ∷ ws) = not (is_among ws w) && are_apart ws

or_true : (b : Bool) → (b || true) ≡ true
or_true true = refl
or_true false = refl

and_parts : (a b : Bool) → (not a && b) ≡ true → (a ≡ false) × (b ≡ true)
and_parts true b h = absurd (cc)
and_parts false b h = (refl, h)

or_parts : (a b : Bool) → (a || b) ≡ false → (a ≡ false) × (b ≡ false)
or_parts true b h = absurd (cc)
or_parts false b h = (refl, h)

pub is_word : {A : Type 0} (others : List (List ℕ)) (fs : List (Form A)) (word : List ℕ) (d : Data) (x : A)
    → HasFormOf others fs word d x → is_among (words fs) word ≡ true
is_word others [] word d x has = absurd has
is_word others (f ∷ fs) word d x (inl has) =
    ap (λ b. b || is_among (words fs) word) ((bytes_eq-Decides word f.word).1 has.0)
is_word others (f ∷ fs) word d x (inr has) =
    ap (λ b. bytes_eq word f.word || b) (is_word others fs word d x has) ∙ or_true (bytes_eq word f.word)

-- a word that is among others than the first isn't the first
not_first : (word first : List ℕ) (ws : List (List ℕ)) (b : Bool) → bytes_eq word first ≡ b → is_among ws word ≡ true
    → is_among ws first ≡ false → b ≡ false
not_first word first ws true is among alone =
    let same : word ≡ first = (bytes_eq-Decides word first).0 is in
    let here : is_among ws first ≡ true = subst (λ w. is_among ws w ≡ true) same among in
    absurd (cc)
not_first word first ws false is among alone = refl

pub none_among : (ws : List (List ℕ)) (word : List ℕ) → is_among ws word ≡ false → All (λ other. word ≢ other) ws
none_among [] word h = All-nil (λ other. word ≢ other)
none_among (w ∷ ws) word h =
    let parts = or_parts (bytes_eq word w) (is_among ws word) h in
    All-cons (λ other. word ≢ other) w ws (λ same. let is = (bytes_eq-Decides word w).1 same in let isnt = parts.0 in
    cc) (none_among ws word parts.1)

other_than : (word w : List ℕ) (b : Bool) → bytes_eq word w ≡ b → word ≢ w → b ≡ false
other_than word w true is other = absurd (other ((bytes_eq-Decides word w).0 is))
other_than word w false is other = refl

pub among_none : (ws : List (List ℕ)) (word : List ℕ) → All (λ other. word ≢ other) ws → is_among ws word ≡ false
among_none [] word h = refl
among_none (w ∷ ws) word h =
    ap (λ b. b || is_among ws word) (other_than word w (bytes_eq word w) refl (All-head (λ other. word ≢ other) w ws h))
    ∙ among_none ws word (All-tail (λ other. word ≢ other) w ws h)

-- ---- reading by the word

read_at : {A : Type 0} (others : List (List ℕ)) (f : Form A) (fs : List (Form A)) → AgreesForm f
    → (word : List ℕ) (d : Data) (x : A) (b : Bool) → bytes_eq word f.word ≡ b
    → (by_word others fs word d ≡ Some x → HasFormOf others fs word d x)
    → cond b (formed others f d) (by_word others fs word d) ≡ Some x → HasFormOf others (f ∷ fs) word d x
read_at others f fs agrees word d x true is later h =
    inl ((bytes_eq-Decides word f.word).0 is, formed_read others f agrees d x h)
read_at others f fs agrees word d x false is later h = inr (later h)

pub by_word_read : {A : Type 0} (others : List (List ℕ)) (fs : List (Form A)) → AllAgree fs
    → (word : List ℕ) (d : Data) (x : A) → by_word others fs word d ≡ Some x → HasFormOf others fs word d x
by_word_read others [] all word d x h = absurd (cc)
by_word_read others (f ∷ fs) all word d x h =
    read_at others f fs all.0 word d x (bytes_eq word f.word) refl (by_word_read others fs all.1 word d x) h

pub by_word_reads : {A : Type 0} (others : List (List ℕ)) (fs : List (Form A)) → AllAgree fs
    → are_apart (words fs) ≡ true → (word : List ℕ) (d : Data) (x : A)
    → HasFormOf others fs word d x → by_word others fs word d ≡ Some x
by_word_reads others [] all apart word d x has = absurd has
by_word_reads others (f ∷ fs) all apart word d x (inl has) =
    ap (λ b. cond b (formed others f d) (by_word others fs word d)) ((bytes_eq-Decides word f.word).1 has.0)
    ∙ formed_reads others f all.0 d x has.1
by_word_reads others (f ∷ fs) all apart word d x (inr has) =
    let parts = and_parts (is_among (words fs) f.word) (are_apart (words fs)) apart in
    ap (λ b. cond b (formed others f d) (by_word others fs word d))
    (not_first word f.word (words fs) (bytes_eq word f.word) refl (is_word others fs word d x has) parts.0)
    ∙ by_word_reads others fs all.1 parts.1 word d x has
