-- The parts of a text between its spaces.
use Rattle.std.proofs.Common.{
  ◌≡◌,
  ◌≢◌,
  ℕ,
  suc,
  ◌<◌,
  List,
  [],
  ◌∷◌,
  ◌++◌,
  length,
  refl,
  sym,
  ap,
  subst,
  ◌∙◌,
  arith,
  append_assoc,
  append-nil,
  Bool,
}
use Rattle.std.specs.Prelude.{All, ◌==◌, if◌then◌else◌}
use Rattle.std.specs.Char.{to_ascii_uppercase}
use Rattle.std.proofs.lemmas.Bool.{ne_eqb, eq-eqb}
use Rattle.table_terms.specs.declared.place.Place.{Place}
use Rattle.table_terms.specs.declared.place.Place.TheVariants.{North, East, South, West}
use Rattle.table_terms.specs.Place.{place_letter}
use Rattle.cards.specs.Hands.{Hands}
use Rattle.cards.proofs.DealReadingLemmas.{clockwise-hand_of}
use Rattle.pbn_records.proofs.DealValueLemmas.{hands_of_texts}
use Rattle.pbn_records.specs.DealValue.{
  ended_part,
  parts_from,
  parts,
  HasParts,
  IsDealOf,
  IsDealValue,
  AreHidden,
  IsHiddenValue,
}

abbrev pub NoSpace : List ℕ → Type 0
NoSpace bytes = All (λ byte. byte ≢ 32) bytes

pass_part : (part front rest : List ℕ) → NoSpace front → parts_from part (front ++ rest) ≡ parts_from (part ++ front)
    rest
pass_part part [] rest none = ap (λ p. parts_from p rest) (sym (append-nil part))
pass_part part (byte ∷ front) rest none =
    ap (λ (b : Bool). if b then ended_part part (parts_from [] (front ++ rest)) else parts_from (part ++ byte ∷ [])
    (front ++ rest))
    (ne_eqb byte 32 (none 0 0 (omega arith)))
    ∙ pass_part (part ++ byte ∷ []) front rest (λ i d h. none (suc i) d (omega (arith, h)))
    ∙ ap (λ p. parts_from p rest) (append_assoc part (byte ∷ []) front)

abbrev pub StartsAtSpace : List ℕ → Type 0
StartsAtSpace rest = (byte : ℕ) (bytes : List ℕ) → rest ≡ byte ∷ bytes → byte ≡ 32

end_part : (byte : ℕ) (part rest : List ℕ) → StartsAtSpace rest → parts_from (byte ∷ part) rest ≡ (byte ∷ part) ∷ parts
    rest
end_part byte part [] at = refl
end_part byte part (next ∷ rest) at =
    ap (λ (b : Bool). if b then ended_part (byte ∷ part) (parts_from [] rest) else parts_from (byte ∷ part ++ next ∷ [])
    rest)
    (eq-eqb next 32 (at next rest refl))
    ∙ ap (λ p. (byte ∷ part) ∷ p)
    (sym (ap (λ (b : Bool). if b then ended_part [] (parts_from [] rest) else parts_from ([] ++ next ∷ []) rest)
    (eq-eqb next 32 (at next rest refl))))

pub first_part : (text front rest : List ℕ) → text ≡ front ++ rest → NoSpace front → StartsAtSpace rest →
    ((byte : ℕ) (bytes : List ℕ) → text ≡ byte ∷ bytes → byte ≢ 32) → 0 < length text → parts text ≡ front ∷ parts rest
first_part [] front rest joined none at first some = absurd (omega (arith, some))
first_part (byte ∷ text) [] rest joined none at first some = absurd (first byte text refl (at byte text (sym joined)))
first_part (byte ∷ text) (other ∷ front) rest joined none at first some =
    ap parts joined ∙ pass_part [] (other ∷ front) rest none ∙ end_part other front rest at

-- four parts, one after another
pub four_parts : (value begin left opposite right r1 r2 r3 r4 : List ℕ) → parts value ≡ begin ∷ parts r1 →
    parts r1 ≡ left ∷ parts r2 →
    parts r2 ≡ opposite ∷ parts r3 → parts r3 ≡ right ∷ parts r4 → parts r4 ≡ [] → parts value ≡ begin ∷ left ∷ opposite
    ∷ right ∷ []
four_parts value begin left opposite right r1 r2 r3 r4 a b c d e =
    a ∙ ap (λ p. begin ∷ p) (b ∙ ap (λ p. left ∷ p) (c ∙ ap (λ p. opposite ∷ p) (d ∙ ap (λ p. right ∷ p) e)))

pub has_four : (value own left opposite right : List ℕ) (first : Place) → HasParts value first own left opposite right →
    length (parts value) ≡ 4
has_four value own left opposite right first has = ap length has.four

first_of : List (List ℕ) → List ℕ
first_of [] = []
first_of (part ∷ parts) = part

others_of : List (List ℕ) → List (List ℕ)
others_of [] = []
others_of (part ∷ parts) = parts

pub same_begin : (some other : List ℕ) (more others : List (List ℕ)) → some ∷ more ≡ other ∷ others → some ≡ other
unfolding first_of
same_begin some other more others e = ap first_of e

same_others : (some other : List ℕ) (more others : List (List ℕ)) → some ∷ more ≡ other ∷ others → more ≡ others
unfolding others_of
same_others some other more others e = ap others_of e

letter_of : List ℕ → ℕ
letter_of [] = 0
letter_of (letter ∷ bytes) = letter

after_two : List ℕ → List ℕ
after_two [] = []
after_two (a ∷ []) = []
after_two (a ∷ b ∷ bytes) = bytes

pub place_at : ℕ → Place
place_at letter = if letter == 78 then North else if letter == 69 then East else if letter == 83 then South else West

pub place_again : (place : Place) → place_at (place_letter place) ≡ place
unfolding place_at
place_again North = refl
place_again East = refl
place_again South = refl
place_again West = refl

record SameParts (first first' : Place) (own left opposite right own' left' opposite' right' : List ℕ) : Type 0 where
  pub places : first ≡ first'
  pub owns : own ≡ own'
  pub lefts : left ≡ left'
  pub opposites : opposite ≡ opposite'
  pub rights : right ≡ right'

same_parts : (value : List ℕ) (first first' : Place) (own left opposite right own' left' opposite' right' : List ℕ) →
    HasParts value first own left opposite right → HasParts value first' own' left' opposite' right' →
    SameParts first first' own left opposite right own' left' opposite' right'
unfolding letter_of after_two
same_parts value first first' own left opposite right own' left' opposite' right' a b =
    let all = sym a.four ∙ b.four in
    let begin = same_begin _ _ _ _ all in
    let more = same_others _ _ _ _ all in
    let more' = same_others _ _ _ _ more in
    let more'' = same_others _ _ _ _ more' in
    record {
      places = sym (place_again first) ∙ ap place_at (sym a.names ∙ ap to_ascii_uppercase (ap letter_of begin)
          ∙ b.names) ∙ place_again first';
      owns = ap after_two begin;
      lefts = same_begin _ _ _ _ more;
      opposites = same_begin _ _ _ _ more';
      rights = same_begin _ _ _ _ more'';
    }

-- the parts of a value are its only ones: so what is none of these parts is not the value's
pub not_hidden : (value : List ℕ) (first : Place) (own left opposite right : List ℕ) → HasParts value first own left
    opposite right →
    (¬ AreHidden own left opposite right) → ¬ IsHiddenValue value
not_hidden value first own left opposite right has none is =
    let same = same_parts value is.first first is.own is.left is.opposite is.right own left opposite right is.has has in
    none (subst (λ own. AreHidden own left opposite right) same.owns
    (subst (λ left. AreHidden is.own left opposite right) same.lefts
    (subst (λ opposite. AreHidden is.own is.left opposite right) same.opposites
    (subst (λ right. AreHidden is.own is.left is.opposite right) same.rights is.hidden))))

pub not_deal : (value : List ℕ) (first : Place) (own left opposite right : List ℕ) → HasParts value first own left
    opposite right →
    ((hands : Hands) → ¬ IsDealOf hands first own left opposite right) → (hands : Hands) → ¬ IsDealValue hands value
not_deal value first own left opposite right has none hands is =
    let same = same_parts value is.first first is.own is.left is.opposite is.right own left opposite right is.has has in
    none hands (subst (λ first. IsDealOf hands first own left opposite right) same.places
    (subst (λ own. IsDealOf hands is.first own left opposite right) same.owns
    (subst (λ left. IsDealOf hands is.first is.own left opposite right) same.lefts
    (subst (λ opposite. IsDealOf hands is.first is.own is.left opposite right) same.opposites
    (subst (λ right. IsDealOf hands is.first is.own is.left is.opposite right) same.rights is.is)))))

-- a value is that of one deal at most
pub one_deal : (value : List ℕ) (hands other : Hands) → IsDealValue hands value → IsDealValue other value →
    hands ≡ other
one_deal value hands other a b =
    let same = same_parts value b.first a.first b.own b.left b.opposite b.right a.own a.left a.opposite a.right b.has
    a.has in
    let moved : IsDealOf other a.first a.own a.left a.opposite a.right =
    subst (λ first. IsDealOf other first a.own a.left a.opposite a.right) same.places
    (subst (λ own. IsDealOf other b.first own a.left a.opposite a.right) same.owns
    (subst (λ left. IsDealOf other b.first b.own left a.opposite a.right) same.lefts
    (subst (λ opposite. IsDealOf other b.first b.own b.left opposite a.right) same.opposites
    (subst (λ right. IsDealOf other b.first b.own b.left b.opposite right) same.rights b.is)))) in
    sym (clockwise-hand_of hands a.first)
    ∙ sym (hands_of_texts a.first _ _ _ _ a.own a.left a.opposite a.right other a.is.is_own a.is.is_left
    a.is.is_opposite a.is.is_right moved)
