-- Two lists of held cards, paired so that each card has its like at the same player.
use Rattle.std.proofs.Common.{
  ◌≡◌,
  ℕ,
  ◌+◌,
  ◌<◌,
  Bool,
  true,
  false,
  ◌⊎◌,
  List,
  [],
  ◌∷◌,
  ◌++◌,
  refl,
  sym,
  ap,
  ◌∙◌,
  subst,
  inl,
  inr,
  arith,
  zero,
  suc,
}
use Rattle.std.specs.Prelude.{nat_eq, if◌then◌else◌}
use Rattle.std.proofs.lemmas.Bool.{cases_eq, cases_Bool, eq-eqb, ne_eqb, cond-true, cond-false, true≢false}
use Rattle.cards.specs.declared.card.Card.{Card}
use Rattle.table_terms.specs.declared.place.Place.{Place}
use Rattle.table_terms.specs.declared.place.Place.TheVariants.{North, East, South, West}
use Rattle.cards.specs.Card.{number_in_pack}
use Rattle.cards.specs.CardBits.{same_number}
use Rattle.cards.specs.Rank.{height}
use Rattle.double_dummy_laws.specs.Pattern.{HaveSameTops, Held, IsTop, how_many, one_if, same_place}

-- the card stands in the list, with its holder
abbrev pub In : Card → Place → List Held → Type 0
In card place [] = ⊥
In card place (x ∷ xs) = ((x.card ≡ card) × (x.place ≡ place)) ⊎ In card place xs

in_before : (card : Card) (place : Place) (xs : List Held) (y : Held) (ys : List Held) → In card place (xs ++ ys) →
    In card place (xs ++ y ∷ ys)
in_before card place [] y ys in' = inr in'
in_before card place (x ∷ xs) y ys (inl here) = inl here
in_before card place (x ∷ xs) y ys (inr later) = inr (in_before card place xs y ys later)

in_middle : (xs : List Held) (y : Held) (ys : List Held) → In y.card y.place (xs ++ y ∷ ys)
in_middle [] y ys = inl (refl, refl)
in_middle (x ∷ xs) y ys = inr (in_middle xs y ys)

out_of : (card : Card) (place : Place) (xs : List Held) (y : Held) (ys : List Held) → In card place (xs ++ y ∷ ys) →
    ((y.card ≡ card) × (y.place ≡ place)) ⊎ In card place (xs ++ ys)
out_of card place [] y ys in' = in'
out_of card place (x ∷ xs) y ys (inl here) = inr (inl here)
out_of card place (x ∷ xs) y ys (inr later) =
    elim (out_of card place xs y ys later) [ inl same ↦ inl same | inr rest ↦ inr (inr rest) ]

-- no card stands twice
abbrev pub AreDistinct : List Held → Type 0
AreDistinct [] = Unit {0}
AreDistinct (x ∷ xs) = ((place : Place) → In x.card place xs → ⊥) × AreDistinct xs

distinct_without : (xs : List Held) (y : Held) (ys : List Held) → AreDistinct (xs ++ y ∷ ys) → AreDistinct (xs ++ ys)
distinct_without [] y ys apart = apart.1
distinct_without (x ∷ xs) y ys apart =
    (λ place in'. apart.0 place (in_before x.card place xs y ys in'), distinct_without xs y ys apart.1)

middle_apart : (place : Place) (xs : List Held) (y : Held) (ys : List Held) → AreDistinct (xs ++ y ∷ ys) →
    In y.card place (xs ++ ys) → ⊥
middle_apart place [] y ys apart in' = apart.0 place in'
middle_apart place (x ∷ xs) y ys apart (inl here) =
    apart.0 y.place (subst (λ c. In c y.place (xs ++ y ∷ ys)) (sym here.0) (in_middle xs y ys))
middle_apart place (x ∷ xs) y ys apart (inr later) = middle_apart place xs y ys apart.1 later

-- each card of one list with one of the other, at the same player
pub data Pairing : List Held → List Held → Type 0 where
  done : Pairing [] []
  pair : (x y : Held) (xs before later ys : List Held) → x.place ≡ y.place → ys ≡ before ++ y ∷ later →
      Pairing xs (before ++ later) → Pairing (x ∷ xs) ys

-- one card's like, and another's
unfoldable pub chosen : Card → Card → Card → Card → Card
chosen x y z card = if nat_eq (number_in_pack card) (number_in_pack x) then y else z

chosen_first : (x y z card : Card) → card ≡ x → chosen x y z card ≡ y
unfolding chosen
chosen_first x y z card e = cond-true _ _ _ (eq-eqb _ _ (ap number_in_pack e))

chosen_other : (x y z card : Card) → (card ≡ x → ⊥) → chosen x y z card ≡ z
unfolding chosen
chosen_other x y z card ne = cond-false _ _ _ (ne_eqb _ _ (λ e. ne (same_number card x e)))

-- a card's like
unfoldable pub like_in : (xs ys : List Held) → Pairing xs ys → Card → Card
like_in [] [] done card = card
like_in [] (_ ∷ _) pairing card = elim pairing [ ]
like_in (x ∷ xs) ys (pair _ y _ before later _ _ _ others) card =
    chosen x.card y.card (like_in xs (before ++ later) others card) card

pub like_into : (xs ys : List Held) (pairing : Pairing xs ys) → AreDistinct xs → (card : Card) (place : Place) →
    In card place xs → In (like_in xs ys pairing card) place ys
unfolding like_in
like_into [] [] done apart card place none = none
like_into [] (_ ∷ _) pairing apart card place none = elim pairing [ ]
like_into (x ∷ xs) ys (pair _ y _ before later _ same split others) apart card place (inl here) =
    let rest = like_in xs (before ++ later) others card in
    let is : chosen x.card y.card rest card ≡ y.card = chosen_first x.card y.card rest card (sym here.0) in
    let there : In y.card place (before ++ y ∷ later) =
    subst (λ q. In y.card q (before ++ y ∷ later)) (sym same ∙ here.1) (in_middle before y later) in
    subst (λ zs. In (chosen x.card y.card rest card) place zs) (sym split)
    (subst (λ c. In c place (before ++ y ∷ later)) (sym is) there)
like_into (x ∷ xs) ys (pair _ y _ before later _ same split others) apart card place (inr more) =
    let rest = like_in xs (before ++ later) others card in
    let is : chosen x.card y.card rest card ≡ rest =
    chosen_other x.card y.card rest card (λ e. apart.0 place (subst (λ c. In c place xs) e more)) in
    let there : In rest place (before ++ y ∷ later) =
    in_before rest place before y later (like_into xs (before ++ later) others apart.1 card place more) in
    subst (λ zs. In (chosen x.card y.card rest card) place zs) (sym split)
    (subst (λ c. In c place (before ++ y ∷ later)) (sym is) there)

pub like_onto : (xs ys : List Held) (pairing : Pairing xs ys) → AreDistinct xs → (card : Card) (place : Place) →
    In card place ys →
    (old : Card) × In old place xs × (like_in xs ys pairing old ≡ card)
unfolding like_in
like_onto [] [] done apart card place none = absurd none
like_onto [] (_ ∷ _) pairing apart card place none = elim pairing [ ]
like_onto (x ∷ xs) ys (pair _ y _ before later _ same split others) apart card place in' =
    elim (out_of card place before y later (subst (In card place) split in')) [
      | inl here ↦ (
        x.card,
        inl (refl, same ∙ here.1),
        chosen_first x.card y.card (like_in xs (before ++ later) others x.card) x.card refl ∙ here.0,
      )
      | inr more ↦
          let old = like_onto xs (before ++ later) others apart.1 card place more in (
            old.0,
            inr old.1,
            chosen_other x.card y.card (like_in xs (before ++ later) others old.0) old.0
                (λ e. apart.0 place (subst (λ c. In c place xs) e old.1)) ∙ old.2,
          )
    ]

in_cases : (x : Held) (xs : List Held) (c : Card) (r : Place) → In c r (x ∷ xs) →
    (c ≡ x.card) ⊎ ((c ≡ x.card → ⊥) × In c r xs)
in_cases x xs c r (inl here) = inl (sym here.0)
in_cases x xs c r (inr more) =
    elim (cases_eq (number_in_pack c) (number_in_pack x.card))
    [ inl e ↦ inl (same_number c x.card e) | inr ne ↦ inr (λ e. ne (ap number_in_pack e), more) ]

-- two cards have two likes
pub like_apart : (xs ys : List Held) (pairing : Pairing xs ys) → AreDistinct xs → AreDistinct ys →
    (a b : Card) (p q : Place) → In a p xs → In b q xs →
    like_in xs ys pairing a ≡ like_in xs ys pairing b → a ≡ b
unfolding like_in
like_apart [] [] done apart apart' a b p q none in_b e = absurd none
like_apart [] (_ ∷ _) pairing apart apart' a b p q none in_b e = elim pairing [ ]
like_apart (x ∷ xs) ys (pair _ y _ before later _ same split others) apart apart' a b p q in_a in_b e =
    elim (in_cases x xs a p in_a) [
      | inl ea ↦ elim (in_cases x xs b q in_b) [
        | inl eb ↦ ea ∙ sym eb
        | inr (nb, more) ↦ absurd (clash b q more (sym (chosen_first x.card y.card (rest a) a ea) ∙ e
            ∙ chosen_other x.card y.card (rest b) b nb))
      ]
      | inr (na, more_a) ↦ elim (in_cases x xs b q in_b) [
        | inl eb ↦ absurd (clash a p more_a (sym (chosen_first x.card y.card (rest b) b eb) ∙ sym e
            ∙ chosen_other x.card y.card (rest a) a na))
        | inr (nb, more_b) ↦ like_apart xs (before ++ later) others apart.1
            (distinct_without before y later (subst AreDistinct split apart')) a b p q more_a more_b
            (sym (chosen_other x.card y.card (rest a) a na) ∙ e ∙ chosen_other x.card y.card (rest b) b nb)
      ]
    ]
  where
    rest : Card → Card
    rest card = like_in xs (before ++ later) others card

    clash : (c : Card) (r : Place) → In c r xs → y.card ≡ like_in xs (before ++ later) others c → ⊥
    clash c r in' e' = middle_apart r before y later (subst AreDistinct split apart')
        (subst (λ d. In d r (before ++ later)) (sym e') (like_into xs (before ++ later) others apart.1 c r in'))

-- the first so many are paired in order
abbrev pub IsOrdered : ℕ → (xs ys : List Held) → Pairing xs ys → Type 0
IsOrdered zero xs ys pairing = Unit {0}
IsOrdered (suc k) xs ys done = Unit {0}
IsOrdered (suc k) _ _ (pair x y xs before later ys same split others) =
    (before ≡ []) × IsOrdered k xs (before ++ later) others

-- each card is above the later ones
abbrev pub IsDown : List Held → Type 0
IsDown [] = Unit {0}
IsDown (x ∷ xs) = ((card : Card) (place : Place) → In card place xs → height card.rank < height x.card.rank) × IsDown xs

-- of two cards, one of them among the first, the likes stand in the same order
pub like_order : (k : ℕ) (xs ys : List Held) (pairing : Pairing xs ys) → IsOrdered k xs ys pairing → AreDistinct xs →
    IsDown xs → IsDown ys →
    (a b : Card) (p q : Place) → In a p xs → In b q xs → IsTop k xs a ⊎ IsTop k xs b → height a.rank < height b.rank →
    height (like_in xs ys pairing a).rank < height (like_in xs ys pairing b).rank
unfolding like_in
like_order zero xs ys pairing ordered apart down down' a b p q in_a in_b (inl none) less = absurd none
like_order zero xs ys pairing ordered apart down down' a b p q in_a in_b (inr none) less = absurd none
like_order (suc k) [] [] done ordered apart down down' a b p q none in_b tops less = absurd none
like_order (suc k) [] (_ ∷ _) pairing ordered apart down down' a b p q none in_b tops less = elim pairing [ ]
like_order (suc k) (x ∷ xs) ys (pair _ y _ before later _ same split others)
    (none_before, ordered) apart down down' a b p q in_a in_b tops less =
    elim (in_cases x xs a p in_a) [
      | inl ea ↦ elim (in_cases x xs b q in_b) [
        | inl eb ↦ absurd (omega (arith, ap (λ c. height c.rank) ea, ap (λ c. height c.rank) eb))
        | inr (nb, more) ↦ absurd (omega (arith, ap (λ c. height c.rank) ea, down.0 b q more))
      ]
      | inr (na, more_a) ↦ elim (in_cases x xs b q in_b) [
        | inl eb ↦
            let below = down''.0 (rest a) p
            (subst (In (rest a) p) tail (like_into xs (before ++ later) others apart.1 a p more_a)) in
            omega (
              arith,
              ap (λ c. height c.rank) (chosen_other x.card y.card (rest a) a na),
              ap (λ c. height c.rank) (chosen_first x.card y.card (rest b) b eb),
              below,
            )
        | inr (nb, more_b) ↦
            let later_order = like_order k xs (before ++ later) others ordered apart.1 down.1
            (subst IsDown (sym tail) down''.1) a b p q more_a more_b
            (later_top tops na nb) less in
            omega (
              arith,
              ap (λ c. height c.rank) (chosen_other x.card y.card (rest a) a na),
              ap (λ c. height c.rank) (chosen_other x.card y.card (rest b) b nb),
              later_order,
            )
      ]
    ]
  where
    rest : Card → Card
    rest card = like_in xs (before ++ later) others card

    tail : before ++ later ≡ later
    tail = ap (λ zs. zs ++ later) none_before

    shape : ys ≡ y ∷ later
    shape = split ∙ ap (λ zs. zs ++ y ∷ later) none_before

    down'' : IsDown (y ∷ later)
    down'' = subst IsDown shape down'

    later_top : IsTop (suc k) (x ∷ xs) a ⊎ IsTop (suc k) (x ∷ xs) b → (a ≡ x.card → ⊥) → (b ≡ x.card → ⊥) →
        IsTop k xs a ⊎ IsTop k xs b
    later_top (inl (inl e)) na nb = absurd (na (sym e))
    later_top (inl (inr t)) na nb = inl t
    later_top (inr (inl e)) na nb = absurd (nb (sym e))
    later_top (inr (inr t)) na nb = inr t

top_in : (k : ℕ) (xs : List Held) (card : Card) → IsTop k xs card → (place : Place) × In card place xs
top_in zero xs card none = absurd none
top_in (suc k) [] card none = absurd none
top_in (suc k) (x ∷ xs) card (inl here) = (x.place, inl (here, refl))
top_in (suc k) (x ∷ xs) card (inr more) = let found = top_in k xs card more in (found.0, inr found.1)

-- a card among the first has its like among the first
pub like_top : (k : ℕ) (xs ys : List Held) (pairing : Pairing xs ys) → IsOrdered k xs ys pairing → AreDistinct xs →
    (card : Card) → IsTop k xs card →
    IsTop k ys (like_in xs ys pairing card)
unfolding like_in
like_top zero xs ys pairing ordered apart card none = none
like_top (suc k) [] [] done ordered apart card none = none
like_top (suc k) [] (_ ∷ _) pairing ordered apart card none = elim pairing [ ]
like_top (suc k) (x ∷ xs) ys (pair _ y _ before later _ same split others) (none_before, ordered) apart card
    (inl here) =
    let rest = like_in xs (before ++ later) others card in
    let is : chosen x.card y.card rest card ≡ y.card = chosen_first x.card y.card rest card (sym here) in
    let shape : ys ≡ y ∷ later = split ∙ ap (λ zs. zs ++ y ∷ later) none_before in
    subst (λ zs. IsTop (suc k) zs (chosen x.card y.card rest card)) (sym shape) (inl (sym is))
like_top (suc k) (x ∷ xs) ys (pair _ y _ before later _ same split others) (none_before, ordered) apart card
    (inr more) =
    let rest = like_in xs (before ++ later) others card in
    let found = top_in k xs card more in
    let is : chosen x.card y.card rest card ≡ rest =
    chosen_other x.card y.card rest card (λ e. apart.0 found.0 (subst (λ c. In c found.0 xs) e found.1)) in
    let shape : ys ≡ y ∷ later = split ∙ ap (λ zs. zs ++ y ∷ later) none_before in
    let tail : before ++ later ≡ later = ap (λ zs. zs ++ later) none_before in
    subst (λ zs. IsTop (suc k) zs (chosen x.card y.card rest card)) (sym shape)
    (inr (subst (λ c. IsTop k later c) (sym is)
    (subst (λ zs. IsTop k zs rest) tail (like_top k xs (before ++ later) others ordered apart.1 card more))))

-- equal counts give a pairing
place_cases : (p q : Place) → (same_place p q ≡ true) ⊎ (same_place p q ≡ false)
place_cases p q = cases_Bool (same_place p q)

same_from : (p q : Place) → same_place p q ≡ true → p ≡ q
same_from North North e = refl
same_from East East e = refl
same_from South South e = refl
same_from West West e = refl
same_from North East e = absurd (true≢false (sym e))
same_from North South e = absurd (true≢false (sym e))
same_from North West e = absurd (true≢false (sym e))
same_from East North e = absurd (true≢false (sym e))
same_from East South e = absurd (true≢false (sym e))
same_from East West e = absurd (true≢false (sym e))
same_from South North e = absurd (true≢false (sym e))
same_from South East e = absurd (true≢false (sym e))
same_from South West e = absurd (true≢false (sym e))
same_from West North e = absurd (true≢false (sym e))
same_from West East e = absurd (true≢false (sym e))
same_from West South e = absurd (true≢false (sym e))

same_self : (p : Place) → same_place p p ≡ true
same_self North = refl
same_self East = refl
same_self South = refl
same_self West = refl

just_one : (b : Bool) → b ≡ true → one_if b ≡ 1
just_one true e = refl
just_one false e = absurd (true≢false (sym e))

not_one : (b : Bool) → b ≡ false → one_if b ≡ 0
not_one true e = absurd (true≢false e)
not_one false e = refl

-- a list that has a card of the player's, cut at the first one
pub record IsCut (place : Place) (xs : List Held) : Type 0 where
  pub before : List Held
  pub at : Held
  pub later : List Held
  pub of : place ≡ at.place
  pub split : xs ≡ before ++ at ∷ later

cut : (place : Place) (xs : List Held) → 0 < how_many place xs → IsCut place xs
cut place [] some = absurd (omega arith)
cut place (x ∷ xs) some =
    elim (place_cases place x.place) [
      | inl same ↦ record { before = []; at = x; later = xs; of = same_from place x.place same; split = refl }
      | inr other ↦
          let more : 0 < how_many place xs = omega (arith, not_one (same_place place x.place) other) in
          let c = cut place xs more in
          record { before = x ∷ c.before; at = c.at; later = c.later; of = c.of; split = ap (λ zs. x ∷ zs) c.split }
    ]

how_many_split : (place : Place) (xs : List Held) (y : Held) (ys : List Held) →
    how_many place (xs ++ y ∷ ys) ≡ one_if (same_place place y.place) + how_many place (xs ++ ys)
how_many_split place [] y ys = refl
how_many_split place (x ∷ xs) y ys = omega (arith, how_many_split place xs y ys)

abbrev pub HaveSameCounts : List Held → List Held → Type 0
HaveSameCounts xs ys = (place : Place) → how_many place xs ≡ how_many place ys

nobody_left : (ys : List Held) → HaveSameCounts [] ys → ys ≡ []
nobody_left [] same = refl
nobody_left (y ∷ ys) same = absurd
    (omega (arith, same y.place, just_one (same_place y.place y.place) (same_self y.place)))

with_no_cards : (k : ℕ) (ys : List Held) → [] ≡ ys → (pairing : Pairing [] ys) × IsOrdered k [] ys pairing
with_no_cards k ys e = subst (λ zs. (pairing : Pairing [] zs) × IsOrdered k [] zs pairing) e (done, ordered k)
  where
    ordered : (k : ℕ) → IsOrdered k [] [] done
    ordered zero = tt
    ordered (suc k) = tt

pub pair_up : (k : ℕ) (xs ys : List Held) → HaveSameTops k xs ys → HaveSameCounts xs ys →
    (pairing : Pairing xs ys) × IsOrdered k xs ys pairing
pair_up k [] ys tops same = with_no_cards k ys (sym (nobody_left ys same))
pair_up zero (x ∷ xs) ys tops same =
    let c = cut x.place ys (omega (arith, same x.place, just_one (same_place x.place x.place) (same_self x.place))) in
    let rest_same : HaveSameCounts xs (c.before ++ c.later) = λ place.
    let one = same place in
    let two : how_many place ys ≡ how_many place (c.before ++ c.at ∷ c.later) = ap (how_many place) c.split in
    let three = how_many_split place c.before c.at c.later in
    let four : one_if (same_place place x.place) ≡ one_if (same_place place c.at.place) =
    ap (λ q. one_if (same_place place q)) c.of in
    omega arith in
    let rest = pair_up zero xs (c.before ++ c.later) tt rest_same in
    (pair x c.at xs c.before c.later ys c.of c.split rest.0, tt)
pair_up (suc k) (x ∷ xs) [] tops same = absurd tops
pair_up (suc k) (x ∷ xs) (y ∷ ys) tops same =
    let rest_same : HaveSameCounts xs ys = λ place.
    let one = same place in
    let four : one_if (same_place place x.place) ≡ one_if (same_place place y.place) =
    ap (λ q. one_if (same_place place q)) tops.0 in
    omega arith in
    let rest = pair_up k xs ys tops.1 rest_same in
    (pair x y xs [] ys (y ∷ ys) tops.0 refl rest.0, (refl, rest.1))
