-- The best of a list of numbers of tricks.
use Rattle.std.proofs.Common.{◌≡◌, ℕ, ◌<◌, ◌≤◌, ◌⊎◌, List, [], ◌∷◌, map, refl, sym, ap, ◌∙◌, inl, inr, max, min, arith}
use Rattle.std.specs.Prelude.{Bool, nat_le}
use Rattle.std.proofs.lemmas.Bool.{cases_lt, le-leb, lt-leb, leb-true, leb-false}
use Rattle.cards.specs.declared.card.Card.{Card}
use Rattle.table_terms.specs.declared.side.Side.{Side}
use Rattle.table_terms.specs.declared.side.Side.TheVariants.{NorthSouth, EastWest}
use Rattle.cards.specs.DoubleDummy.{best}
use Rattle.double_dummy_laws.specs.Found.{wanted_answer}

-- the card stands in the list
abbrev pub Among : Card → List Card → Type 0
Among card [] = ⊥
Among card (first ∷ rest) = (card ≡ first) ⊎ Among card rest

max_cases : (a b : ℕ) → (max a b ≡ a) ⊎ (max a b ≡ b)
max_cases a b = elim (cases_lt a b) [ inl h ↦ inr (omega arith) | inr h ↦ inl (omega arith) ]

min_cases : (a b : ℕ) → (min a b ≡ a) ⊎ (min a b ≡ b)
min_cases a b = elim (cases_lt a b) [ inl h ↦ inl (omega arith) | inr h ↦ inr (omega arith) ]

-- the best number is that of some card
pub attained : (side : Side) (v : Card → ℕ) (first : Card) (rest : List Card) →
    (card : Card) × Among card (first ∷ rest) × (v card ≡ best side (map v (first ∷ rest)))
attained side v first [] = (first, inl refl, refl)
attained NorthSouth v first (second ∷ rest) =
    let later = attained NorthSouth v second rest in
    elim (max_cases (v first) (best NorthSouth (map v (second ∷ rest)))) [
      | inl e ↦ (first, inl refl, sym e)
      | inr e ↦ (later.0, inr later.1, later.2 ∙ sym e)
    ]
attained EastWest v first (second ∷ rest) =
    let later = attained EastWest v second rest in
    elim (min_cases (v first) (best EastWest (map v (second ∷ rest)))) [
      | inl e ↦ (first, inl refl, sym e)
      | inr e ↦ (later.0, inr later.1, later.2 ∙ sym e)
    ]

-- no card does better
pub north_south_bound : (v : Card → ℕ) (card : Card) (cards : List Card) → Among card cards →
    v card ≤ best NorthSouth (map v cards)
north_south_bound v card [] among = absurd among
north_south_bound v card (first ∷ []) (inl e) = omega (arith, ap v e)
north_south_bound v card (first ∷ []) (inr among) = absurd among
north_south_bound v card (first ∷ second ∷ rest) (inl e) = omega (arith, ap v e)
north_south_bound v card (first ∷ second ∷ rest) (inr among) =
    omega (arith, north_south_bound v card (second ∷ rest) among)

pub east_west_bound : (v : Card → ℕ) (card : Card) (cards : List Card) → Among card cards →
    best EastWest (map v cards) ≤ v card
east_west_bound v card [] among = absurd among
east_west_bound v card (first ∷ []) (inl e) = omega (arith, ap v e)
east_west_bound v card (first ∷ []) (inr among) = absurd among
east_west_bound v card (first ∷ second ∷ rest) (inl e) = omega (arith, ap v e)
east_west_bound v card (first ∷ second ∷ rest) (inr among) = omega (arith, east_west_bound v card (second ∷ rest) among)

-- two lists with the same numbers have the same best one
pub same_best : (side : Side) (v w : Card → ℕ) (xs ys : List Card) →
    ((card : Card) → Among card xs → (other : Card) × Among other ys × (w other ≡ v card)) →
    ((card : Card) → Among card ys → (other : Card) × Among other xs × (v other ≡ w card)) →
    best side (map w ys) ≡ best side (map v xs)
same_best side v w [] [] there back = refl
same_best side v w [] (y ∷ ys) there back = absurd ((back y (inl refl)).1)
same_best side v w (x ∷ xs) [] there back = absurd ((there x (inl refl)).1)
same_best NorthSouth v w (x ∷ xs) (y ∷ ys) there back =
    let top = attained NorthSouth v x xs in
    let met = there top.0 top.1 in
    let other_top = attained NorthSouth w y ys in
    let other_met = back other_top.0 other_top.1 in
    omega (
      arith,
      top.2,
      met.2,
      other_top.2,
      other_met.2,
      north_south_bound w met.0 (y ∷ ys) met.1,
      north_south_bound v other_met.0 (x ∷ xs) other_met.1,
    )
same_best EastWest v w (x ∷ xs) (y ∷ ys) there back =
    let top = attained EastWest v x xs in
    let met = there top.0 top.1 in
    let other_top = attained EastWest w y ys in
    let other_met = back other_top.0 other_top.1 in
    omega (
      arith,
      top.2,
      met.2,
      other_top.2,
      other_met.2,
      east_west_bound w met.0 (y ∷ ys) met.1,
      east_west_bound v other_met.0 (x ∷ xs) other_met.1,
    )

-- where all cards give one answer to a question, the best one does
pub all_answer : (side : Side) (v : Card → ℕ) (target : ℕ) (answer : Bool) (cards : List Card) (some : Card) →
    Among some cards →
    ((card : Card) → Among card cards → nat_le target (v card) ≡ answer) →
    nat_le target (best side (map v cards)) ≡ answer
all_answer side v target answer [] some none each = absurd none
all_answer side v target answer (first ∷ rest) some among each =
    let top = attained side v first rest in
    ap (nat_le target) (sym top.2) ∙ each top.0 top.1

-- where one card gives the answer that the side wants, the best one does
pub one_answers : (side : Side) (v : Card → ℕ) (target : ℕ) (cards : List Card) (some : Card) → Among some cards →
    nat_le target (v some) ≡ wanted_answer side → nat_le target (best side (map v cards)) ≡ wanted_answer side
one_answers NorthSouth v target cards some among enough =
    let above : target ≤ v some = leb-true target (v some) enough in
    let bound = north_south_bound v some cards among in
    le-leb target _ (omega arith)
one_answers EastWest v target cards some among refuses =
    let short : v some < target = leb-false target (v some) refuses in
    let bound = east_west_bound v some cards among in
    lt-leb target _ (omega arith)
