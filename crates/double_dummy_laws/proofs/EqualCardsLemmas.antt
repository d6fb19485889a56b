-- Two cards of a player between which no other player has one.
use Rattle.std.proofs.Common.{◌≡◌, ◌≢◌, ℕ, ◌<◌, true, List, [], ◌∷◌, map, refl, sym, ap, ◌∙◌, subst, inl, inr}
use Rattle.std.specs.Prelude.{◌||◌}
use Rattle.std.proofs.lemmas.Bool.{cases_eq, eq-eqb, ne_eqb, or_cases, or_left, or_right, cond-true, cond-false}
use Rattle.cards.specs.declared.card.Card.{Card}
use Rattle.table_terms.specs.declared.place.Place.{Place}
use Rattle.cards.specs.Card.{number_in_pack}
use Rattle.cards.specs.CardBits.{same_number}
use Rattle.cards.specs.Rank.{height}
use Rattle.table_terms.specs.Place.{left_of}
use Rattle.cards.specs.Hands.{Hands, hand_of}
use Rattle.std.specs.FinSet as set
use Rattle.std.specs.Prelude.{nat_eq, if◌then◌else◌}
use Rattle.cards.specs.Play.{Position, legal, to_play, turn}
use Rattle.double_dummy_laws.proofs.HandLemmas.{legal_follows}
use Rattle.double_dummy_laws.proofs.RenamingLemmas.{renamed_tricks, worth_named, worth_in}
use Rattle.double_dummy_laws.proofs.WinnerLemmas.{turns_1, turns_2, turns_3}
use Rattle.double_dummy_laws.specs.Found.{IsOwned}
use Rattle.double_dummy_laws.specs.Renaming.{AllKnown, ArePlayed, HasNames, IsRenaming, Ownership}
use Rattle.double_dummy_laws.specs.Known.{IsLike}

-- two cards with each other's names
unfoldable pub swap : Card → Card → Card → Card
swap a b card =
    if nat_eq (number_in_pack card) (number_in_pack a) then b
    else (if nat_eq (number_in_pack card) (number_in_pack b) then a else card)

-- what is known of some cards, as a part of what is known of more
pub record IsWithin (less more : Ownership) : Type 0 where
  pub owner : (card : Card) → less.owner card ≡ more.owner card
  pub live : (card : Card) → less.is_live card ≡ true → more.is_live card ≡ true
  pub known : (card : Card) → less.is_known card ≡ true → more.is_known card ≡ true

-- what a swap does to a card
pub data Swapped (a b card : Card) : Type 0 where
  first : card ≡ a → swap a b card ≡ b → Swapped a b card
  second : card ≡ b → swap a b card ≡ a → Swapped a b card
  neither : card ≢ a → card ≢ b → swap a b card ≡ card → Swapped a b card

pub swapped : (a b card : Card) → Swapped a b card
unfolding swap
swapped a b card =
    elim (cases_eq (number_in_pack card) (number_in_pack a)) [
      | inl e ↦ first (same_number card a e) (cond-true _ _ _ (eq-eqb _ _ e))
      | inr ne ↦ elim (cases_eq (number_in_pack card) (number_in_pack b)) [
        | inl e ↦ second (same_number card b e) (cond-false _ _ _ (ne_eqb _ _ ne) ∙ cond-true _ _ _ (eq-eqb _ _ e))
        | inr other ↦ neither (λ e. ne (ap number_in_pack e)) (λ e. other (ap number_in_pack e))
            (cond-false _ _ _ (ne_eqb _ _ ne) ∙ cond-false _ _ _ (ne_eqb _ _ other))
      ]
    ]

pub swap_first : (a b : Card) → swap a b a ≡ b
swap_first a b = elim (swapped a b a) [ first _ e ↦ e | second same e ↦ e ∙ same | neither ne _ _ ↦ absurd (ne refl) ]

swap_second : (a b : Card) → swap a b b ≡ a
swap_second a b = elim (swapped a b b) [ first same e ↦ e ∙ same | second _ e ↦ e | neither _ ne _ ↦ absurd (ne refl) ]

pub swap_twice : (a b card : Card) → swap a b (swap a b card) ≡ card
swap_twice a b card =
    elim (swapped a b card) [
      | first same e ↦ ap (swap a b) e ∙ swap_second a b ∙ sym same
      | second same e ↦ ap (swap a b) e ∙ swap_first a b ∙ sym same
      | neither _ _ e ↦ ap (swap a b) e ∙ e
    ]

pub like_flip : (ownership : Ownership) (a b : Card) → IsLike ownership a b → IsLike ownership b a
like_flip ownership a b like = record {
  suit = sym like.suit;
  owner = sym like.owner;
  first_live = like.second_live;
  second_live = like.first_live;
  above = λ other live ne same. let both =
      like.above other live (λ e. ne (e ∙ like.owner)) (same ∙ sym like.suit) in (both.1, both.0);
  below = λ other live ne same. let both =
      like.below other live (λ e. ne (e ∙ like.owner)) (same ∙ sym like.suit) in (both.1, both.0);
}

-- what is alike in a card and the one that it is swapped for
pub record IsKept (ownership : Ownership) (card to : Card) : Type 0 where
  pub suit : to.suit ≡ card.suit
  pub owner : ownership.owner to ≡ ownership.owner card
  pub live : ownership.is_live card ≡ true → ownership.is_live to ≡ true
  pub above : (other : Card) → ownership.is_live other ≡ true → ownership.owner other ≢ ownership.owner card →
      other.suit ≡ card.suit →
      height card.rank < height other.rank → height to.rank < height other.rank
  pub below : (other : Card) → ownership.is_live other ≡ true → ownership.owner other ≢ ownership.owner card →
      other.suit ≡ card.suit →
      height other.rank < height card.rank → height other.rank < height to.rank

kept_like : (ownership : Ownership) (a b : Card) → IsLike ownership a b → IsKept ownership a b
kept_like ownership a b like = record {
  suit = sym like.suit;
  owner = sym like.owner;
  live = λ _. like.second_live;
  above = λ other live ne same. (like.above other live ne same).0;
  below = λ other live ne same. (like.below other live ne same).0;
}

kept_same : (ownership : Ownership) (card : Card) → IsKept ownership card card
kept_same ownership card = record {
  suit = refl;
  owner = refl;
  live = λ l. l;
  above = λ _ _ _ _ h. h;
  below =
      λ _ _ _ _ h. h;
}

pub kept : (ownership : Ownership) (a b : Card) → IsLike ownership a b → (card : Card) →
    IsKept ownership card (swap a b card)
kept ownership a b like card =
    elim (swapped a b card) [
      | first same e ↦ along same e (kept_like ownership a b like)
      | second same e ↦ along same e (kept_like ownership b a (like_flip ownership a b like))
      | neither _ _ e ↦ along refl e (kept_same ownership card)
    ]
  where
    along : {x y to target : Card} → x ≡ y → to ≡ target → IsKept ownership y target → IsKept ownership x to
    along {x} {y} {to} {target} same e k =
        subst (λ z. IsKept ownership z to) (sym same) (subst (λ z. IsKept ownership y z) (sym e) k)

-- a renaming where more is known is one where less is
pub renaming_within : (less more : Ownership) (name : Card → Card) → IsWithin less more → IsRenaming more name →
    IsRenaming less name
renaming_within less more name within renaming = record {
  suit = λ card live. renaming.suit card (within.live card live);
  apart = λ a b live_a live_b. renaming.apart a b (within.live a live_a) (within.live b live_b);
  order = λ a b live_a live_b known ne.
      renaming.order a b (within.live a live_a) (within.live b live_b) (either a b known)
      (λ e. ne (within.owner a ∙ e ∙ sym (within.owner b)));
}
  where
    either : (a b : Card) → (less.is_known a || less.is_known b) ≡ true → (more.is_known a || more.is_known b) ≡ true
    either a b known = elim (or_cases _ _ known)
        [ inl k ↦ or_left _ _ (within.known a k) | inr k ↦ or_right _ _ (within.known b k) ]

-- if one of the two cards is known, the other is known too where more is
pub record IsClosed (less more : Ownership) (a b : Card) : Type 0 where
  pub first : less.is_known a ≡ true → more.is_known b ≡ true
  pub second : less.is_known b ≡ true → more.is_known a ≡ true

-- a renaming after a swap of two cards that are alike
pub renaming_swapped : (less more : Ownership) (name : Card → Card) (a b : Card) → IsWithin less more →
    IsClosed less more a b → IsRenaming more name → IsLike less a b →
    IsRenaming less (λ card. name (swap a b card))
renaming_swapped less more name a b within closed renaming like = record {
  suit = λ card live. let k = kept less a b like card in
      renaming.suit (swap a b card) (within.live _ (k.live live)) ∙ k.suit;
  apart = λ x y live_x live_y e.
      let same : swap a b x ≡ swap a b y =
      renaming.apart (swap a b x) (swap a b y) (within.live _ ((kept less a b like x).live live_x))
      (within.live _ ((kept less a b like y).live live_y)) e in
      sym (swap_twice a b x) ∙ ap (swap a b) same ∙ swap_twice a b y;
  order = λ x y live_x live_y known ne suits less_xy.
      let kx = kept less a b like x in
      let ky = kept less a b like y in
      let live_y' = ky.live live_y in
      let once : height (swap a b x).rank < height y.rank = kx.above y live_y (λ e. ne (sym e)) (sym suits) less_xy in
      let twice : height (swap a b x).rank < height (swap a b y).rank =
      ky.below (swap a b x) (kx.live live_x) (λ e. ne (sym kx.owner ∙ e)) (kx.suit ∙ suits) once in
      renaming.order (swap a b x) (swap a b y) (within.live _ (kx.live live_x)) (within.live _ live_y')
      (either x y known)
      (λ e. ne (sym kx.owner ∙ within.owner _ ∙ e ∙ sym (within.owner _) ∙ ky.owner)) (kx.suit ∙ suits
      ∙ sym ky.suit) twice;
}
  where
    one : (card : Card) → less.is_known card ≡ true → more.is_known (swap a b card) ≡ true
    one card known =
        elim (swapped a b card) [
          | first same e ↦ ap more.is_known e ∙ closed.first (ap less.is_known (sym same) ∙ known)
          | second same e ↦ ap more.is_known e ∙ closed.second (ap less.is_known (sym same) ∙ known)
          | neither _ _ e ↦ ap more.is_known e ∙ within.known card known
        ]

    either : (x y : Card) → (less.is_known x || less.is_known y) ≡ true →
        (more.is_known (swap a b x) || more.is_known (swap a b y)) ≡ true
    either x y known = elim (or_cases _ _ known) [ inl k ↦ or_left _ _ (one x k) | inr k ↦ or_right _ _ (one y k) ]

same_within : (ownership : Ownership) → IsWithin ownership ownership
same_within ownership = record { owner = λ _. refl; live = λ _ l. l; known = λ _ k. k }

-- the hands with the names after a swap of two cards of one of them
pub names_swapped : (ownership : Ownership) (name : Card → Card) (hands others : Hands) (place : Place) (a b : Card) →
    set.contains (hand_of hands place) a ≡ true → set.contains (hand_of hands place) b ≡ true →
    HasNames ownership name hands others → HasNames ownership (λ card. name (swap a b card)) hands others
names_swapped ownership name hands others place a b held_a held_b named = record {
  into = λ at card held. named.into at (swap a b card) (stays at card held);
  onto = λ at card held.
      let old = named.onto at card held in
      (swap a b old.0, stays at old.0 old.1, ap name (swap_twice a b old.0) ∙ old.2);
  live = named.live;
}
  where
    same_place : (at : Place) (card : Card) → set.contains (hand_of hands at) card ≡ true →
        ownership.owner card ≡ place → at ≡ place
    same_place at card held e = sym (named.live at card held).1 ∙ e

    stays : (at : Place) (card : Card) → set.contains (hand_of hands at) card ≡ true →
        set.contains (hand_of hands at) (swap a b card) ≡ true
    stays at card held =
        elim (swapped a b card) [
          | first same e ↦
              let here : at ≡ place = sym (named.live at card held).1 ∙ ap ownership.owner same
              ∙ (named.live place a held_a).1 in
              (λ i. set.contains (hand_of hands (here i)) (e i)) ∙ held_b
          | second same e ↦
              let here : at ≡ place = sym (named.live at card held).1 ∙ ap ownership.owner same
              ∙ (named.live place b held_b).1 in
              (λ i. set.contains (hand_of hands (here i)) (e i)) ∙ held_a
          | neither _ _ e ↦ ap (set.contains (hand_of hands at)) e ∙ held
        ]

-- the cards on the table are none of the player's whose turn it is
abbrev pub IsOffTable : List Card → Card → Type 0
IsOffTable [] card = Unit {0}
IsOffTable (held ∷ rest) card = (held ≢ card) × IsOffTable rest card

pub off_table : (ownership : Ownership) (leader : Place) (table : List Card) (card : Card) →
    ArePlayed ownership leader table → ownership.owner card ≡ turn leader table →
    IsOffTable table card
off_table ownership leader [] card of_table owned = tt
off_table ownership leader (a ∷ []) card of_a owned =
    (λ e. turns_1 leader (sym of_a.1 ∙ ap ownership.owner e ∙ owned), tt)
off_table ownership leader (a ∷ b ∷ []) card of_table owned = (
  λ e. turns_2 leader (sym of_table.0.1 ∙ ap ownership.owner e ∙ owned),
  (λ e. turns_1 (left_of leader) (sym of_table.1.1 ∙ ap ownership.owner e ∙ owned), tt),
)
off_table ownership leader (a ∷ b ∷ c ∷ []) card of_table owned = (
  λ e. turns_3 leader (sym of_table.0.1 ∙ ap ownership.owner e ∙ owned),
  (
    λ e. turns_2 (left_of leader) (sym of_table.1.0.1 ∙ ap ownership.owner e ∙ owned),
    (λ e. turns_1 (left_of (left_of leader)) (sym of_table.1.1.1 ∙ ap ownership.owner e ∙ owned), tt),
  ),
)
off_table ownership leader (a ∷ b ∷ c ∷ d ∷ rest) card none owned = absurd none

pub table_swapped : (name : Card → Card) (a b : Card) (table : List Card) → IsOffTable table a → IsOffTable table b →
    map (λ card. name (swap a b card)) table ≡ map name table
table_swapped name a b [] off_a off_b = refl
table_swapped name a b (card ∷ table) off_a off_b =
    λ i. name (stays i) ∷ table_swapped name a b table off_a.1 off_b.1 i
  where
    stays : swap a b card ≡ card
    stays = elim (swapped a b card)
        [ first same _ ↦ absurd (off_a.0 same) | second same _ ↦ absurd (off_b.0 same) | neither _ _ e ↦ e ]

pub same_name : (ownership : Ownership) → IsRenaming ownership (λ card. card)
same_name ownership = record { suit = λ _ _. refl; apart = λ _ _ _ _ e. e; order = λ _ _ _ _ _ _ _ less. less }

pub own_names : (ownership : Ownership) (p : Position) → IsOwned ownership p →
    HasNames ownership (λ card. card) p.hands p.hands
own_names ownership p owned = record {
  into = λ _ _ held. held;
  onto = λ _ card held. (card, held, refl);
  live =
      owned.held;
}

pub map_same : (cards : List Card) → map (λ card. card) cards ≡ cards
map_same [] = refl
map_same (card ∷ cards) = ap (λ rest. card ∷ rest) (map_same cards)

-- two legal cards that are alike are worth the same
pub alike_worth : (n : ℕ) (ownership : Ownership) (p : Position) (a b : Card) → IsOwned ownership p →
    AllKnown ownership → IsLike ownership a b →
    set.contains (legal p) a ≡ true → set.contains (legal p) b ≡ true → worth_in n p a ≡ worth_in n p b
alike_worth n ownership p a b owned all like may_a may_b =
    let held_a = (legal_follows (hand_of p.hands (to_play p)) p.table a may_a).0 in
    let held_b = (legal_follows (hand_of p.hands (to_play p)) p.table b may_b).0 in
    let off_a = off_table ownership p.leader p.table a owned.on_table (owned.held (to_play p) a held_a).1 in
    let off_b = off_table ownership p.leader p.table b owned.on_table (owned.held (to_play p) b held_b).1 in
    let renaming = renaming_swapped ownership ownership (λ card. card) a b (same_within ownership) (record {
      first =
          λ _. all b;
      second = λ _. all a;
    }) (same_name ownership) like in
    let named = names_swapped ownership (λ card. card) p.hands p.hands (to_play p) a b held_a held_b
    (own_names ownership p owned) in
    let table : map (swap a b) p.table ≡ p.table =
    table_swapped (λ card. card) a b p.table off_a off_b ∙ map_same p.table in
    sym (worth_named n ownership (swap a b) p p.hands renaming all named owned.on_table
    (λ q others named' of_table. renamed_tricks n ownership (swap a b) q others renaming all named' of_table) a may_a)
    ∙ (λ i. worth_in n (record { hands = p.hands; strain = p.strain; leader = p.leader; table = table i })
    (swap_first a b i))
