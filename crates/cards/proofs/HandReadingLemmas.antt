-- A holding's letters, read one by one, and the parts of a hand's text.
use Rattle.std.proofs.Common.{
  ◌≡◌,
  ◌≢◌,
  ℕ,
  ◌+◌,
  ◌<◌,
  ◌≤◌,
  Bool,
  true,
  false,
  cond,
  List,
  [],
  ◌∷◌,
  ◌++◌,
  length,
  take,
  get_or,
  map,
  count_by,
  refl,
  sym,
  ap,
  subst,
  ◌∙◌,
  arith,
  inl,
  inr,
}
use Rattle.std.specs.Prelude.{nat_eq, ◌||◌}
use Rattle.std.specs.Char.{to_ascii_uppercase}
use Rattle.std.specs.FinSet as set
use Rattle.std.specs.List.{position_or_len}
use Rattle.std.specs.Ordering.{eq_by_cmp}
use Rattle.std.specs.Cmp.{unsigned_tied}
use Rattle.std.proofs.lemmas.Bool.{
  eqb-false,
  eq-eqb,
  ne_eqb,
  cases_eq,
  or_cases,
  or_from,
  false_from_ne_true,
  true≢false,
}
use Rattle.std.proofs.lemmas.List.Elements.{All-push, All-nil}
use Rattle.std.proofs.lemmas.List.Sums.{sum_by_push, sum_by-take-le, count_by_more_yes}
use Rattle.table_terms.specs.declared.suit.Suit.{Suit}
use Rattle.table_terms.specs.declared.suit.Suit.TheVariants.{Spades, Hearts, Diamonds, Clubs}
use Rattle.cards.specs.declared.rank.Rank.{Rank}
use Rattle.cards.specs.declared.rank.Rank.TheVariants.{Two}
use Rattle.cards.specs.declared.card.Card.{Card}
use Rattle.cards.specs.Card.{card_cmp, number_in_pack}
use Rattle.cards.specs.Rank.{rank_letter, ranks_down}
use Rattle.cards.specs.Cards.{Cards}
use Rattle.cards.specs.CardBits.{each_rank, card_cmp_total, tied_is_equal, same_number}
use Rattle.cards.specs.Parts.{HasNo, JoinsFour}
use Rattle.cards.proofs.PartsLemmas.{same_four}
use Rattle.cards.specs.HandReading.{Names, names, IsHoldingText, IsHandText}

-- the rank of a letter
rank_of : ℕ → Rank
rank_of letter = get_or ranks_down (position_or_len (nat_eq letter) (map rank_letter ranks_down)) Two

rank_of-rank_letter : (rank : Rank) → rank_of (rank_letter rank) ≡ rank
unfolding rank_of ranks_down
rank_of-rank_letter = each_rank (λ rank. rank_of (rank_letter rank) ≡ rank) refl refl refl refl refl refl refl refl refl
    refl refl refl refl

-- two ranks with one letter are equal
same_rank : (a b : Rank) → rank_letter a ≡ rank_letter b → a ≡ b
same_rank a b e = sym (rank_of-rank_letter a) ∙ ap rank_of e ∙ rank_of-rank_letter b

-- a letter of a rank passes the test of that rank and of no other
tests_alike : (suit : Suit) (letter : ℕ) (rank other : Rank) → Names letter rank → names other letter ≡ eq_by_cmp
    card_cmp (record { suit = suit; rank = other }) (record { suit = suit; rank = rank })
tests_alike suit letter rank other is =
    let card : Rank → Card = λ (r : Rank). record { suit = suit; rank = r } in
    ap (λ n. nat_eq n (rank_letter other)) is
    ∙ elim (cases_eq (rank_letter rank) (rank_letter other)) as (λ _. nat_eq (rank_letter rank) (rank_letter other) ≡
    nat_eq (number_in_pack (card other)) (number_in_pack (card rank))) [
      | inl same ↦ eq-eqb _ _ same
          ∙ sym (eq-eqb _ _ (ap (λ r. number_in_pack (card r)) (same_rank other rank (sym same))))
      | inr apart ↦ ne_eqb _ _ apart
          ∙ sym (ne_eqb _ _ (λ e. apart (sym (ap (λ c. rank_letter c.rank) (same_number (card other) (card rank) e)))))
    ]
    ∙ sym (unsigned_tied (number_in_pack (card other)) (number_in_pack (card rank)))

-- no letters name no cards
pub holding_of_none : (suit : Suit) → IsHoldingText set.empty suit []
holding_of_none suit = record {
  each = All-nil _;
  held = λ rank. sym (ap (λ b. cond b 1 0) (set.contains-empty card_cmp (record { suit = suit; rank = rank })));
}

one_more : (held tied : Bool) → (tied ≡ true → held ≡ false) → cond held 1 0 + cond tied 1 0 ≡ cond (tied || held) 1 0
one_more true true h = absurd (true≢false (h refl))
one_more true false h = refl
one_more false true h = refl
one_more false false h = refl

-- one letter more names one card more
pub holding_more : (cards : Cards) (suit : Suit) (letters : List ℕ) (letter : ℕ) (rank : Rank) →
    IsHoldingText cards suit letters → Names letter rank → set.contains cards (record { suit = suit; rank = rank }) ≡
    false → IsHoldingText (set.insert cards (record { suit = suit; rank = rank })) suit (letters ++ letter ∷ [])
holding_more cards suit letters letter rank so_far is absent =
    let card : Rank → Card = λ (r : Rank). record { suit = suit; rank = r } in
    record {
      each = All-push (λ x. (r : Rank) × Names x r) letters letter so_far.each (rank, is);
      held = λ other.
          sum_by_push (λ x. cond (names other x) 1 0) letters letter
          ∙ (λ i. so_far.held other i + cond (tests_alike suit letter rank other is i) 1 0)
          ∙ one_more (set.contains cards (card other)) (eq_by_cmp card_cmp (card other) (card rank))
          (λ tied. ap (set.contains cards) (tied_is_equal (card other) (card rank) tied) ∙ absent)
          ∙ ap (λ b. cond b 1 0) (sym (set.contains-insert card_cmp_total cards (card rank) (card other)));
    }

-- a card of the suit more leaves no other suit's
pub only_more : (cards : Cards) (new : Card) → ((card : Card) → set.contains cards card ≡ true → card.suit ≡ new.suit) →
    (card : Card) → set.contains (set.insert cards new) card ≡ true → card.suit ≡ new.suit
only_more cards new only card held =
    elim (or_cases _ _ (sym (set.contains-insert card_cmp_total cards new card) ∙ held)) [
      | inl tied ↦ ap (λ c. c.suit) (tied_is_equal card new tied)
      | inr before ↦ only card before
    ]

-- a letter that names no rank stands in no holding
pub names_none : (cards : Cards) (suit : Suit) (letters : List ℕ) (i : ℕ) → i < length letters →
    ((rank : Rank) → rank_letter rank ≢ to_ascii_uppercase (get_or letters i 0)) → IsHoldingText cards suit letters → ⊥
names_none cards suit letters i within none h =
    let named = h.each i 0 within in none named.0 (sym named.1)

flag_most : (b : Bool) → cond b 1 0 ≤ 1
flag_most true = omega arith
flag_most false = omega arith

-- nor does a second letter of one card
pub named_twice : (cards so_far : Cards) (suit : Suit) (letters : List ℕ) (i : ℕ) (rank : Rank) → i < length letters →
    IsHoldingText so_far suit (take i letters) → Names (get_or letters i 0) rank → set.contains so_far
    (record { suit = suit; rank = rank }) ≡ true → IsHoldingText cards suit letters → ⊥
named_twice cards so_far suit letters i rank within before is held h =
    let first = before.held rank ∙ ap (λ b. cond b 1 0) held in
    let second = count_by_more_yes (names rank) letters i 0 within (eq-eqb _ _ is) in
    let all = sum_by-take-le (λ x. cond (names rank x) 1 0) letters (i + 1) in
    let most : count_by (names rank) letters ≤ 1 = subst (λ n. n ≤ 1) (sym (h.held rank)) (flag_most _) in
    omega arith

-- neither a dot nor a space names a rank
dot_is_no_rank : (rank : Rank) → names rank 46 ≡ false
dot_is_no_rank = each_rank (λ rank. names rank 46 ≡ false) refl refl refl refl refl refl refl refl refl refl refl refl
    refl

space_is_no_rank : (rank : Rank) → names rank 32 ≡ false
space_is_no_rank = each_rank (λ rank. names rank 32 ≡ false) refl refl refl refl refl refl refl refl refl refl refl refl
    refl

no_mark : (mark : ℕ) → ((rank : Rank) → names rank mark ≡ false) → (cards : Cards) (suit : Suit) (letters : List ℕ) →
    IsHoldingText cards suit letters → HasNo mark letters
no_mark mark none cards suit letters h i within is =
    let named = h.each i 0 within in
    eqb-false _ _ (none named.0) (ap to_ascii_uppercase (sym is) ∙ named.1)

pub no_dot : (cards : Cards) (suit : Suit) (letters : List ℕ) → IsHoldingText cards suit letters → HasNo 46 letters
no_dot = no_mark 46 dot_is_no_rank

pub no_space : (cards : Cards) (suit : Suit) (letters : List ℕ) → IsHoldingText cards suit letters → HasNo 32 letters
no_space = no_mark 32 space_is_no_rank

-- the suits of a hand's text are its four parts
pub suits_joined : (cards : Cards) (text : List ℕ) (h : IsHandText cards text) → JoinsFour 46 text h.spades h.hearts
    h.diamonds h.clubs
suits_joined cards text h = record {
  joined = h.joined;
  in_one = no_dot cards Spades h.spades h.in_spades;
  in_two = no_dot cards Hearts h.hearts h.in_hearts;
  in_three = no_dot cards Diamonds h.diamonds h.in_diamonds;
}

-- and its four parts are its suits
pub suits_of : (cards : Cards) (text spades hearts diamonds clubs : List ℕ) → JoinsFour 46 text spades hearts diamonds
    clubs → IsHandText cards text → IsHoldingText cards Spades spades × IsHoldingText cards Hearts hearts ×
    IsHoldingText cards Diamonds diamonds × IsHoldingText cards Clubs clubs
suits_of cards text spades hearts diamonds clubs parts h =
    let same = same_four 46 text h.spades h.hearts h.diamonds h.clubs spades hearts diamonds clubs
    (suits_joined cards text h) parts in (
      subst (λ bs. IsHoldingText cards Spades bs) same.0 h.in_spades,
      subst (λ bs. IsHoldingText cards Hearts bs) same.1 h.in_hearts,
      subst (λ bs. IsHoldingText cards Diamonds bs) same.2 h.in_diamonds,
      subst (λ bs. IsHoldingText cards Clubs bs) same.3 h.in_clubs,
    )

-- a set has cards of one suit only
abbrev pub IsOnly : Cards → Suit → Type 0
IsOnly cards suit = (card : Card) → set.contains cards card ≡ true → card.suit ≡ suit

other_suit : (cards : Cards) (suit other : Suit) (rank : Rank) → IsOnly cards suit → other ≢ suit → set.contains cards
    (record { suit = other; rank = rank }) ≡ false
other_suit cards suit other rank only ne = false_from_ne_true _
    (λ held. ne (only (record { suit = other; rank = rank }) held))

first_of_four : (x a b c : Bool) → a ≡ false → b ≡ false → c ≡ false → (((x || a) || b) || c) ≡ x
first_of_four true a b c p q r = refl
first_of_four false a b c p q r = or_from _ _ (or_from _ _ p q) r

four_as : (a b c d e f g h : Bool) → a ≡ e → b ≡ f → c ≡ g → d ≡ h → (((a || b) || c) || d) ≡ (((e || f) || g) || h)
four_as a b c d e f g h p q r s i = (((p i || q i) || r i) || s i)

or_none : (x : Bool) → (x || false) ≡ x
or_none true = refl
or_none false = refl

in_any : (a b c d : Cards) (card : Card) → set.contains (set.union (set.union (set.union a b) c) d) card ≡
    (((set.contains a card || set.contains b card) || set.contains c card) || set.contains d card)
in_any a b c d card =
    set.contains-union card_cmp_total _ d card
    ∙ ap (λ x. x || set.contains d card) (set.contains-union card_cmp_total _ c card
    ∙ ap (λ x. x || set.contains c card) (set.contains-union card_cmp_total a b card))

-- letters name the same cards for two sets with the same cards of the suit
alike_in : (cards other : Cards) (suit : Suit) (letters : List ℕ) →
    ((rank : Rank) → set.contains other (record { suit = suit; rank = rank }) ≡ set.contains cards
    (record { suit = suit; rank = rank })) → IsHoldingText cards suit letters → IsHoldingText other suit letters
alike_in cards other suit letters alike h = record {
  each = h.each;
  held = λ rank. h.held rank ∙ ap (λ b. cond b 1 0) (sym (alike rank));
}

-- four suits make a hand
pub hand_of_suits : (a b c d : Cards) (text spades hearts diamonds clubs : List ℕ) → JoinsFour 46 text spades hearts
    diamonds clubs → IsHoldingText a Spades spades → IsOnly a Spades → IsHoldingText b Hearts hearts → IsOnly b Hearts →
    IsHoldingText c Diamonds diamonds → IsOnly c Diamonds → IsHoldingText d Clubs clubs → IsOnly d Clubs →
    IsHandText (set.union (set.union (set.union a b) c) d) text
hand_of_suits a b c d text spades hearts diamonds clubs cut in_a a_only in_b b_only in_c c_only in_d d_only = record {
  spades = spades;
  hearts = hearts;
  diamonds = diamonds;
  clubs = clubs;
  joined = cut.joined;
  in_spades = alike_in a _ Spades spades (λ rank. in_any a b c d _ ∙ first_of_four _ _ _ _
      (other_suit b Hearts Spades rank b_only (λ e. cc)) (other_suit c Diamonds Spades rank c_only (λ e. cc))
      (other_suit d Clubs Spades rank d_only (λ e. cc))) in_a;
  in_hearts = alike_in b _ Hearts hearts (λ rank. in_any a b c d _ ∙ four_as _ _ _ _ false _ false false
      (other_suit a Spades Hearts rank a_only (λ e. cc)) refl (other_suit c Diamonds Hearts rank c_only (λ e. cc))
      (other_suit d Clubs Hearts rank d_only (λ e. cc)) ∙ or_none _ ∙ or_none _) in_b;
  in_diamonds = alike_in c _ Diamonds diamonds (λ rank. in_any a b c d _ ∙ four_as _ _ _ _ false false _ false
      (other_suit a Spades Diamonds rank a_only (λ e. cc)) (other_suit b Hearts Diamonds rank b_only (λ e. cc)) refl
      (other_suit d Clubs Diamonds rank d_only (λ e. cc)) ∙ or_none _) in_c;
  in_clubs = alike_in d _ Clubs clubs (λ rank. in_any a b c d _ ∙ four_as _ _ _ _ false false false _
      (other_suit a Spades Clubs rank a_only (λ e. cc)) (other_suit b Hearts Clubs rank b_only (λ e. cc))
      (other_suit c Diamonds Clubs rank c_only (λ e. cc)) refl) in_d;
}
