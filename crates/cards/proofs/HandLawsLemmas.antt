-- A hand reads what it writes, and a text is that of one hand at most.
use Rattle.std.proofs.Common.{
  ◌≡◌,
  ℕ,
  ◌+◌,
  Bool,
  true,
  false,
  cond,
  List,
  [],
  ◌∷◌,
  map,
  get_or,
  count_by,
  sum_by,
  refl,
  sym,
  ap,
  ◌∙◌,
  arith,
  zero-add,
}
use Rattle.std.specs.Prelude.{◌&&◌, filter}
use Rattle.std.specs.FinSet as set
use Rattle.std.proofs.lemmas.List.Elements.{All-map}
use Rattle.std.proofs.lemmas.List.Sums.{sum_by-cons}
use Rattle.table_terms.specs.declared.suit.Suit.{Suit}
use Rattle.table_terms.specs.declared.suit.Suit.TheVariants.{Spades, Hearts, Diamonds, Clubs}
use Rattle.cards.specs.declared.rank.Rank.{Rank}
use Rattle.cards.specs.Rank.{rank_letter, ranks_down}
use Rattle.cards.specs.Cards.{Cards}
use Rattle.cards.specs.CardBits.{each_rank}
use Rattle.cards.proofs.CardBitsLemmas.{same_cards}
use Rattle.cards.specs.HandText.{held_letters, holding_text, hand_text}
use Rattle.cards.specs.HandReading.{Names, names, IsHoldingText, IsHandText}
use Rattle.cards.proofs.HandReadingLemmas.{suits_joined, suits_of}

-- a rank's letter names it
own_letter : (rank : Rank) → Names (rank_letter rank) rank
own_letter = each_rank (λ rank. Names (rank_letter rank) rank) refl refl refl refl refl refl refl refl refl refl refl
    refl refl

and_true : (b : Bool) → (b && true) ≡ b
and_true true = refl
and_true false = refl

and_false : (b : Bool) → (b && false) ≡ false
and_false true = refl
and_false false = refl

-- of the letters of those ranks that pass, those that pass a test are counted rank by rank
letters_counted : (q : ℕ → Bool) (p : Rank → Bool) (ranks : List Rank) → count_by q (map rank_letter (filter p ranks)) ≡
    sum_by (λ rank. cond (q (rank_letter rank) && p rank) 1 0) ranks
letters_counted q p [] = refl
letters_counted q p (rank ∷ ranks) =
    let rest = map rank_letter (filter p ranks) in
    elim (p rank) as (λ b. count_by q (map rank_letter (cond b (rank ∷ filter p ranks) (filter p ranks))) ≡ cond
    (q (rank_letter rank) && b) 1 0 + count_by q rest) [
      | true ↦ sum_by-cons (λ x. cond (q x) 1 0) (rank_letter rank) rest ∙ ap (λ b. cond b 1 0 + count_by q rest)
          (sym (and_true (q (rank_letter rank))))
      | false ↦ sym (zero-add _) ∙ ap (λ b. cond b 1 0 + count_by q rest) (sym (and_false (q (rank_letter rank))))
    ]
    ∙ ap (λ n. cond (q (rank_letter rank) && p rank) 1 0 + n) (letters_counted q p ranks)
    ∙ sym (sum_by-cons (λ r. cond (q (rank_letter r) && p r) 1 0) rank ranks)

-- what is written of a holding is its text
holding_reads : (cards : Cards) (suit : Suit) → IsHoldingText cards suit (holding_text cards suit)
unfolding held_letters ranks_down
holding_reads cards suit =
    let p : Rank → Bool = λ (rank : Rank). set.contains cards (record { suit = suit; rank = rank }) in
    record {
      each = All-map (λ letter. (rank : Rank) × Names letter rank) rank_letter (filter p ranks_down)
          (λ k d within. (get_or (filter p ranks_down) k d, own_letter _));
      held = λ rank. letters_counted (names rank) p ranks_down ∙ each_rank
          (λ r. sum_by (λ other. cond (names r (rank_letter other) && p other) 1 0) ranks_down ≡ cond (p r) 1 0)
          (omega arith) (omega arith) (omega arith) (omega arith) (omega arith) (omega arith) (omega arith)
          (omega arith) (omega arith) (omega arith) (omega arith) (omega arith) (omega arith) rank;
    }

-- what is written of a hand is its text
pub hand_reads : (cards : Cards) → IsHandText cards (hand_text cards)
hand_reads cards = record {
  spades = holding_text cards Spades;
  hearts = holding_text cards Hearts;
  diamonds = holding_text cards Diamonds;
  clubs = holding_text cards Clubs;
  joined = refl;
  in_spades = holding_reads cards Spades;
  in_hearts = holding_reads cards Hearts;
  in_diamonds = holding_reads cards Diamonds;
  in_clubs = holding_reads cards Clubs;
}

flag : Bool → ℕ
flag b = cond b 1 0

same_flag : (x y : Bool) → flag x ≡ flag y → x ≡ y
unfolding flag
same_flag true true e = refl
same_flag true false e = absurd (omega arith)
same_flag false true e = absurd (omega arith)
same_flag false false e = refl

same_holding : (a b : Cards) (suit : Suit) (letters : List ℕ) → IsHoldingText a suit letters → IsHoldingText b suit
    letters → (rank : Rank) → set.contains a (record { suit = suit; rank = rank }) ≡ set.contains b
    (record { suit = suit; rank = rank })
unfolding flag
same_holding a b suit letters h also_h rank = same_flag _ _ (sym (h.held rank) ∙ also_h.held rank)

-- two sets with one text are equal
pub one_hand : (a b : Cards) (text : List ℕ) → IsHandText a text → IsHandText b text → a ≡ b
one_hand a b text h also_h = same_cards a b (λ card. in_suit card.suit card.rank)
  where
    suits : IsHoldingText b Spades h.spades × IsHoldingText b Hearts h.hearts × IsHoldingText b Diamonds h.diamonds ×
        IsHoldingText b Clubs h.clubs
    suits = suits_of b text h.spades h.hearts h.diamonds h.clubs (suits_joined a text h) also_h

    in_suit : (suit : Suit) (rank : Rank) → set.contains a (record { suit = suit; rank = rank }) ≡ set.contains b
        (record { suit = suit; rank = rank })
    in_suit Spades = same_holding a b Spades h.spades h.in_spades suits.0
    in_suit Hearts = same_holding a b Hearts h.hearts h.in_hearts suits.1
    in_suit Diamonds = same_holding a b Diamonds h.diamonds h.in_diamonds suits.2
    in_suit Clubs = same_holding a b Clubs h.clubs h.in_clubs suits.3
