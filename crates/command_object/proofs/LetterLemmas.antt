-- A letter names the suit or the rank that is written so.
use Rattle.std.proofs.Common.{◌≡◌, ◌≢◌, ℕ, List, [], ◌∷◌, ◌==◌, true, Option, Some, None, refl, ap, ◌∙◌, arith}
use Rattle.table_terms.specs.declared.suit.Suit.{Suit}
use Rattle.cards.specs.declared.rank.Rank.{Rank}
use Rattle.cards.specs.declared.card.Card.{Card}
use Rattle.table_terms.specs.Suit.{suits, suit_letter}
use Rattle.cards.specs.Rank.{ranks_up, rank_letter}
use Rattle.cards.specs.Card.{card_text}
use Rattle.json_fields.proofs.LetterLemmas.{found_passes}
use Rattle.command_object.specs.Play.{suit_named, rank_named, card_by, card_named}

equal : (m n : ℕ) → (m == n) ≡ true → m ≡ n
equal m n h = grind arith

pub suit_reads : (suit : Suit) (letter : ℕ) → suit_named letter ≡ Some suit → suit_letter suit ≡ letter
suit_reads suit letter h = equal (suit_letter suit) letter (found_passes (λ x. suit_letter x == letter) suits suit h)

pub rank_reads : (rank : Rank) (letter : ℕ) → rank_named letter ≡ Some rank → rank_letter rank ≡ letter
rank_reads rank letter h = equal (rank_letter rank) letter (found_passes (λ x. rank_letter x == letter) ranks_up rank h)

none_by : (a b : ℕ) (suit : Option Suit) (rank : Option Rank) → suit_named a ≡ suit → rank_named b ≡ rank
    → ((card : Card) → card_text card ≢ a ∷ b ∷ []) → None ≡ card_by suit rank
none_by a b None rank is_suit is_rank none = refl
none_by a b (Some suit) None is_suit is_rank none = refl
none_by a b (Some suit) (Some rank) is_suit is_rank none =
    let s = suit_reads suit a is_suit in
    let r = rank_reads rank b is_rank in
    absurd (none (record { suit = suit; rank = rank }) (ap (λ x. x ∷ rank_letter rank ∷ []) s ∙ ap (λ y. a ∷ y ∷ []) r))

-- a text that is no card's names none
pub no_card_named : (text : List ℕ) → ((card : Card) → card_text card ≢ text) → None ≡ card_named text
no_card_named [] none = refl
no_card_named (a ∷ []) none = refl
no_card_named (a ∷ b ∷ []) none = none_by a b (suit_named a) (rank_named b) refl refl none
no_card_named (a ∷ b ∷ other ∷ rest) none = refl
