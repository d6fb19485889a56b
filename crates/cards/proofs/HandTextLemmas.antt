-- The letters of one rank more.
use Rattle.std.proofs.Common.{
  ◌≡◌,
  ℕ,
  ◌+◌,
  ◌<◌,
  Bool,
  true,
  false,
  cond,
  List,
  [],
  ◌∷◌,
  ◌++◌,
  length,
  take,
  get_or,
  map,
  refl,
  sym,
  ap,
  ◌∙◌,
}
use Rattle.std.specs.Prelude.{filter, encode_utf8}
use Rattle.std.specs.FinSet as set
use Rattle.std.proofs.lemmas.List.{take_more}
use Rattle.table_terms.specs.declared.suit.Suit.{Suit}
use Rattle.cards.specs.declared.rank.Rank.{Rank}
use Rattle.table_terms.specs.declared.suit.Suit.TheVariants.{Spades, Hearts, Diamonds, Clubs}
use Rattle.cards.specs.Rank.{rank_letter}
use Rattle.table_terms.specs.Suit.{suit_letter}
use Rattle.cards.specs.Cards.{Cards}
use Rattle.cards.specs.CardBits.{each_rank}
use Rattle.cards.specs.HandText.{held_letters}

passing_push : (p : Rank → Bool) (ranks : List Rank) (rank : Rank) → map rank_letter (filter p (ranks ++ rank ∷ [])) ≡
    map rank_letter (filter p ranks) ++ cond (p rank) (rank_letter rank ∷ []) []
passing_push p [] rank = elim (p rank) as (λ b. map rank_letter (cond b (rank ∷ []) []) ≡ cond b (rank_letter rank ∷ [])
    []) [ true ↦ refl | false ↦ refl ]
passing_push p (first ∷ ranks) rank =
    elim (p first) as
    (λ b. map rank_letter (cond b (first ∷ filter p (ranks ++ rank ∷ [])) (filter p (ranks ++ rank ∷ []))) ≡ map
    rank_letter (cond b (first ∷ filter p ranks) (filter p ranks)) ++ cond (p rank) (rank_letter rank ∷ []) []) [
      | true ↦ ap (λ letters. rank_letter first ∷ letters) (passing_push p ranks rank)
      | false ↦ passing_push p ranks rank
    ]

-- the letters of the first ranks, with one rank more
pub held_letters_more : (cards : Cards) (suit : Suit) (ranks : List Rank) (i : ℕ) (d : Rank) (b : Bool) →
    i < length ranks → b ≡ set.contains cards (record { suit = suit; rank = get_or ranks i d }) →
    held_letters cards suit (take (i + 1) ranks) ≡ held_letters cards suit (take i ranks) ++ cond b
    (rank_letter (get_or ranks i d) ∷ []) []
unfolding held_letters
held_letters_more cards suit ranks i d b within is =
    let p = λ (rank : Rank). set.contains cards (record { suit = suit; rank = rank }) in
    ap (λ first. map rank_letter (filter p first)) (take_more ranks i d within)
    ∙ passing_push p (take i ranks) (get_or ranks i d)
    ∙ ap (λ b. map rank_letter (filter p (take i ranks)) ++ cond b (rank_letter (get_or ranks i d) ∷ []) []) (sym is)

-- a letter of a rank or a suit is one byte of text
pub encode-rank_letter : (rank : Rank) → encode_utf8 (rank_letter rank) ≡ rank_letter rank ∷ []
unfolding lib.Utf8.encode
encode-rank_letter = each_rank (λ rank. encode_utf8 (rank_letter rank) ≡ rank_letter rank ∷ []) refl refl refl refl refl
    refl refl refl refl refl refl refl refl

pub encode-suit_letter : (suit : Suit) → encode_utf8 (suit_letter suit) ≡ suit_letter suit ∷ []
unfolding lib.Utf8.encode
encode-suit_letter Spades = refl
encode-suit_letter Hearts = refl
encode-suit_letter Diamonds = refl
encode-suit_letter Clubs = refl
