use Rattle.std.proofs.Common.{◌≡◌, ◌+◌, nat_eq, Option, Some, None, refl, sym, ap, ◌∙◌, arith}
use denote.Enum.Bare.{sameb}
use denote.Enum.Declared.{tag_of}
use Rattle.std.specs.Option.{option_eq}
use Rattle.table_terms.specs.declared.suit.Suit.{Suit}
use Rattle.table_terms.specs.declared.suit.Suit.TheVariants.{Spades, Hearts, Diamonds, Clubs}
use Rattle.cards.specs.declared.rank.Rank.{Rank}
use Rattle.cards.specs.declared.card.Card.{Card}
use Rattle.table_terms.specs.contracts.suit.Suit as the_suit
use Rattle.cards.specs.contracts.rank.Rank as the_rank
use Rattle.table_terms.specs.Suit.{suit_number}
use Rattle.cards.specs.Rank.{height}
use Rattle.cards.specs.CardBits.{each_rank}
use Rattle.cards.specs.Play.{is_of, is_trump, strength_by}
use Rattle.cards.proofs.CardBitsLemmas.{height_below}
use Rattle.cards.proofs.law44.strength.Goals as goal

suit_tag : (suit : Suit) → tag_of the_suit.the_type suit ≡ suit_number suit
suit_tag Spades = refl
suit_tag Hearts = refl
suit_tag Diamonds = refl
suit_tag Clubs = refl

rank_tag : (rank : Rank) → tag_of the_rank.the_type rank ≡ height rank
rank_tag = each_rank (λ rank. tag_of the_rank.the_type rank ≡ height rank) refl refl refl refl refl refl refl refl refl
    refl refl refl refl

-- the tests of the code are those of the definition
is_led : (led : Suit) (card : Card) → sameb the_suit.the_type led card.suit ≡ is_of led card
is_led led card i = nat_eq (suit_tag led i) (suit_tag card.suit i)

trumps : (trump : Option Suit) (card : Card) → option_eq (sameb the_suit.the_type) trump (Some card.suit) ≡ is_trump
    trump card
trumps None card = refl
trumps (Some suit) card = is_led suit card

pub returns-then-eq : goal.returns-then-eq
returns-then-eq c =
    let trump = sym (trumps c.args.trump c.args.card) ∙ sym c.eq.ensures ∙ c.if-eq.true in
    record {
      strength = ap (λ n. 14 + n) (rank_tag c.args.card.rank)
          ∙ sym (ap (λ b. strength_by b (is_of c.args.led c.args.card) (height c.args.card.rank)) trump);
      small = omega (arith, rank_tag c.args.card.rank, height_below c.args.card.rank);
    }

pub returns-then-eq-2 : goal.returns-then-eq-2
returns-then-eq-2 c =
    let trump = sym (trumps c.args.trump c.args.card) ∙ sym c.eq.ensures ∙ c.if-eq.false in
    let led = sym (is_led c.args.led c.args.card) ∙ sym c.eq-else-eq.ensures ∙ c.if-eq-2.true in
    record {
      strength = ap (λ n. 1 + n) (rank_tag c.args.card.rank)
          ∙ sym (λ i. strength_by (trump i) (led i) (height c.args.card.rank));
      small = omega (arith, rank_tag c.args.card.rank, height_below c.args.card.rank);
    }

pub returns-else-eq-2 : goal.returns-else-eq-2
returns-else-eq-2 c =
    let trump = sym (trumps c.args.trump c.args.card) ∙ sym c.eq.ensures ∙ c.if-eq.false in
    let led = sym (is_led c.args.led c.args.card) ∙ sym c.eq-else-eq.ensures ∙ c.if-eq-2.false in
    record {
      strength = sym (λ i. strength_by (trump i) (led i) (height c.args.card.rank));
      small = omega arith;
    }
