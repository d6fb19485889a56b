use Rattle.std.proofs.Common.{◌≡◌, ℕ, ◌<◌, ◌^◌, bit_and, sym, subst}
use Rattle.std.proofs.lemmas.Bool.{eqb-true, eq-eqb}
use Rattle.cards.specs.Cards.{Cards, cards_of_bits, AreDisjoint}
use Rattle.cards.proofs.CardBitsLemmas.{disjoint_of_bits, bits_of_disjoint}
use Rattle.cards.proofs.hand.Hand.is_disjoint.Goals as goal

-- what the test says of the words, it says of the sets that they are seen as
same_answer : (a b : ℕ) (s t : Cards) → cards_of_bits a ≡ s → cards_of_bits b ≡ t → a < 2 ^ 52 →
    (bit_and a b ≡ 0 → AreDisjoint s t) × (AreDisjoint s t → bit_and a b ≡ 0)
same_answer a b s t is_s is_t small = (
  λ none. subst (λ s. AreDisjoint s t) is_s (subst (λ t. AreDisjoint (cards_of_bits a) t) is_t
      (disjoint_of_bits a b none)),
  λ apart. bits_of_disjoint a b small (subst (λ s. AreDisjoint s (cards_of_bits b)) (sym is_s)
      (subst (λ t. AreDisjoint s t) (sym is_t) apart)),
)

pub returns : goal.returns
returns c =
    let ways = same_answer c.self.inside.bits c.other.inside.bits _ _ c.self.view_is c.other.view_is c.self.invariant in
    (λ zero. ways.0 (eqb-true _ _ zero), λ apart. eq-eqb _ _ (ways.1 apart))
