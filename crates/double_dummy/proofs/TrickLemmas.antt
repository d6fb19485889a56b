-- Who won a trick, and which card decided it.
use Rattle.std.proofs.Common.{◌≡◌, ◌≢◌, true, false, refl, sym, ap, ◌∙◌}
use Rattle.std.proofs.lemmas.Bool.{true≢false}
use denote.Enum.Bare.{sameb}
use Rattle.table_terms.specs.contracts.place.Place as the_place
use Rattle.cards.specs.declared.card.Card.{Card}
use Rattle.table_terms.specs.declared.strain.Strain.{Strain}
use Rattle.table_terms.specs.declared.place.Place.{Place}
use Rattle.table_terms.specs.declared.place.Place.TheVariants.{North, East, South, West}
use Rattle.table_terms.specs.Place.{left_of}
use Rattle.cards.specs.Play.{winner}
use Rattle.double_dummy_laws.proofs.WinnerLemmas.{first_wins, fourth_wins, second_wins, third_wins}
use Rattle.double_dummy_laws.specs.Known.{IsSettled, IsTrickKnown}
use Rattle.double_dummy_laws.specs.Renaming.{Ownership}

-- whether two places are one, as the code asks it
pub same_place : (a b : Place) → sameb the_place.the_type a b ≡ true → a ≡ b
same_place North North e = refl
same_place North East e = absurd (true≢false (sym e))
same_place North South e = absurd (true≢false (sym e))
same_place North West e = absurd (true≢false (sym e))
same_place East North e = absurd (true≢false (sym e))
same_place East East e = refl
same_place East South e = absurd (true≢false (sym e))
same_place East West e = absurd (true≢false (sym e))
same_place South North e = absurd (true≢false (sym e))
same_place South East e = absurd (true≢false (sym e))
same_place South South e = refl
same_place South West e = absurd (true≢false (sym e))
same_place West North e = absurd (true≢false (sym e))
same_place West East e = absurd (true≢false (sym e))
same_place West South e = absurd (true≢false (sym e))
same_place West West e = refl

itself : (place : Place) → sameb the_place.the_type place place ≡ true
itself North = refl
itself East = refl
itself South = refl
itself West = refl

pub differ : (a b : Place) → sameb the_place.the_type a b ≡ false → a ≢ b
differ a b apart same = true≢false (sym (itself a) ∙ ap (sameb the_place.the_type a) same ∙ apart)

-- nobody sits in two places
pub one_on : (place : Place) → place ≢ left_of place
one_on North e = cc
one_on East e = cc
one_on South e = cc
one_on West e = cc

pub two_on : (place : Place) → place ≢ left_of (left_of place)
two_on North e = cc
two_on East e = cc
two_on South e = cc
two_on West e = cc

pub three_on : (place : Place) → place ≢ left_of (left_of (left_of place))
three_on North e = cc
three_on East e = cc
three_on South e = cc
three_on West e = cc

-- it is enough that the winner's card is known, where another of its suit fell
pub known_by : (ownership : Ownership) (strain : Strain) (leader : Place) (a b c d : Card) →
    (winner strain leader a b c d ≡ leader → IsSettled ownership a b c d) →
    (winner strain leader a b c d ≡ left_of leader → IsSettled ownership b a c d) →
    (winner strain leader a b c d ≡ left_of (left_of leader) → IsSettled ownership c a b d) →
    (winner strain leader a b c d ≡ left_of (left_of (left_of leader)) → IsSettled ownership d a b c) →
    IsTrickKnown ownership strain a b c d
known_by ownership strain leader a b c d first second third fourth = record {
  first = λ above. first (first_wins leader _ _ _ _ above);
  second = λ above. second (second_wins leader _ _ _ _ above);
  third = λ above. third (third_wins leader _ _ _ _ above);
  fourth = λ above. fourth (fourth_wins leader _ _ _ _ above);
}
