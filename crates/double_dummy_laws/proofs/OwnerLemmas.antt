-- Each card of a position has one owner.
use Rattle.std.proofs.Common.{◌≡◌, ◌≢◌, ℕ, Bool, true, List, [], ◌∷◌, refl, sym, ap, ◌∙◌, Option, Some, None}
use Rattle.std.specs.Prelude.{nat_eq, nat_le, if◌then◌else◌}
use Rattle.std.proofs.lemmas.Bool.{cond-true, cond-false, eq-eqb, ne_eqb}
use Rattle.cards.specs.declared.card.Card.{Card}
use Rattle.table_terms.specs.declared.place.Place.{Place}
use Rattle.table_terms.specs.declared.place.Place.TheVariants.{North, East, South, West}
use Rattle.table_terms.specs.declared.strain.Strain.{Strain}
use Rattle.cards.specs.Card.{number_in_pack}
use Rattle.cards.specs.CardBits.{same_number}
use Rattle.table_terms.specs.Place.{left_of}
use Rattle.cards.specs.Cards.{Cards}
use Rattle.cards.specs.Hands.{Hands}
use Rattle.cards.specs.Play.{IsOut, IsPosition, IsUnderWay, Position, cards_left}
use Rattle.double_dummy_laws.proofs.AlikeLemmas.{found_value}
use Rattle.double_dummy_laws.proofs.OwnershipLemmas.{owned_tight, tight, tight_tight}
use Rattle.double_dummy_laws.proofs.PatternLemmas.{held_holder}
use Rattle.cards.specs.DoubleDummy.{tricks}
use Rattle.double_dummy_laws.specs.Found.{IsFound, IsOwned}
use Rattle.double_dummy_laws.specs.Pattern.{holder_of}
use Rattle.double_dummy_laws.specs.Renaming.{AllKnown, ArePlayed, Ownership}

-- the player of a card on the table
player_of : Place → List Card → Card → Place
player_of leader [] card = leader
player_of leader (a ∷ table) card =
    if nat_eq (number_in_pack card) (number_in_pack a) then leader else player_of (left_of leader) table card

owner_by : Option Place → Place → Place
owner_by None place = place
owner_by (Some holder) place = holder

-- who owns each card of a position
pub owners_of : Position → Ownership
owners_of p = record {
  owner = λ card. owner_by (holder_of p.hands card) (player_of p.leader p.table card);
  is_live =
      λ _. true;
  is_known = λ _. true;
}

out_holder : (hands : Hands) (card : Card) → IsOut hands card → holder_of hands card ≡ None
unfolding holder_of
out_holder hands card out = cond-false _ _ _ (out North) ∙ cond-false _ _ _ (out East) ∙ cond-false _ _ _ (out South)
    ∙ cond-false _ _ _ (out West)

is_player : (leader : Place) (table : List Card) (a card : Card) → card ≡ a → player_of leader (a ∷ table) card ≡ leader
unfolding player_of
is_player leader table a card e = cond-true _ _ _ (eq-eqb _ _ (ap number_in_pack e))

is_later : (leader : Place) (table : List Card) (a card : Card) → a ≢ card →
    player_of leader (a ∷ table) card ≡ player_of (left_of leader) table card
unfolding player_of
is_later leader table a card ne = cond-false _ _ _ (ne_eqb _ _ (λ e. ne (sym (same_number card a e))))

out_owner : (hands : Hands) (card : Card) (player : Place) → IsOut hands card →
    owner_by (holder_of hands card) player ≡ player
unfolding owner_by
out_owner hands card player out = ap (λ h. owner_by h player) (out_holder hands card out)

owned_trick : (hands : Hands) (strain : Strain) (leader : Place) (table : List Card) → IsUnderWay hands table →
    ArePlayed (owners_of (record { hands = hands; strain = strain; leader = leader; table = table })) leader table
unfolding owners_of owner_by
owned_trick hands strain leader [] trick = tt
owned_trick hands strain leader (a ∷ []) out =
    (refl, out_owner hands a (player_of leader (a ∷ []) a) out ∙ is_player leader [] a a refl)
owned_trick hands strain leader (a ∷ b ∷ []) (out_a, (out_b, ab)) = (
  (refl, out_owner hands a (player_of leader (a ∷ b ∷ []) a) out_a ∙ is_player leader (b ∷ []) a a refl),
  (
    refl,
    out_owner hands b (player_of leader (a ∷ b ∷ []) b) out_b ∙ is_later leader (b ∷ []) a b ab
        ∙ is_player (left_of leader) [] b b refl,
  ),
)
owned_trick hands strain leader (a ∷ b ∷ c ∷ []) ((out_a, (out_b, out_c)), (ab, (ac, bc))) = (
  (refl, out_owner hands a (player_of leader (a ∷ b ∷ c ∷ []) a) out_a ∙ is_player leader (b ∷ c ∷ []) a a refl),
  (
    (
      refl,
      out_owner hands b (player_of leader (a ∷ b ∷ c ∷ []) b) out_b ∙ is_later leader (b ∷ c ∷ []) a b ab
          ∙ is_player (left_of leader) (c ∷ []) b b refl,
    ),
    (
      refl,
      out_owner hands c (player_of leader (a ∷ b ∷ c ∷ []) c) out_c ∙ is_later leader (b ∷ c ∷ []) a c ac
          ∙ is_later (left_of leader) (c ∷ []) b c bc ∙ is_player (left_of (left_of leader)) [] c c refl,
    ),
  ),
)
owned_trick hands strain leader (a ∷ b ∷ c ∷ d ∷ rest) none = none

pub owned_position : (p : Position) → IsPosition p → IsOwned (owners_of p) p
unfolding owners_of owner_by
owned_position p valid = record {
  held = λ place card held. (
    refl,
    ap (λ h. owner_by h (player_of p.leader p.table card)) (held_holder p.hands card place valid.apart held),
  );
  on_table = owned_trick p.hands p.strain p.leader p.table valid.trick;
}

pub every_card_known : (p : Position) → AllKnown (tight (owners_of p) p)
unfolding owners_of tight
every_card_known p card = refl

-- what was found out of a position that can come about is true of its value
pub found_valid : (p : Position) (target : ℕ) (known : Cards) (answer : Bool) → IsPosition p →
    IsFound p target known answer → nat_le target (tricks (cards_left p) p) ≡ answer
found_valid p target known answer valid found =
    found_value (tight (owners_of p) p) p target known answer (owned_tight (owners_of p) p (owned_position p valid))
    (tight_tight (owners_of p) p) found
