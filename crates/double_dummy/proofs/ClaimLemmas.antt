-- What a search may claim of a position from what it found out of the positions after a card.
use Rattle.std.proofs.Common.{◌≡◌, ℕ, ◌+◌, ◌-◌, Bool, true, map, sym, ap, ◌∙◌, inl, inr, arith, suc}
use Rattle.std.specs.Prelude.{nat_le}
use Rattle.std.proofs.lemmas.Bool.{cases_lt, le-leb, lt-leb}
use Rattle.cards.specs.declared.card.Card.{Card}
use Rattle.table_terms.specs.Place.{side_of}
use Rattle.cards.specs.Hands.{Hands, hand_of}
use Rattle.std.specs.FinSet as set
use Rattle.cards.specs.Play.{Position, after, legal, legal_of, point, to_play, without}
use Rattle.double_dummy_laws.proofs.BestLemmas.{all_answer, one_answers}
use Rattle.double_dummy_laws.proofs.EqualCardsLemmas.{
  IsClosed,
  IsWithin,
  names_swapped,
  off_table,
  renaming_swapped,
  renaming_within,
  swap,
  swap_first,
  table_swapped,
}
use Rattle.double_dummy_laws.proofs.HandLemmas.{among_items, items_among, legal_follows, without_had}
use Rattle.double_dummy_laws.proofs.RenamingLemmas.{
  legal_named,
  legal_old,
  names_without,
  played_after,
  turn_named,
  worth_in,
  worth_renamed,
}
use Rattle.cards.specs.DoubleDummy.{best, tricks}
use Rattle.double_dummy_laws.specs.Found.{CardClaims, Claims, IsOwned, wanted_answer}
use Rattle.double_dummy_laws.specs.Known.{IsKnown, IsLike}
use Rattle.double_dummy_laws.specs.Renaming.{HasNames, Ownership, renamed}

-- the cards left to a position after a card are still owned
pub owned_after : (ownership : Ownership) (p : Position) (card : Card) → IsOwned ownership p →
    set.contains (legal p) card ≡ true → IsOwned ownership (after p card)
owned_after ownership p card owned may = record {
  held = λ place other in'. owned.held place other (without_had p.hands card other place in').0;
  on_table = played_after ownership p card owned.on_table
      (owned.held (to_play p) card (legal_follows (hand_of p.hands (to_play p)) p.table card may).0);
}

less_point : (target own_trick rest : ℕ) → nat_le target (own_trick + rest) ≡ nat_le (target - own_trick) rest
less_point target own_trick rest =
    elim (cases_lt (own_trick + rest) target) [
      | inl short ↦ lt-leb target (own_trick + rest) short ∙ sym (lt-leb (target - own_trick) rest (omega arith))
      | inr enough ↦ le-leb target (own_trick + rest) enough ∙ sym (le-leb (target - own_trick) rest (omega arith))
    ]

-- what is found out of the position after a card holds of the card
pub card_claims : (ownership : Ownership) (n : ℕ) (p : Position) (target : ℕ) (card : Card) (answer : Bool) →
    IsOwned ownership p →
    set.contains (legal p) card ≡ true → IsKnown ownership p.strain p.table card →
    Claims ownership n (after p card) (target - point p card) answer → CardClaims ownership n p target card answer
card_claims ownership n p target card answer owned may known claims name hands renaming named =
    let held = (legal_follows (hand_of p.hands (to_play p)) p.table card may).0 in
    ap (nat_le target) (worth_renamed n ownership name p hands renaming named owned.on_table card may known)
    ∙ less_point target (point p card) _
    ∙ claims name (without hands (name card)) renaming
    (names_without ownership name renaming p.hands hands (to_play p) card named held)

-- one card that gives the player the answer that the player wants decides
pub decided : (ownership : Ownership) (n : ℕ) (p : Position) (target : ℕ) (card : Card) → IsOwned ownership p →
    set.contains (legal p) card ≡ true →
    CardClaims ownership n p target card (wanted_answer (side_of (to_play p))) →
    Claims ownership (suc n) p target (wanted_answer (side_of (to_play p)))
unfolding tricks
decided ownership n p target card owned may claims name hands renaming named =
    ap (λ place. nat_le target (best (side_of place)
    (map (worth_in n (renamed name p hands)) (set.items (legal_of (hand_of hands place) (map name p.table))))))
    (turn_named name p.leader p.table)
    ∙ one_answers (side_of (to_play p)) (worth_in n (renamed name p hands)) target _ (name card)
    (among_items _ _ (legal_named ownership name renaming p.hands hands
    (to_play p) p.leader p.table card named owned.on_table may))
    (claims name hands renaming named)

-- where each card gives one answer, the position does
pub refused : (ownership : Ownership) (n : ℕ) (p : Position) (target : ℕ) (answer : Bool) (some : Card) →
    IsOwned ownership p → set.contains (legal p) some ≡ true →
    ((card : Card) → set.contains (legal p) card ≡ true → CardClaims ownership n p target card answer) →
    Claims ownership (suc n) p target answer
unfolding tricks
refused ownership n p target answer some owned may each name hands renaming named =
    ap (λ place. nat_le target (best (side_of place)
    (map (worth_in n (renamed name p hands)) (set.items (legal_of (hand_of hands place) (map name p.table))))))
    (turn_named name p.leader p.table)
    ∙ all_answer (side_of (to_play p)) (worth_in n (renamed name p hands)) target answer _ (name some)
    (among_items _ _ (legal_named ownership name renaming p.hands hands
    (to_play p) p.leader p.table some named owned.on_table may))
    (λ card among.
    let old = legal_old ownership name renaming p.hands hands (to_play p) p.leader p.table card named owned.on_table
    (items_among _ card among) in
    ap (λ c. nat_le target (worth_in n (renamed name p hands) c)) (sym old.2)
    ∙ each old.0 old.1 name hands renaming named)

names_within : (less more : Ownership) (name : Card → Card) (p : Position) (hands : Hands) → IsOwned less p →
    HasNames more name p.hands hands → HasNames less name p.hands hands
names_within less more name p hands owned named = record { into = named.into; onto = named.onto; live = owned.held }

-- what is claimed with less known holds with more
pub claims_within : (less more : Ownership) (n : ℕ) (p : Position) (target : ℕ) (answer : Bool) → IsWithin less more →
    IsOwned less p →
    Claims less n p target answer → Claims more n p target answer
claims_within less more n p target answer within owned claims name hands renaming named =
    claims name hands (renaming_within less more name within renaming) (names_within less more name p hands owned named)

pub card_claims_within : (less more : Ownership) (n : ℕ) (p : Position) (target : ℕ) (card : Card) (answer : Bool) →
    IsWithin less more → IsOwned less p →
    CardClaims less n p target card answer → CardClaims more n p target card answer
card_claims_within less more n p target card answer within owned claims name hands renaming named =
    claims name hands (renaming_within less more name within renaming) (names_within less more name p hands owned named)

-- what is claimed of a card holds of one like it
pub claims_like : (less more : Ownership) (n : ℕ) (p : Position) (target : ℕ) (answer : Bool) (tried card : Card) →
    IsWithin less more → IsClosed less more tried card → IsOwned less p →
    IsLike less tried card → set.contains (legal p) tried ≡ true → set.contains (legal p) card ≡ true →
    CardClaims less n p target tried answer → CardClaims more n p target card answer
claims_like less more n p target answer tried card within closed owned like may_tried may claims name hands renaming
    named =
    let held = (legal_follows (hand_of p.hands (to_play p)) p.table card may).0 in
    let held_tried = (legal_follows (hand_of p.hands (to_play p)) p.table tried may_tried).0 in
    let off = off_table less p.leader p.table card owned.on_table (owned.held (to_play p) card held).1 in
    let off_tried = off_table less p.leader p.table tried owned.on_table (owned.held (to_play p) tried held_tried).1 in
    let table = table_swapped name tried card p.table off_tried off in
    (λ i. nat_le target (worth_in n (record {
      hands = hands;
      strain = p.strain;
      leader = p.leader;
      table =
          sym table i;
    }) (name (sym (swap_first tried card) i))))
    ∙ claims (λ c. name (swap tried card c)) hands
    (renaming_swapped less more name tried card within closed renaming like)
    (names_swapped less name p.hands hands (to_play p) tried card held_tried held
    (names_within less more name p hands owned named))
