-- What is read of a member is what it is, and the other way round.
use Rattle.std.proofs.Common.{
  ◌≡◌,
  ℕ,
  ◌≤◌,
  List,
  [],
  ◌∷◌,
  length,
  nat_le,
  cond,
  ◌&&◌,
  codes,
  Option,
  Some,
  None,
  option_and_then,
  refl,
  sym,
  ap,
  subst,
  ◌∙◌,
  inl,
  inr,
  arith,
}
use Rattle.std.specs.Str.{bytes_eq}
use Rattle.std.proofs.lemmas.Slice.Eq.{bytes_eq-Decides}
use Rattle.serde_json.specs.Data.{Data, Items}
use Rattle.serde_json.specs.Find.{as_str, as_array}
use Rattle.table_terms.specs.declared.suit.Suit.{Suit}
use Rattle.table_terms.specs.declared.suit.Suit.TheVariants as suit
use Rattle.cards.specs.declared.rank.Rank.{Rank}
use Rattle.cards.specs.declared.rank.Rank.TheVariants as rank
use Rattle.cards.specs.declared.card.Card.{Card}
use Rattle.cards.specs.Card.{card_text}
use Rattle.table_terms.specs.Suit.{suit_letter}
use Rattle.cards.specs.Rank.{rank_letter}
use Rattle.scoring.specs.declared.outcome.Outcome.{Outcome}
use Rattle.scoring.specs.declared.outcome.Outcome.TheVariants.{PassedOut}
use Rattle.scoring.specs.Doubling.{times_doubled}
use Rattle.json_fields.specs.Form.{item_count, AreEach}
use Rattle.json_fields.specs.Doubling.{doubling_numbered}
use Rattle.json_fields.specs.Message.{declarer, strain}
use Rattle.command_object.specs.Result.{
  doubled,
  level_numbered,
  level,
  tricks_numbered,
  tricks_won,
  played_contract,
  text_or_played,
  outcome_by,
  IsOutcome,
  outcome,
}
use Rattle.command_object.specs.Play.{
  suit_named,
  rank_named,
  card_by,
  card_named,
  card_of,
  cards_of_items,
  cards_by,
  play_by,
  IsCard,
  IsPlay,
  play,
}
use Rattle.json_fields.proofs.FormLemmas.{
  Agrees,
  AgreesForm,
  form_agrees,
  with_agrees,
  kept,
  both_true,
  formed_read,
  formed_reads,
  is_most,
  most_is,
  means_read,
  means_reads,
  named_read,
  named_agrees,
  doubling_is,
  doubling_small,
  doubling_back,
  each_read,
  each_reads,
  each_count,
}
use Rattle.json_fields.proofs.LetterLemmas.{place_found, strain_found, place_reads, strain_reads}
use Rattle.command_object.proofs.LetterLemmas.{suit_reads, rank_reads}

-- ---- outcomes

pub doubled_agrees : Agrees doubled
doubled_agrees = record {
  read = λ o x h. let found = means_read doubling_numbered o x h in found.1 ∙ ap Some (doubling_is found.0 x found.2);
  reads = λ o x is. means_reads doubling_numbered o (times_doubled x) x is (doubling_small x) (doubling_back x);
}

level_is : (m n : ℕ) → level_numbered m ≡ Some n → (m ≡ n) × (1 ≤ n) × (n ≤ 7)
level_is m n h =
    let parts = kept (nat_le 1 m && nat_le m 7) (Some m) n h in
    let same : m ≡ n = cc (parts.1) in
    let both = both_true (nat_le 1 m) (nat_le m 7) parts.0 in
    let least = is_most 1 m both.0 in
    let most = is_most m 7 both.1 in
    (same, omega arith, omega arith)

level_back : (n : ℕ) → 1 ≤ n → n ≤ 7 → level_numbered n ≡ Some n
level_back n least most =
    ap (λ b. cond (b && nat_le n 7) (Some n) None) (most_is 1 n least)
    ∙ ap (λ b. cond b (Some n) None) (most_is n 7 most)

pub level_agrees : Agrees level
level_agrees = record {
  read = λ o n h.
      let found = means_read level_numbered o n h in
      let range = level_is found.0 n found.2 in
      record { is = found.1 ∙ ap Some range.0; least = range.1; most = range.2 };
  reads = λ o n is. means_reads level_numbered o n n is.is (let most = is.most in omega arith)
      (level_back n is.least is.most);
}

tricks_is : (m n : ℕ) → tricks_numbered m ≡ Some n → (m ≡ n) × (n ≤ 13)
tricks_is m n h =
    let both = kept (nat_le m 13) (Some m) n h in
    let same : m ≡ n = cc (both.1) in
    let most = is_most m 13 both.0 in
    (same, omega arith)

tricks_agree : Agrees tricks_won
tricks_agree = record {
  read = λ o n h.
      let found = means_read tricks_numbered o n h in
      let range = tricks_is found.0 n found.2 in
      record { is = found.1 ∙ ap Some range.0; most = range.1 };
  reads = λ o n is. means_reads tricks_numbered o n n is.is (let most = is.most in omega arith)
      (ap (λ b. cond b (Some n) None) (most_is n 13 is.most));
}

played_agrees : AgreesForm played_contract
played_agrees =
    with_agrees _ tricks_won
    (with_agrees _ strain (with_agrees _ level (with_agrees _ doubled (with_agrees _ declarer (form_agrees [] _)
    (named_agrees _ _ _ place_reads place_found)) doubled_agrees) level_agrees)
    (named_agrees _ _ _ strain_reads strain_found)) tricks_agree

text_read : (d : Data) (o : Option (List ℕ)) (ended : Outcome) → as_str d ≡ o → text_or_played o d ≡ Some ended
    → IsOutcome (Some d) ended
text_read d (Some word) ended is h =
    let both = kept (bytes_eq word (codes "pass")) (Some PassedOut) ended h in
    inl (is ∙ ap Some ((bytes_eq-Decides word (codes "pass")).0 both.0), cc (both.1))
text_read d None ended is h = inr (is, formed_read [] played_contract played_agrees d ended h)

outcome_read : (o : Option Data) (ended : Outcome) → outcome_by o ≡ Some ended → IsOutcome o ended
unfolding outcome_by
outcome_read None ended h = absurd (cc)
outcome_read (Some d) ended h = text_read d (as_str d) ended refl h

outcome_reads : (o : Option Data) (ended : Outcome) → IsOutcome o ended → outcome_by o ≡ Some ended
unfolding outcome_by
outcome_reads None ended is = absurd is
outcome_reads (Some d) ended (inl pass) = ap (λ o. text_or_played o d) pass.0 ∙ ap Some (sym pass.1)
outcome_reads (Some d) ended (inr made) =
    ap (λ o. text_or_played o d) made.0 ∙ formed_reads [] played_contract played_agrees d ended made.1

pub outcome_agrees : Agrees outcome
outcome_agrees = record { read = outcome_read; reads = outcome_reads }

-- ---- cards

suit_found : (x : Suit) → suit_named (suit_letter x) ≡ Some x
suit_found suit.Spades = refl
suit_found suit.Hearts = refl
suit_found suit.Diamonds = refl
suit_found suit.Clubs = refl

rank_found : (x : Rank) → rank_named (rank_letter x) ≡ Some x
rank_found rank.Two = refl
rank_found rank.Three = refl
rank_found rank.Four = refl
rank_found rank.Five = refl
rank_found rank.Six = refl
rank_found rank.Seven = refl
rank_found rank.Eight = refl
rank_found rank.Nine = refl
rank_found rank.Ten = refl
rank_found rank.Jack = refl
rank_found rank.Queen = refl
rank_found rank.King = refl
rank_found rank.Ace = refl

card_found : (card : Card) → card_named (card_text card) ≡ Some card
card_found card =
    ap (λ s. card_by s (rank_named (rank_letter card.rank))) (suit_found card.suit)
    ∙ ap (card_by (Some card.suit)) (rank_found card.rank)

card_by_read : (a b : ℕ) (s : Option Suit) (r : Option Rank) (card : Card) → suit_named a ≡ s → rank_named b ≡ r
    → card_by s r ≡ Some card → a ∷ b ∷ [] ≡ card_text card
card_by_read a b None r card is_suit is_rank h = absurd (cc)
card_by_read a b (Some s) None card is_suit is_rank h = absurd (cc)
card_by_read a b (Some s) (Some r) card is_suit is_rank h =
    let same : record { suit = s; rank = r } ≡ card = cc in
    ap (λ x. x ∷ b ∷ []) (sym (suit_reads s a is_suit))
    ∙ ap (λ y. suit_letter s ∷ y ∷ []) (sym (rank_reads r b is_rank)) ∙ ap card_text same

card_reads : (text : List ℕ) (card : Card) → card_named text ≡ Some card → text ≡ card_text card
card_reads [] card h = absurd (cc)
card_reads (a ∷ []) card h = absurd (cc)
card_reads (a ∷ b ∷ []) card h = card_by_read a b (suit_named a) (rank_named b) card refl refl h
card_reads (a ∷ b ∷ other ∷ rest) card h = absurd (cc)

card_read : (d : Data) (card : Card) → card_of d ≡ Some card → as_str d ≡ Some (card_text card)
unfolding card_of
card_read d card h = named_read card_named card_text card_reads (as_str d) card h

card_back : (d : Data) (card : Card) → as_str d ≡ Some (card_text card) → card_of d ≡ Some card
unfolding card_of
card_back d card h = ap (option_and_then card_named) h ∙ card_found card

-- as many cards are read as the list has elements
pub cards_as_many : (ds : Items) (cards : List Card) → cards_of_items ds ≡ Some cards → item_count ds ≡ length cards
cards_as_many ds cards h = each_count IsCard ds cards (each_read card_of IsCard card_read ds cards h)

list_read : (o : Option Items) (cards : List Card) → cards_by o ≡ Some cards
    → (elements : Items) × (o ≡ Some elements) × AreEach IsCard elements cards × (length cards ≤ 52)
list_read None cards h = absurd (cc)
list_read (Some ds) cards h =
    let both = kept (nat_le (item_count ds) 52) (cards_of_items ds) cards h in
    let all = each_read card_of IsCard card_read ds cards both.1 in
    (ds, refl, all, subst (λ n. n ≤ 52) (each_count IsCard ds cards all) (is_most (item_count ds) 52 both.0))

list_back : (o : Option Items) (ds : Items) (cards : List Card) → o ≡ Some ds → AreEach IsCard ds cards
    → length cards ≤ 52 → cards_by o ≡ Some cards
list_back o ds cards is all few =
    ap cards_by is
    ∙ ap (λ b. cond b (cards_of_items ds) None)
    (most_is (item_count ds) 52 (subst (λ n. n ≤ 52) (sym (each_count IsCard ds cards all)) few))
    ∙ each_reads card_of IsCard card_back ds cards all

play_read : (o : Option Data) (cards : List Card) → play_by o ≡ Some cards → IsPlay o cards
unfolding play_by
play_read None cards h = cc
play_read (Some d) cards h = list_read (as_array d) cards h

play_reads : (o : Option Data) (cards : List Card) → IsPlay o cards → play_by o ≡ Some cards
unfolding play_by
play_reads None cards is = ap Some (sym is)
play_reads (Some d) cards is = list_back (as_array d) is.0 cards is.1 is.2 is.3

pub play_agrees : Agrees play
play_agrees = record { read = play_read; reads = play_reads }
