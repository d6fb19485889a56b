-- What the search keeps from card to card.
use Rattle.std.proofs.Common.{
  ◌≡◌,
  ℕ,
  ◌-◌,
  ◌<◌,
  ◌≤◌,
  Bool,
  true,
  false,
  List,
  [],
  ◌∷◌,
  map,
  refl,
  sym,
  ap,
  ◌∙◌,
  subst,
  inl,
  inr,
  arith,
  zero,
  suc,
}
use Rattle.std.specs.Prelude.{not, ◌&&◌, ◌||◌, ◌⊎◌}
use Rattle.std.specs.List.{list_any}
use Rattle.std.specs.Ordering.{eq_by_cmp}
use mathlib.Core.Bool.{beq}
use Rattle.std.proofs.lemmas.Bool.{cases_Bool, or_cases, or_left, or_right, lt-leb, true≢false}
use Rattle.cards.specs.declared.card.Card.{Card}
use Rattle.table_terms.specs.declared.strain.Strain.{Strain}
use Rattle.cards.specs.Card.{card_cmp}
use Rattle.cards.specs.Cards.{Cards}
use Rattle.cards.specs.CardBits.{card_cmp_total, tied_is_equal}
use Rattle.cards.proofs.CardBitsLemmas.{same_cards}
use Rattle.table_terms.specs.declared.place.Place.{Place}
use Rattle.table_terms.specs.Place.{side_of}
use Rattle.cards.specs.Hands.{hand_of}
use Rattle.std.specs.FinSet as set
use Rattle.cards.specs.Play.{Position, after, cards_left, legal, legal_of, point, to_play, turn}
use Rattle.double_dummy.proofs.ClaimLemmas.{
  card_claims,
  card_claims_within,
  claims_like,
  claims_within,
  decided,
  owned_after,
  refused,
}
use Rattle.double_dummy.specs.Search.{AreSpokenFor, AreTriedInVain, IsRunOf}
use Rattle.double_dummy_laws.proofs.BestLemmas.{Among}
use Rattle.double_dummy_laws.proofs.CountLemmas.{has_less, left_after, no_more}
use Rattle.double_dummy_laws.proofs.EqualCardsLemmas.{IsWithin}
use Rattle.double_dummy_laws.proofs.HandLemmas.{items_among}
use Rattle.double_dummy_laws.proofs.OwnershipLemmas.{owned_knowing, owned_tight, tight, tight_tight, tight_within}
use Rattle.double_dummy_laws.proofs.RefusedLemmas.{unparted_claims}
use Rattle.double_dummy_laws.proofs.RenamingLemmas.{legal_old, turn_named, worth_in}
use Rattle.cards.specs.DoubleDummy.{best, tricks}
use Rattle.double_dummy_laws.specs.Found.{CardClaims, Claims, IsFound, IsOwned, wanted_answer}
use Rattle.double_dummy_laws.specs.Known.{IsKnown, IsLike, IsSettled}
use Rattle.double_dummy_laws.specs.Renaming.{Ownership, knowing, renamed}

-- what was found out of the position after a card holds of the card
pub found_card : (ownership : Ownership) (n : ℕ) (p : Position) (target : ℕ) (card : Card) (less more : Cards)
    (answer : Bool) → IsOwned ownership p →
    set.contains (legal p) card ≡ true → cards_left p ≡ suc n → IsKnown (knowing ownership more) p.strain p.table card →
    ((other : Card) → set.contains less other ≡ true → set.contains more other ≡ true) →
    IsFound (after p card) (target - point p card) less answer →
    CardClaims (knowing ownership more) n p target card answer
found_card ownership n p target card less more answer owned may left known each found =
    let next = owned_after ownership p card owned may in
    let count : cards_left (after p card) ≡ n = omega (arith, left_after ownership p card owned may) in
    let claims = found (tight ownership (after p card)) (owned_tight ownership (after p card) next)
    (tight_tight ownership (after p card)) in
    let wider = claims_within (knowing (tight ownership (after p card)) less) (knowing ownership more)
    (cards_left (after p card)) (after p card) (target - point p card) answer
    (tight_within ownership (after p card) less more next each)
    (owned_knowing (tight ownership (after p card)) less (after p card)
    (owned_tight ownership (after p card) next)) claims in
    card_claims (knowing ownership more) n p target card answer (owned_knowing ownership more p owned) may known
    (subst (λ m. Claims (knowing ownership more) m (after p card) (target - point p card) answer) count wider)

-- one card that gives the answer that the player wants
pub found_decided : (p : Position) (target : ℕ) (card : Card) (less more : Cards) (answer : Bool) →
    set.contains (legal p) card ≡ true →
    ((ownership : Ownership) → IsKnown (knowing ownership more) p.strain p.table card) →
    ((other : Card) → set.contains less other ≡ true → set.contains more other ≡ true) →
    answer ≡ wanted_answer (side_of (to_play p)) →
    IsFound (after p card) (target - point p card) less answer → IsFound p target more answer
found_decided p target card less more answer may known each is_wanted found ownership owned tight_p =
    let left = left_after ownership p card owned may in
    let claims = found_card ownership (cards_left (after p card)) p target card less more answer owned may left
    (known ownership) each found in
    subst (λ m. Claims (knowing ownership more) m p target answer) (sym left)
    (subst (λ b. Claims (knowing ownership more) (suc (cards_left (after p card))) p target b) (sym is_wanted)
    (decided (knowing ownership more) (cards_left (after p card)) p target card
    (owned_knowing ownership more p owned) may
    (subst (λ b. CardClaims (knowing ownership more) (cards_left (after p card)) p target card b) is_wanted claims)))

-- the one card that may be played gives the answer, whoever wants it
pub found_forced : (p : Position) (target : ℕ) (card : Card) (less more : Cards) (answer : Bool) →
    set.contains (legal p) card ≡ true →
    ((other : Card) → set.contains (legal p) other ≡ true → card ≡ other) →
    ((ownership : Ownership) → IsKnown (knowing ownership more) p.strain p.table card) →
    ((other : Card) → set.contains less other ≡ true → set.contains more other ≡ true) →
    IsFound (after p card) (target - point p card) less answer → IsFound p target more answer
found_forced p target card less more answer may only known each found ownership owned tight_p =
    let left = left_after ownership p card owned may in
    let claims = found_card ownership (cards_left (after p card)) p target card less more answer owned may left
    (known ownership) each found in
    subst (λ m. Claims (knowing ownership more) m p target answer) (sym left)
    (refused (knowing ownership more) (cards_left (after p card)) p target answer card
    (owned_knowing ownership more p owned) may
    (λ other may'. subst (λ c. CardClaims (knowing ownership more) (cards_left (after p card)) p target c answer)
    (only other may') claims))

-- no card is left untried
pub found_refused : (p : Position) (target : ℕ) (untried known : Cards) (answer : Bool) (some : Card) →
    set.contains (legal p) some ≡ true → untried ≡ set.empty →
    AreTriedInVain p target untried known answer → IsFound p target known answer
found_refused p target untried known answer some may none each ownership owned tight_p =
    let left = left_after ownership p some owned may in
    subst (λ m. Claims (knowing ownership known) m p target answer) (sym left)
    (refused (knowing ownership known) (cards_left (after p some)) p target answer some
    (owned_knowing ownership known p owned) may
    (λ card may'. each ownership (cards_left (after p some)) owned tight_p left card may'
    (ap (λ s. set.contains s card) none ∙ set.contains-empty card_cmp card)))

-- the cards that are taken off the untried ones refuse as the one that was tried: its run, and those for which it
-- speaks
pub refused_step : (p : Position) (target : ℕ) (untried rest known more less decisive run spoken gone : Cards)
    (card : Card) (answer : Bool) → AreTriedInVain p target untried known answer →
    set.contains (legal p) card ≡ true → IsFound (after p card) (target - point p card) less answer →
    ((ownership : Ownership) → IsKnown (knowing ownership decisive) p.strain p.table card) → IsRunOf p card run →
    set.contains run card ≡ true → AreSpokenFor p decisive card spoken →
    ((other : Card) → set.contains less other ≡ true → set.contains decisive other ≡ true) →
    ((other : Card) → set.contains known other ≡ true → set.contains more other ≡ true) →
    ((other : Card) → set.contains decisive other ≡ true → set.contains more other ≡ true) →
    ((one other : Card) → set.contains decisive one ≡ true → set.contains run one ≡ true →
    set.contains run other ≡ true → set.contains more other ≡ true) →
    ((other : Card) → set.contains gone other ≡ true →
    (set.contains run other ≡ true) ⊎ (set.contains spoken other ≡ true)) →
    ((other : Card) → set.contains rest other ≡ (set.contains untried other && not (set.contains gone other))) →
    AreTriedInVain p target rest more answer
refused_step p target untried rest known more less decisive run spoken gone card answer old may found known_of is_run
    in_run speaks_for less_in known_in decisive_in closed gone_is rest_is ownership n owned tight_p left other may'
    is_gone =
    elim (cases_Bool (set.contains gone other)) [
      | inl off ↦
          let claims = found_card ownership n p target card less decisive answer owned may left
          (known_of ownership) less_in found in
          let within = same_more ownership decisive more decisive_in in
          elim (gone_is other off) [
            | inl runs ↦ elim (is_run ownership other owned tight_p runs).1 [
              | inl same ↦ subst (λ c. CardClaims (knowing ownership more) n p target c answer) same
                  (card_claims_within (knowing ownership decisive) (knowing ownership more) n p target card answer
                  within (owned_knowing ownership decisive p owned) claims)
              | inr like ↦ claims_like (knowing ownership decisive)
                  (knowing ownership more) n p target answer card other within
                  (record {
                    first = λ k. closed card other k in_run runs;
                    second = λ k. closed other card k runs in_run;
                  })
                  (owned_knowing ownership decisive p owned)
                  (like_knowing ownership decisive card other like) may may' claims
            ]
            | inr spoken_for ↦ card_claims_within (knowing ownership decisive) (knowing ownership more) n p target
                other answer within (owned_knowing ownership decisive p owned)
                (unparted_claims ownership n p decisive target card other answer owned
                (speaks_for other spoken_for) claims)
          ]
      | inr stays ↦
          card_claims_within (knowing ownership known) (knowing ownership more) n p target other answer
          (same_more ownership known more known_in) (owned_knowing ownership known p owned)
          (each_old stays)
    ]
  where
    same_more : (ownership : Ownership) (less more : Cards) →
        ((other : Card) → set.contains less other ≡ true → set.contains more other ≡ true) →
        IsWithin (knowing ownership less) (knowing ownership more)
    same_more ownership less more each = record { owner = λ _. refl; live = λ _ l. l; known = each }

    like_knowing : (ownership : Ownership) (known : Cards) (a b : Card) → IsLike ownership a b →
        IsLike (knowing ownership known) a b
    like_knowing ownership known a b like =
        record {
          suit = like.suit;
          owner = like.owner;
          first_live = like.first_live;
          second_live =
              like.second_live;
          above = like.above;
          below = like.below;
        }

    each_old : set.contains gone other ≡ false → CardClaims (knowing ownership known) n p target other answer
    each_old stays = old ownership n owned tight_p left other may'
        (tried_before (set.contains untried other) (set.contains gone other) stays (sym (rest_is other) ∙ is_gone))
      where
        tried_before : (a b : Bool) → b ≡ false → (a && not b) ≡ false → a ≡ false
        tried_before true true e h = absurd (true≢false e)
        tried_before true false e h = h
        tried_before false b e h = refl

-- no card is in no cards
pub none_in : (cards : Cards) (card : Card) → cards ≡ set.empty → ¬ (set.contains cards card ≡ true)
none_in cards card none there =
    true≢false (sym there ∙ ap (λ s. set.contains s card) none ∙ set.contains-empty card_cmp card)

-- where nothing is legal, nothing more is taken
pub nothing_left : (p : Position) (target : ℕ) (known : Cards) → 0 < target → legal p ≡ set.empty →
    IsFound p target known false
unfolding tricks
nothing_left p target known some none ownership owned tight_p name hands renaming named =
    lt-leb target _ (below (cards_left p))
  where
    nobody : (cards : List Card) → ((card : Card) → Among card cards → ⊥) → cards ≡ []
    nobody [] never = refl
    nobody (first ∷ rest) never = absurd (never first (inl refl))

    no_cards : set.items (legal_of (hand_of hands (to_play p)) (map name p.table)) ≡ []
    no_cards = nobody _ (λ card among.
        let old = legal_old (knowing ownership known) name renaming p.hands hands
        (to_play p) p.leader p.table card named (owned_knowing ownership known p owned).on_table
        (items_among _ card among) in
        true≢false (sym old.1 ∙ ap (λ s. set.contains s old.0) none ∙ set.contains-empty card_cmp old.0))

    below : (n : ℕ) → tricks n (renamed name p hands) < target
    below zero = some
    below (suc n) =
        subst (λ x. x < target)
        (sym (ap (λ place. best (side_of place)
        (map (worth_in n (renamed name p hands)) (set.items (legal_of (hand_of hands place) (map name p.table)))))
        (turn_named name p.leader p.table)
        ∙ ap (λ cards. best (side_of (to_play p)) (map (worth_in n (renamed name p hands)) cards)) no_cards))
        some

-- a set that lost a card and maybe others is smaller
take_away : Cards → List Card → Cards
take_away s [] = s
take_away s (card ∷ cards) = set.remove (take_away s cards) card

fewer_taken : (s : Cards) (cards : List Card) → set.len (take_away s cards) ≤ set.len s
unfolding take_away
fewer_taken s [] = omega arith
fewer_taken s (card ∷ cards) = omega (arith, no_more (take_away s cards) card, fewer_taken s cards)

contains-take_away : (s : Cards) (cards : List Card) (card : Card) →
    set.contains (take_away s cards) card ≡ (set.contains s card && not (list_any (eq_by_cmp card_cmp card) cards))
unfolding take_away
contains-take_away s [] card = all (set.contains s card)
  where
    all : (a : Bool) → a ≡ (a && true)
    all true = refl
    all false = refl
contains-take_away s (first ∷ cards) card =
    set.contains-remove card_cmp_total (take_away s cards) first card
    ∙ ap (λ b. not (eq_by_cmp card_cmp card first) && b) (contains-take_away s cards card)
    ∙ both (eq_by_cmp card_cmp card first) (set.contains s card) (list_any (eq_by_cmp card_cmp card) cards)
  where
    both : (a b c : Bool) → (not a && (b && not c)) ≡ (b && not (a || c))
    both true true c = refl
    both true false c = refl
    both false true c = refl
    both false false c = refl

pub fewer_untried : (untried rest run : Cards) (card : Card) → set.contains untried card ≡ true →
    set.contains run card ≡ true →
    ((other : Card) → set.contains rest other ≡ (set.contains untried other && not (set.contains run other))) →
    set.len rest < set.len untried
fewer_untried untried rest run card in_untried in_run rest_is =
    let same : rest ≡ take_away (set.remove untried card) (set.items run) = same_cards _ _ (λ other.
    rest_is other
    ∙ ap (λ b. set.contains untried other && not b) (set.contains-items run other)
    ∙ without_one other
    ∙ ap (λ b. b && not (list_any (eq_by_cmp card_cmp other) (set.items run)))
    (sym (set.contains-remove card_cmp_total untried card other))
    ∙ sym (contains-take_away (set.remove untried card) (set.items run) other)) in
    omega (
      arith,
      ap set.len same,
      fewer_taken (set.remove untried card) (set.items run),
      has_less untried card in_untried,
    )
  where
    absorbs : (a b c : Bool) → (c ≡ true → b ≡ true) → (a && not b) ≡ ((not c && a) && not b)
    absorbs true true true e = refl
    absorbs false true true e = refl
    absorbs a false true e = absurd (true≢false (sym (e refl)))
    absorbs true b false e = refl
    absorbs false b false e = refl

    without_one : (other : Card) → (set.contains untried other && not
        (list_any (eq_by_cmp card_cmp other) (set.items run)))
        ≡ ((not (eq_by_cmp card_cmp other card) && set.contains untried other) && not
        (list_any (eq_by_cmp card_cmp other) (set.items run)))
    without_one other = absorbs (set.contains untried other) (list_any (eq_by_cmp card_cmp other) (set.items run))
        (eq_by_cmp card_cmp other card)
        (λ same. sym (set.contains-items run other) ∙ ap (set.contains run) (tied_is_equal other card same) ∙ in_run)

pub found_next : (p q : Position) (target rest trick : ℕ) (card : Card) (known : Cards) (answer : Bool) →
    q ≡ after p card → trick ≡ point p card → rest ≡ target - trick →
    IsFound q rest known answer → IsFound (after p card) (target - point p card) known answer
found_next p q target rest trick card known answer next one less found =
    subst (λ r. IsFound (after p card) r known answer) (less ∙ ap (λ x. target - x) one)
    (subst (λ s. IsFound s rest known answer) next found)

pub known_more : (ownership : Ownership) (less more : Cards) (strain : Strain) (table : List Card) (card : Card) →
    ((other : Card) → set.contains less other ≡ true → set.contains more other ≡ true) →
    IsKnown (knowing ownership less) strain table card → IsKnown (knowing ownership more) strain table card
known_more ownership less more strain [] card each known = tt
known_more ownership less more strain (a ∷ []) card each known = tt
known_more ownership less more strain (a ∷ b ∷ []) card each known = tt
known_more ownership less more strain (a ∷ b ∷ c ∷ rest) d each known = record {
  first = λ above. settled a b c d (known.first above);
  second = λ above. settled b a c d (known.second above);
  third = λ above. settled c a b d (known.third above);
  fourth = λ above. settled d a b c (known.fourth above);
}
  where
    either : (x y : Card) → (set.contains less x || set.contains less y) ≡ true →
        (set.contains more x || set.contains more y) ≡ true
    either x y some = elim (or_cases _ _ some) [ inl h ↦ or_left _ _ (each x h) | inr h ↦ or_right _ _ (each y h) ]

    settled : (top x y z : Card) → IsSettled (knowing ownership less) top x y z →
        IsSettled (knowing ownership more) top x y z
    settled top x y z s = record {
      first = λ e. either x top (s.first e);
      second =
          λ e. either y top (s.second e);
      third = λ e. either z top (s.third e);
    }

pub same_bool : (a b : Bool) → beq a b ≡ true → a ≡ b
same_bool true true e = refl
same_bool true false e = absurd (true≢false (sym e))
same_bool false true e = absurd (true≢false (sym e))
same_bool false false e = refl

pub other_bool : (a b : Bool) → beq a b ≡ false → a ≡ not b
other_bool true true e = absurd (true≢false e)
other_bool true false e = refl
other_bool false true e = refl
other_bool false false e = absurd (true≢false e)

-- a set that is not empty has a card
pub some_in : (s : Cards) → (s ≡ set.empty → ⊥) → (card : Card) × (set.contains s card ≡ true)
some_in s some = of_items (set.items s) refl
  where
    of_items : (cards : List Card) → set.items s ≡ cards → (card : Card) × (set.contains s card ≡ true)
    of_items [] e = absurd (some (same_cards _ _ (λ card. set.contains-items s card
        ∙ ap (list_any (eq_by_cmp card_cmp card)) e ∙ sym (set.contains-empty card_cmp card))))
    of_items (first ∷ rest) e = (first, items_among s first (subst (Among first) (sym e) (inl refl)))

-- the cards of a run, or those that the refused card speaks for
pub of_either : (run spoken gone : Cards) → gone ≡ set.union run spoken → (card : Card) →
    set.contains gone card ≡ true → (set.contains run card ≡ true) ⊎ (set.contains spoken card ≡ true)
of_either run spoken gone gone_is card held =
    or_cases _ _ (sym (ap (λ s. set.contains s card) gone_is ∙ set.contains-union card_cmp_total run spoken card)
    ∙ held)

-- whose turn it is, and what may be played, by the cards on the table
pub is_turn : (p : Position) → {table : List Card} {leader player : Place} → table ≡ p.table → leader ≡ p.leader →
    player ≡ turn leader table → player ≡ to_play p
is_turn p table_is leader_is player_is = player_is ∙ (λ i. turn (leader_is i) (table_is i))

pub is_legal : (p : Position) → {table : List Card} {leader player : Place} {mine playable : Cards} →
    table ≡ p.table → leader ≡ p.leader → player ≡ turn leader table → mine ≡ hand_of p.hands player →
    playable ≡ legal_of mine table → playable ≡ legal p
is_legal p table_is leader_is player_is mine_is playable_is =
    let held = mine_is ∙ ap (hand_of p.hands) (is_turn p table_is leader_is player_is) in
    playable_is ∙ (λ i. legal_of (held i) (table_is i))
