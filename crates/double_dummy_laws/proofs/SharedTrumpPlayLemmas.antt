-- Which cards the partners choose, so that their trumps take the tricks that are counted.
use Rattle.std.proofs.Common.{◌≡◌, ◌≢◌, ◌⊎◌, ℕ, ◌+◌, ◌<◌, ◌≤◌, true, false, [], ◌∷◌, refl, sym, ap, ◌∙◌, subst, inl, inr, arith, zero, suc}
use Rattle.std.proofs.lemmas.Bool.{cases_Bool}
use Rattle.std.specs.FinSet as set
use Rattle.cards.specs.declared.card.Card.{Card}
use Rattle.cards.specs.Cards.{Cards}
use Rattle.table_terms.specs.declared.place.Place.{Place}
use Rattle.table_terms.specs.declared.strain.Strain.{Strain}
use Rattle.table_terms.specs.Place.{left_of, side_of}
use Rattle.table_terms.specs.Strain.{trump_of}
use Rattle.cards.specs.Hands.{Hands, hand_of}
use Rattle.cards.specs.Play.{IsApart, IsPosition, Position, cards_left, following, is_of, legal, legal_of, to_play, winner, without}
use Rattle.cards.proofs.PlayLemmas.{can_play, four_times, position_after}
use Rattle.double_dummy_laws.proofs.BestTrumpLemmas.{opponents, partners}
use Rattle.double_dummy_laws.proofs.GuardedTrumpLemmas.{legal_too, two_cards}
use Rattle.double_dummy_laws.proofs.HandLemmas.{has_without, without_had}
use Rattle.double_dummy_laws.proofs.LongTrumpLemmas as longest
use Rattle.double_dummy_laws.proofs.LongTrumpLemmas.{rest_of}
use Rattle.double_dummy_laws.proofs.NeighbourLemmas.{one_less_after}
use Rattle.double_dummy_laws.proofs.SharedTrumpLemmas.{Shared, ends, hit, hit_in, hit_out, hit_small, hits, no_trump, not_own, not_theirs, partner, shared_without, some_out, untouched}
use Rattle.double_dummy_laws.proofs.TakingLemmas.{AreFrom, CardTakes, all_play, at, goes_on, held_by, in_both, one_plays, seat, some_left, some_of, takes_none}
use Rattle.double_dummy_laws.proofs.WinnerLemmas.{both_trumps, turns_1, turns_2, turns_3}
use Rattle.double_dummy_laws.specs.SureTricks.{TakesAtLeast}

module _ (strain : Strain) (holder : Place) where
  -- one of the holder's trumps is counted, and another isn't
  module _ (h : Hands) (w v t : Cards) (apart : IsApart h) (shared : Shared strain holder h w v t) (x z : Card) (x_own
      : set.contains t x ≡ true) (x_counted : set.contains w x ≡ true) (z_own : set.contains t z ≡ true) (z_not
      : set.contains w z ≡ false) where
    -- the holder's turn in a trick that began with these hands
    pub record IsTurn (p : Position) : Type 0 where
      pub valid : IsPosition p
      pub turn : to_play p ≡ holder
      pub mine : (card : Card) → set.contains (hand_of p.hands holder) card ≡ true →
          set.contains (hand_of h holder) card ≡ true
      pub has_x : set.contains (hand_of p.hands holder) x ≡ true
      pub has_z : set.contains (hand_of p.hands holder) z ≡ true

    pub suits : x.suit ≡ z.suit
    suits = both_trumps (trump_of strain) x z (shared.own_trumps x x_own) (shared.own_trumps z z_own)

    -- the holder's card and the partner's: one of them is counted at most, and it pays for a trump of the holder
    abbrev pub Fits : Card → Card → Type 0
    Fits mine theirs = (hit w mine + hit w theirs ≤ 1) × (hit t mine ≤ hit w mine + hit w theirs)

    plain_fits : (mine theirs : Card) → set.contains (hand_of h holder) mine ≡ true → set.contains t mine ≡ false →
        Fits mine theirs
    plain_fits mine theirs held out =
        let none = no_trump strain holder h w v t apart shared mine held out in
        (omega (arith, none, hit_small w theirs), omega (arith, hit_out t mine out))

    counted_fits : (theirs : Card) → set.contains w theirs ≡ false → Fits x theirs
    counted_fits theirs out = (
      omega (arith, hit_in w x x_counted, hit_out w theirs out),
      omega (arith, hit_in w x x_counted, hit_in t x x_own),
    )

    other_fits : (theirs : Card) → set.contains w theirs ≡ true → Fits z theirs
    other_fits theirs in' = (
      omega (arith, hit_out w z z_not, hit_in w theirs in'),
      omega (arith, hit_in t z z_own, hit_in w theirs in'),
    )

    -- where the holder may play trumps alone, any of them may be played
    any_trump : (p : Position) → IsTurn p →
        ((card : Card) → set.contains (legal p) card ≡ true → set.contains t card ≡ true) → (card : Card) →
        set.contains t card ≡ true → set.contains (hand_of p.hands holder) card ≡ true →
        set.contains (legal p) card ≡ true
    any_trump p now all card own held =
        let some = can_play p now.valid (λ none. omega (arith, none, some_left p holder x now.has_x)) in
        legal_too p some.0 card
        (both_trumps (trump_of strain) some.0 card (shared.own_trumps some.0 (all some.0 some.1))
        (shared.own_trumps card own))
        (subst (λ place. set.contains (hand_of p.hands place) card ≡ true) (sym now.turn) held) some.1

    from_hand : (p : Position) (card : Card) → IsTurn p → set.contains (legal p) card ≡ true →
        set.contains (hand_of h holder) card ≡ true
    from_hand p card now may =
        now.mine card (subst (λ place. set.contains (hand_of p.hands place) card ≡ true) now.turn (held_by p card may))

    -- the partner has played
    pub after_partner : (p : Position) → IsTurn p → (theirs : Card) →
        (mine : Card) × (set.contains (legal p) mine ≡ true) × Fits mine theirs
    after_partner p now theirs =
        elim (some_out (legal p) t) [
          | inl plain ↦ (plain.0, plain.1, plain_fits plain.0 theirs (from_hand p plain.0 now plain.1) plain.2)
          | inr all ↦ elim (cases_Bool (set.contains w theirs)) [
            | inl in' ↦ (z, any_trump p now all z z_own now.has_z, other_fits theirs in')
            | inr out ↦ (x, any_trump p now all x x_own now.has_x, counted_fits theirs out)
          ]
        ]

    -- the partner plays after the holder, and one may choose, or whatever is legal fits
    pub before_partner : (p : Position) → IsTurn p → (replies : Card → Cards) → replies x ≡ replies z →
        (mine : Card) × (set.contains (legal p) mine ≡ true)
        × (((theirs : Card) × (set.contains (replies mine) theirs ≡ true) × Fits mine theirs)
        ⊎ ((theirs : Card) → set.contains (replies mine) theirs ≡ true → Fits mine theirs))
    before_partner p now replies same =
        elim (some_out (legal p) t) [
          | inl plain ↦ (
            plain.0,
            plain.1,
            inr (λ theirs may. plain_fits plain.0 theirs (from_hand p plain.0 now plain.1) plain.2),
          )
          | inr all ↦ elim (some_out (replies x) w) [
            | inl reply ↦ (
              x,
              any_trump p now all x x_own now.has_x,
              inl (reply.0, reply.1, counted_fits reply.0 reply.2),
            )
            | inr each ↦ (
              z,
              any_trump p now all z z_own now.has_z,
              inr (λ theirs may. other_fits theirs
                  (each theirs (subst (λ cards. set.contains cards theirs ≡ true) (sym same) may))),
            )
          ]
        ]

  -- what is so with fewer cards
  abbrev Later : ℕ → Type 0
  Later n = (j : ℕ) (g : Hands) (next : Place) (w v t : Cards) → cards_left (at g strain next []) ≤ n →
      IsPosition (at g strain next []) → Shared strain holder g w v t → j + set.len v ≤ set.len w →
      j + set.len v ≤ set.len t → TakesAtLeast (side_of holder) j (at g strain next [])

  module _ (n k : ℕ) (h : Hands) (leader : Place) (w v t : Cards) (few
      : cards_left (at h strain leader []) ≤ suc n) (valid : IsPosition (at h strain leader [])) (shared
      : Shared strain holder h w v t) (many : suc k + set.len v ≤ set.len w) (long
      : suc k + set.len v ≤ set.len t) (later : Later n) where
    abbrev second : Place
    second = left_of leader

    abbrev third : Place
    third = left_of (left_of leader)

    abbrev fourth : Place
    fourth = left_of (left_of (left_of leader))

    abbrev Takes : Position → Type 0
    Takes p = TakesAtLeast (side_of holder) (suc k) p

    -- the position after one, two or three cards
    abbrev p0 : Position
    p0 = at h strain leader []

    abbrev p1 : Card → Position
    p1 a = at (without h a) strain leader (a ∷ [])

    abbrev p2 : Card → Card → Position
    p2 a b = at (without (without h a) b) strain leader (a ∷ b ∷ [])

    abbrev p3 : Card → Card → Card → Position
    p3 a b c = at (without (without (without h a) b) c) strain leader (a ∷ b ∷ c ∷ [])

    -- the cards of the trick were played one after another
    pub record ArePlays (a b c : Card) : Type 0 where
      pub a_may : set.contains (legal p0) a ≡ true
      pub b_may : set.contains (legal (p1 a)) b ≡ true
      pub c_may : set.contains (legal (p2 a b)) c ≡ true

    came : (a b c d : Card) → ArePlays a b c → set.contains (legal (p3 a b c)) d ≡ true → AreFrom h leader a b c d
    came a b c d plays d_may =
        let h1 = without h a in
        let h2 = without h1 b in
        let from_1 = without_had h a b second (held_by (p1 a) b plays.b_may) in
        let from_2 = without_had h1 b c third (held_by (p2 a b) c plays.c_may) in
        let from_3 = without_had h a c third from_2.0 in
        let from_4 = without_had h2 c d fourth (held_by (p3 a b c) d d_may) in
        let from_5 = without_had h1 b d fourth from_4.0 in
        let from_6 = without_had h a d fourth from_5.0 in
        record {
          first = held_by p0 a plays.a_may;
          second = from_1.0;
          third = from_3.0;
          fourth = from_6.0;
          ba = from_1.1;
          ca = from_3.1;
          cb = from_2.1;
          da = from_6.1;
          db = from_5.1;
          dc = from_4.1;
        }

    complete : (a b c d : Card) → ArePlays a b c → set.contains (legal (p3 a b c)) d ≡ true → hits w a b c d ≤ 1 →
        hits t a b c d ≤ hits w a b c d → CardTakes (side_of holder) (suc k) (p3 a b c) d
    complete a b c d plays d_may one fits =
        let valid_1 = position_after p0 a valid plays.a_may in
        let valid_2 = position_after (p1 a) b valid_1 plays.b_may in
        let valid_3 = position_after (p2 a b) c valid_2 plays.c_may in
        let h1 = without h a in
        let h2 = without h1 b in
        let h3 = without h2 c in
        let shared_1 = shared_without strain holder h w v t a shared in
        let shared_2 = shared_without strain holder h1 (set.remove w a) (set.remove v a) (set.remove t a) b shared_1 in
        let shared_3 = shared_without strain holder h2 (set.remove (set.remove w a) b)
        (set.remove (set.remove v a) b) (set.remove (set.remove t a) b) c shared_2 in
        let shared_4 = shared_without strain holder h3 (set.remove (set.remove (set.remove w a) b) c)
        (set.remove (set.remove (set.remove v a) b) c) (set.remove (set.remove (set.remove t a) b) c) d shared_3 in
        ends strain holder k h leader w v t a b c d valid_3 d_may many long
        (λ j enough also. later j (without h3 d) (winner strain leader a b c d) (rest_of w a b c d) (rest_of v a b c d)
        (rest_of t a b c d)
        (omega (
          arith,
          few,
          one_less_after p0 a valid plays.a_may,
          one_less_after (p1 a) b valid_1 plays.b_may,
          one_less_after (p2 a b) c valid_2 plays.c_may,
          one_less_after (p3 a b c) d valid_3 d_may,
        ))
        (position_after (p3 a b c) d valid_3 d_may) shared_4 enough also)
        valid.apart shared (came a b c d plays d_may) one fits

    theirs_none : (card : Card) (place : Place) → set.contains (hand_of h place) card ≡ true →
        side_of place ≢ side_of holder → (hit w card ≡ 0) × (hit t card ≡ 0)
    theirs_none card place held ne = (
      not_theirs strain holder h w v t valid.apart shared card place held ne,
      not_own strain holder h w v t valid.apart shared card place held (λ e. ne (ap side_of e)),
    )

    -- the leader is of the side, and the partner has played to the trick
    side_third : side_of leader ≡ side_of holder → (a b c : Card) → ArePlays a b c → hit w a + hit w c ≤ 1 →
        hit t a + hit t c ≤ hit w a + hit w c → CardTakes (side_of holder) (suc k) (p2 a b) c
    side_third side a b c plays one fits =
        let valid_1 = position_after p0 a valid plays.a_may in
        let valid_2 = position_after (p1 a) b valid_1 plays.b_may in
        let valid_3 = position_after (p2 a b) c valid_2 plays.c_may in
        goes_on (side_of holder) (suc k) (p2 a b) c valid_2 plays.c_may (omega arith)
        (all_play (side_of holder) (suc k) (p3 a b c) valid_3
        (omega (
          arith,
          four_times p0 valid,
          some_left p0 leader a (held_by p0 a plays.a_may),
          one_less_after p0 a valid plays.a_may,
          one_less_after (p1 a) b valid_1 plays.b_may,
          one_less_after (p2 a b) c valid_2 plays.c_may,
        ))
        (λ d d_may.
        let from = came a b c d plays d_may in
        let no_b = theirs_none b second from.second (λ e. opponents leader (e ∙ sym side)) in
        let no_d = theirs_none d fourth from.fourth (λ e. opponents third (e ∙ sym side ∙ sym (partners leader))) in
        complete a b c d plays d_may (omega (arith, one, no_b.0, no_d.0))
        (omega (arith, fits, no_b.0, no_d.0, no_b.1, no_d.1))))

    -- the leader is an opponent, and the second player's partner plays last
    side_fourth : side_of second ≡ side_of holder → (a b c d : Card) → ArePlays a b c →
        set.contains (legal (p3 a b c)) d ≡ true → hit w b + hit w d ≤ 1 →
        hit t b + hit t d ≤ hit w b + hit w d → CardTakes (side_of holder) (suc k) (p3 a b c) d
    side_fourth side a b c d plays d_may one fits =
        let from = came a b c d plays d_may in
        let no_a = theirs_none a leader from.first (λ e. opponents leader (side ∙ sym e)) in
        let no_c = theirs_none c third from.third (λ e. opponents second (e ∙ sym side)) in
        complete a b c d plays d_may (omega (arith, one, no_a.0, no_c.0))
        (omega (arith, fits, no_a.0, no_c.0, no_a.1, no_c.1))

    module _ (some : 0 < cards_left p0) (x z : Card) (x_own : set.contains t x ≡ true) (x_counted
        : set.contains w x ≡ true) (z_own : set.contains t z ≡ true) (z_not : set.contains w z ≡ false) where
      abbrev Turn : Position → Type 0
      Turn p = IsTurn h w v t valid.apart shared x z x_own x_counted z_own z_not p

      leads : holder ≡ leader → Takes p0
      leads is =
          let side = ap side_of (sym is) in
          let now : Turn p0 = record {
            valid = valid;
            turn = sym is;
            mine = λ card held. held;
            has_x = shared.own x x_own;
            has_z = shared.own z z_own;
          } in
          let choice = before_partner h w v t valid.apart shared x z x_own x_counted z_own z_not p0 now
          (λ mine. legal_of (hand_of h third) (mine ∷ []))
          (ap (λ suit. following (hand_of h third) (set.retain (hand_of h third) (is_of suit)))
          (suits h w v t valid.apart shared x z x_own x_counted z_own z_not)) in
          let a = choice.0 in
          let a_may = choice.1 in
          let valid_1 = position_after p0 a valid a_may in
          let less_1 = one_less_after p0 a valid a_may in
          let four = four_times p0 valid in
          one_plays (side_of holder) (suc k) p0 a valid a_may side
          (goes_on (side_of holder) (suc k) p0 a valid a_may (omega arith)
          (all_play (side_of holder) (suc k) (p1 a) valid_1 (omega (arith, some, four, less_1)) (λ b b_may.
          let valid_2 = position_after (p1 a) b valid_1 b_may in
          let less_2 = one_less_after (p1 a) b valid_1 b_may in
          let same = untouched (without h a) b second third valid_1.apart (held_by (p1 a) b b_may) (turns_1 second)
          ∙ untouched h a leader third valid.apart (held_by p0 a a_may) (turns_2 leader) in
          let reply = λ (c : Card) (c_may : set.contains (legal (p2 a b)) c ≡ true)
          (fits : Fits h w v t valid.apart shared x z x_own x_counted z_own z_not a c).
          let none = not_own strain holder h w v t valid.apart shared c third
          (subst (λ hand. set.contains hand c ≡ true) same (held_by (p2 a b) c c_may))
          (λ e. turns_2 leader (sym (e ∙ is))) in
          side_third side a b c (record { a_may = a_may; b_may = b_may; c_may = c_may }) fits.0
          (omega (arith, fits.1, none)) in
          goes_on (side_of holder) (suc k) (p1 a) b valid_1 b_may (omega arith)
          (elim choice.2 [
            | inl one ↦
                let c_may = subst (λ hand. set.contains (legal_of hand (a ∷ b ∷ [])) one.0 ≡ true) (sym same) one.1 in
                one_plays (side_of holder) (suc k) (p2 a b) one.0 valid_2 c_may (partners leader ∙ side)
                (reply one.0 c_may one.2)
            | inr each ↦
                all_play (side_of holder) (suc k) (p2 a b) valid_2 (omega (arith, some, four, less_1, less_2))
                (λ c c_may. reply c c_may
                (each c (subst (λ hand. set.contains (legal_of hand (a ∷ b ∷ [])) c ≡ true) same c_may)))
          ]))))

      second_hand : holder ≡ second → Takes p0
      second_hand is =
          let side = ap side_of (sym is) in
          let four = four_times p0 valid in
          all_play (side_of holder) (suc k) p0 valid some (λ a a_may.
          let valid_1 = position_after p0 a valid a_may in
          let less_1 = one_less_after p0 a valid a_may in
          let apart_a = λ (card : Card) (held : set.contains (hand_of h holder) card ≡ true).
          two_cards h card a holder leader valid.apart held (held_by p0 a a_may) (λ e. turns_1 leader (sym e ∙ is)) in
          let now : Turn (p1 a) = record {
            valid = valid_1;
            turn = sym is;
            mine = λ card held. (without_had h a card holder held).0;
            has_x = has_without h a x holder (shared.own x x_own) (apart_a x (shared.own x x_own));
            has_z = has_without h a z holder (shared.own z z_own) (apart_a z (shared.own z z_own));
          } in
          let choice = before_partner h w v t valid.apart shared x z x_own x_counted z_own z_not (p1 a) now
          (λ mine. legal_of (hand_of (without h a) fourth) (a ∷ [])) refl in
          let b = choice.0 in
          let b_may = choice.1 in
          let valid_2 = position_after (p1 a) b valid_1 b_may in
          let less_2 = one_less_after (p1 a) b valid_1 b_may in
          goes_on (side_of holder) (suc k) p0 a valid a_may (omega arith)
          (one_plays (side_of holder) (suc k) (p1 a) b valid_1 b_may side
          (goes_on (side_of holder) (suc k) (p1 a) b valid_1 b_may (omega arith)
          (all_play (side_of holder) (suc k) (p2 a b) valid_2 (omega (arith, some, four, less_1, less_2)) (λ c c_may.
          let valid_3 = position_after (p2 a b) c valid_2 c_may in
          let less_3 = one_less_after (p2 a b) c valid_2 c_may in
          let same = untouched (without (without h a) b) c third fourth valid_2.apart (held_by (p2 a b) c c_may)
          (turns_1 third)
          ∙ untouched (without h a) b second fourth valid_1.apart (held_by (p1 a) b b_may) (turns_2 second) in
          let reply = λ (d : Card) (d_may : set.contains (legal (p3 a b c)) d ≡ true)
          (fits : Fits h w v t valid.apart shared x z x_own x_counted z_own z_not b d).
          let plays : ArePlays a b c = record { a_may = a_may; b_may = b_may; c_may = c_may } in
          let none = not_own strain holder h w v t valid.apart shared d fourth (came a b c d plays d_may).fourth
          (λ e. turns_2 second (sym (e ∙ is))) in
          side_fourth side a b c d plays d_may fits.0 (omega (arith, fits.1, none)) in
          goes_on (side_of holder) (suc k) (p2 a b) c valid_2 c_may (omega arith)
          (elim choice.2 [
            | inl one ↦
                let d_may = subst (λ hand. set.contains (legal_of hand (a ∷ [])) one.0 ≡ true) (sym same) one.1 in
                one_plays (side_of holder) (suc k) (p3 a b c) one.0 valid_3 d_may (partners second ∙ side)
                (reply one.0 d_may one.2)
            | inr each ↦
                all_play (side_of holder) (suc k) (p3 a b c) valid_3
                (omega (arith, some, four, less_1, less_2, less_3))
                (λ d d_may. reply d d_may
                (each d (subst (λ hand. set.contains (legal_of hand (a ∷ [])) d ≡ true) same d_may)))
          ]))))))

      third_hand : holder ≡ third → Takes p0
      third_hand is =
          let side = sym (partners leader) ∙ ap side_of (sym is) in
          let four = four_times p0 valid in
          all_play (side_of holder) (suc k) p0 valid some (λ a a_may.
          let valid_1 = position_after p0 a valid a_may in
          let less_1 = one_less_after p0 a valid a_may in
          let held_a = held_by p0 a a_may in
          let apart_a = λ (card : Card) (held : set.contains (hand_of h holder) card ≡ true).
          two_cards h card a holder leader valid.apart held held_a (λ e. turns_2 leader (sym e ∙ is)) in
          let own_1 = λ (card : Card) (own : set.contains t card ≡ true).
          has_without h a card holder (shared.own card own) (apart_a card (shared.own card own)) in
          goes_on (side_of holder) (suc k) p0 a valid a_may (omega arith)
          (all_play (side_of holder) (suc k) (p1 a) valid_1 (omega (arith, some, four, less_1)) (λ b b_may.
          let valid_2 = position_after (p1 a) b valid_1 b_may in
          let own_2 = λ (card : Card) (own : set.contains t card ≡ true).
          has_without (without h a) b card holder (own_1 card own)
          (two_cards (without h a) card b holder second valid_1.apart (own_1 card own) (held_by (p1 a) b b_may)
          (λ e. turns_1 second (sym e ∙ is))) in
          let now : Turn (p2 a b) = record {
            valid = valid_2;
            turn = sym is;
            mine = λ card held. (without_had h a card holder (without_had (without h a) b card holder held).0).0;
            has_x = own_2 x x_own;
            has_z = own_2 z z_own;
          } in
          let choice = after_partner h w v t valid.apart shared x z x_own x_counted z_own z_not (p2 a b) now a in
          let none = not_own strain holder h w v t valid.apart shared a leader held_a
          (λ e. turns_2 leader (e ∙ is)) in
          goes_on (side_of holder) (suc k) (p1 a) b valid_1 b_may (omega arith)
          (one_plays (side_of holder) (suc k) (p2 a b) choice.0 valid_2 choice.1 (ap side_of (sym is))
          (side_third side a b choice.0 (record { a_may = a_may; b_may = b_may; c_may = choice.1 })
          (omega (arith, choice.2.0)) (omega (arith, choice.2.1, none)))))))

      fourth_hand : holder ≡ fourth → Takes p0
      fourth_hand is =
          let side = sym (partners second) ∙ ap side_of (sym is) in
          let four = four_times p0 valid in
          all_play (side_of holder) (suc k) p0 valid some (λ a a_may.
          let valid_1 = position_after p0 a valid a_may in
          let less_1 = one_less_after p0 a valid a_may in
          let own_1 = λ (card : Card) (own : set.contains t card ≡ true).
          has_without h a card holder (shared.own card own)
          (two_cards h card a holder leader valid.apart (shared.own card own) (held_by p0 a a_may)
          (λ e. turns_3 leader (sym e ∙ is))) in
          goes_on (side_of holder) (suc k) p0 a valid a_may (omega arith)
          (all_play (side_of holder) (suc k) (p1 a) valid_1 (omega (arith, some, four, less_1)) (λ b b_may.
          let valid_2 = position_after (p1 a) b valid_1 b_may in
          let less_2 = one_less_after (p1 a) b valid_1 b_may in
          let own_2 = λ (card : Card) (own : set.contains t card ≡ true).
          has_without (without h a) b card holder (own_1 card own)
          (two_cards (without h a) card b holder second valid_1.apart (own_1 card own) (held_by (p1 a) b b_may)
          (λ e. turns_2 second (sym e ∙ is))) in
          goes_on (side_of holder) (suc k) (p1 a) b valid_1 b_may (omega arith)
          (all_play (side_of holder) (suc k) (p2 a b) valid_2 (omega (arith, some, four, less_1, less_2)) (λ c c_may.
          let valid_3 = position_after (p2 a b) c valid_2 c_may in
          let plays : ArePlays a b c = record { a_may = a_may; b_may = b_may; c_may = c_may } in
          let own_3 = λ (card : Card) (own : set.contains t card ≡ true).
          has_without (without (without h a) b) c card holder (own_2 card own)
          (two_cards (without (without h a) b) card c holder third valid_2.apart (own_2 card own)
          (held_by (p2 a b) c c_may) (λ e. turns_1 third (sym e ∙ is))) in
          let now : Turn (p3 a b c) = record {
            valid = valid_3;
            turn = sym is;
            mine = λ card held. (without_had h a card holder (without_had (without h a) b card holder
                (without_had (without (without h a) b) c card holder held).0).0).0;
            has_x = own_3 x x_own;
            has_z = own_3 z z_own;
          } in
          let choice = after_partner h w v t valid.apart shared x z x_own x_counted z_own z_not (p3 a b c) now b in
          let none = not_own strain holder h w v t valid.apart shared b second
          (came a b c choice.0 plays choice.1).second (λ e. turns_2 second (e ∙ is)) in
          goes_on (side_of holder) (suc k) (p2 a b) c valid_2 c_may (omega arith)
          (one_plays (side_of holder) (suc k) (p3 a b c) choice.0 valid_3 choice.1 (ap side_of (sym is))
          (side_fourth side a b c choice.0 plays choice.1 (omega (arith, choice.2.0))
          (omega (arith, choice.2.1, none)))))))))

      from_seat : Takes p0
      from_seat =
          elim (seat leader holder) [
            | inl is ↦ leads is
            | inr (inl is) ↦ second_hand is
            | inr (inr (inl is)) ↦ third_hand is
            | inr (inr (inr is)) ↦ fourth_hand is
          ]

  -- with at most so many cards left
  pub taken : (n j : ℕ) (h : Hands) (leader : Place) (w v t : Cards) → cards_left (at h strain leader []) ≤ n →
      IsPosition (at h strain leader []) → Shared strain holder h w v t → j + set.len v ≤ set.len w →
      j + set.len v ≤ set.len t → TakesAtLeast (side_of holder) j (at h strain leader [])
  taken n zero h leader w v t few valid shared many long = takes_none (side_of holder) (at h strain leader []) valid
  taken zero (suc k) h leader w v t few valid shared many long =
      let one = some_of t (λ none. omega (arith, long, none)) in
      absurd (omega (arith, few, some_left (at h strain leader []) holder one.0 (shared.own one.0 one.1)))
  taken (suc n) (suc k) h leader w v t few valid shared many long =
      let one = some_of t (λ none. omega (arith, long, none)) in
      let some = some_left (at h strain leader []) holder one.0 (shared.own one.0 one.1) in
      elim (some_out t w) [
        | inr all ↦
            longest.taken strain holder (suc n) (suc k) h leader t v few valid (record {
              held = shared.own;
              trumps = shared.own_trumps;
              lower = λ card other place in'. shared.lower card other place (all card in');
            }) (omega (arith, long))
        | inl z ↦ elim (in_both t w) [
          | inr none ↦
              subst (λ side. TakesAtLeast side (suc k) (at h strain leader [])) (partners holder)
              (longest.taken strain (partner strain holder) (suc n) (suc k) h leader w v few valid (record {
                held = λ card in'. elim (shared.held card in') [
                  | inl mine ↦ absurd (none card (shared.all card mine (shared.trumps card in')) in')
                  | inr theirs ↦ theirs
                ];
                trumps = shared.trumps;
                lower = λ card other place in' ne. shared.lower card other place in' (λ e. ne (e ∙ sym (partners holder)));
              }) (omega (arith, many)))
          | inl x ↦ from_seat n k h leader w v t few valid shared many long (taken n) some x.0 z.0 x.1 x.2 z.1 z.2
        ]
      ]
