-- The trumps of both partners, one of whom has as many trumps as are counted: what a trick leaves of them, where at most one
-- that is counted is played to it, and a trump of the longer hand only with it or as it.
use Rattle.std.proofs.Common.{◌≡◌, ◌≢◌, ◌⊎◌, ℕ, ◌+◌, ◌<◌, ◌≤◌, true, false, List, [], ◌∷◌, sym, ap, ◌∙◌, inl, inr, arith, cond, suc, refl}
use Rattle.std.proofs.lemmas.Bool.{cases_Bool, cond-false, cond-true, false_from_ne_true, true≢false}
use Rattle.std.specs.FinSet as set
use Rattle.cards.specs.declared.card.Card.{Card}
use Rattle.cards.specs.Cards.{Cards}
use Rattle.cards.specs.Rank.{height}
use Rattle.cards.proofs.CardBitsLemmas.{same_cards}
use Rattle.table_terms.specs.declared.place.Place.{Place}
use Rattle.table_terms.specs.declared.strain.Strain.{Strain}
use Rattle.table_terms.specs.Place.{left_of, side_of}
use Rattle.table_terms.specs.Strain.{trump_of}
use Rattle.cards.specs.Hands.{Hands, hand_of}
use Rattle.cards.specs.Play.{IsApart, IsPosition, is_trump, legal, strength_in, winner, without}
use Rattle.double_dummy_laws.proofs.BestLemmas.{Among}
use Rattle.double_dummy_laws.proofs.BestTrumpLemmas.{opponents, partners, side_of_first, side_of_fourth, side_of_second, side_of_third, trump_beats}
use Rattle.double_dummy_laws.proofs.CountLemmas.{has_less, has_same}
use Rattle.double_dummy_laws.proofs.GuardedTrumpLemmas.{two_cards}
use Rattle.double_dummy_laws.proofs.HandLemmas.{among_items, has_without, items_among, without_had}
use Rattle.double_dummy_laws.proofs.LongTrumpLemmas.{first_gone, fourth_gone, no_more_left, rest_of, second_gone, third_gone}
use Rattle.double_dummy_laws.proofs.TakingLemmas.{AreFrom, CardTakes, at, has_removed, removed_had, trick_over, trick_won}
use Rattle.double_dummy_laws.specs.SureTricks.{TakesAtLeast}

-- 1 where the card is among these, else 0
abbrev pub hit : Cards → Card → ℕ
hit s card = cond (set.contains s card) 1 0

-- how many of four cards are among these
abbrev pub hits : Cards → Card → Card → Card → Card → ℕ
hits s a b c d = hit s a + hit s b + hit s c + hit s d

pub hit_in : (s : Cards) (card : Card) → set.contains s card ≡ true → hit s card ≡ 1
hit_in s card in' = cond-true _ _ _ in'

pub hit_out : (s : Cards) (card : Card) → set.contains s card ≡ false → hit s card ≡ 0
hit_out s card out = cond-false _ _ _ out

pub hit_small : (s : Cards) (card : Card) → hit s card ≤ 1
hit_small s card = elim (cases_Bool (set.contains s card))
    [ inl in' ↦ omega (arith, hit_in s card in') | inr out ↦ omega (arith, hit_out s card out) ]

removed_hit : (s : Cards) (gone card : Card) → hit (set.remove s gone) card ≤ hit s card
removed_hit s gone card = elim (cases_Bool (set.contains (set.remove s gone) card)) [
  | inl in' ↦ omega (arith, hit_in (set.remove s gone) card in', hit_in s card (removed_had s gone card in').0)
  | inr out ↦ omega (arith, hit_out (set.remove s gone) card out)
]

less_by_hit : (s : Cards) (card : Card) → set.len s ≤ set.len (set.remove s card) + hit s card
less_by_hit s card = elim (cases_Bool (set.contains s card)) [
  | inl in' ↦ omega (arith, has_less s card in', hit_in s card in')
  | inr out ↦ omega (arith, has_same s card out)
]

-- a trick takes as many away as its cards are among these
less_by_hits : (s : Cards) (a b c d : Card) → set.len s ≤ set.len (rest_of s a b c d) + hits s a b c d
less_by_hits s a b c d =
    let s1 = set.remove s a in
    let s2 = set.remove s1 b in
    let s3 = set.remove s2 c in
    omega (
      arith,
      less_by_hit s a,
      less_by_hit s1 b,
      less_by_hit s2 c,
      less_by_hit s3 d,
      removed_hit s a b,
      removed_hit s1 b c,
      removed_hit s a c,
      removed_hit s2 c d,
      removed_hit s1 b d,
      removed_hit s a d,
    )

-- a card of a set that is not among others, or all of them are
pub some_out : (s others : Cards) →
    ((card : Card) × (set.contains s card ≡ true) × (set.contains others card ≡ false))
    ⊎ ((card : Card) → set.contains s card ≡ true → set.contains others card ≡ true)
some_out s others =
    elim (look (set.items s)) [
      | inl found ↦ inl (found.0, items_among s found.0 found.1, found.2)
      | inr all ↦ inr (λ card in'. all card (among_items s card in'))
    ]
  where
    look : (items : List Card) → ((card : Card) × Among card items × (set.contains others card ≡ false))
        ⊎ ((card : Card) → Among card items → set.contains others card ≡ true)
    look [] = inr (λ card none. absurd none)
    look (first ∷ rest) =
        elim (cases_Bool (set.contains others first)) [
          | inr out ↦ inl (first, inl refl, out)
          | inl in' ↦ elim (look rest) [
            | inl found ↦ inl (found.0, inr found.1, found.2)
            | inr all ↦ inr (λ card among. elim among [
              | inl e ↦ ap (set.contains others) e ∙ in'
              | inr later ↦ all card later
            ])
          ]
        ]

-- another player's hand stays what it is
pub untouched : (h : Hands) (gone : Card) (from place : Place) → IsApart h → set.contains (hand_of h from) gone ≡ true →
    from ≢ place → hand_of (without h gone) place ≡ hand_of h place
untouched h gone from place apart held ne =
    same_cards (hand_of (without h gone) place) (hand_of h place) (λ card.
    elim (cases_Bool (set.contains (hand_of h place) card)) [
      | inl in' ↦ has_without h gone card place in'
          (λ e. two_cards h gone card from place apart held in' ne (sym e)) ∙ sym in'
      | inr out ↦ false_from_ne_true _ (λ there.
          true≢false (sym (without_had h gone card place there).0 ∙ out)) ∙ sym out
    ])

module _ (strain : Strain) (holder : Place) where
  abbrev pub partner : Place
  partner = left_of (left_of holder)

  -- the trumps of both partners that are counted, those that may beat them, and all trumps of one
  pub record Shared (h : Hands) (w v t : Cards) : Type 0 where
    pub held : (card : Card) → set.contains w card ≡ true →
        (set.contains (hand_of h holder) card ≡ true) ⊎ (set.contains (hand_of h partner) card ≡ true)
    pub trumps : (card : Card) → set.contains w card ≡ true → is_trump (trump_of strain) card ≡ true
    pub lower : (card other : Card) (place : Place) → set.contains w card ≡ true →
        side_of place ≢ side_of holder → set.contains (hand_of h place) other ≡ true →
        is_trump (trump_of strain) other ≡ true →
        (set.contains v other ≡ true) ⊎ (height other.rank < height card.rank)
    pub own : (card : Card) → set.contains t card ≡ true → set.contains (hand_of h holder) card ≡ true
    pub own_trumps : (card : Card) → set.contains t card ≡ true → is_trump (trump_of strain) card ≡ true
    pub all : (card : Card) → set.contains (hand_of h holder) card ≡ true → is_trump (trump_of strain) card ≡ true →
        set.contains t card ≡ true

  pub shared_without : (h : Hands) (w v t : Cards) (gone : Card) → Shared h w v t →
      Shared (without h gone) (set.remove w gone) (set.remove v gone) (set.remove t gone)
  shared_without h w v t gone shared = record {
    held = λ card in'. let had = removed_had w gone card in' in
        elim (shared.held card had.0) [
          | inl mine ↦ inl (has_without h gone card holder mine had.1)
          | inr theirs ↦ inr (has_without h gone card partner theirs had.1)
        ];
    trumps = λ card in'. shared.trumps card (removed_had w gone card in').0;
    lower = λ card other place in' ne there is.
        let was = without_had h gone other place there in
        elim (shared.lower card other place (removed_had w gone card in').0 ne was.0 is) [
          | inl beats ↦ inl (has_removed v gone other beats was.1)
          | inr less ↦ inr less
        ];
    own = λ card in'. let had = removed_had t gone card in' in
        has_without h gone card holder (shared.own card had.0) had.1;
    own_trumps = λ card in'. shared.own_trumps card (removed_had t gone card in').0;
    all = λ card there is. let had = without_had h gone card holder there in
        has_removed t gone card (shared.all card had.0 is) had.1;
  }

  module _ (h : Hands) (w v t : Cards) (apart : IsApart h) (shared : Shared h w v t) where
    -- a card that is counted is the side's
    side_from : (card : Card) (place : Place) → set.contains (hand_of h place) card ≡ true →
        set.contains w card ≡ true → side_of place ≡ side_of holder
    side_from card place held in' =
        elim (shared.held card in') [
          | inl mine ↦ ap side_of (apart place holder card held mine)
          | inr theirs ↦ ap side_of (apart place partner card held theirs) ∙ partners holder
        ]

    pub not_theirs : (card : Card) (place : Place) → set.contains (hand_of h place) card ≡ true →
        side_of place ≢ side_of holder → hit w card ≡ 0
    not_theirs card place held ne = hit_out w card (false_from_ne_true _ (λ in'. ne (side_from card place held in')))

    pub not_own : (card : Card) (place : Place) → set.contains (hand_of h place) card ≡ true → place ≢ holder →
        hit t card ≡ 0
    not_own card place held ne =
        hit_out t card (false_from_ne_true _ (λ in'. ne (apart place holder card held (shared.own card in'))))

    -- what isn't one of the holder's trumps isn't counted
    pub no_trump : (card : Card) → set.contains (hand_of h holder) card ≡ true → set.contains t card ≡ false →
        hit w card ≡ 0
    no_trump card held out =
        hit_out w card (false_from_ne_true _ (λ in'.
        true≢false (sym (shared.all card held (shared.trumps card in')) ∙ out)))

    -- a card of an opponent may beat one that is counted, or it doesn't
    beats_or : (led card other : Card) (place : Place) → set.contains w card ≡ true → side_of place ≢ side_of holder →
        set.contains (hand_of h place) other ≡ true →
        (set.contains v other ≡ true) ⊎ (strength_in strain led other < strength_in strain led card)
    beats_or led card other place in' ne there =
        elim (cases_Bool (is_trump (trump_of strain) other)) [
          | inl is ↦ elim (shared.lower card other place in' ne there is) [
            | inl beats ↦ inl beats
            | inr less ↦ inr (trump_beats (trump_of strain) led.suit other card (shared.trumps card in') (λ also. less))
          ]
          | inr plain ↦ inr (trump_beats (trump_of strain) led.suit other card (shared.trumps card in')
              (λ is. absurd (true≢false (sym is ∙ plain))))
        ]

  module _ (k : ℕ) (h : Hands) (leader : Place) (w v t : Cards) (a b c d : Card) (valid
      : IsPosition (at (without (without (without h a) b) c) strain leader (a ∷ b ∷ c ∷ []))) (may
      : set.contains (legal (at (without (without (without h a) b) c) strain leader (a ∷ b ∷ c ∷ []))) d ≡ true) (many
      : suc k + set.len v ≤ set.len w) (long : suc k + set.len v ≤ set.len t) (next : (j : ℕ) →
      j + set.len (rest_of v a b c d) ≤ set.len (rest_of w a b c d) →
      j + set.len (rest_of v a b c d) ≤ set.len (rest_of t a b c d) → TakesAtLeast (side_of holder) j
      (at (without (without (without (without h a) b) c) d) strain (winner strain leader a b c d) [])) where
    -- no trump of these was played
    calm : hits w a b c d ≡ 0 → hits t a b c d ≡ 0 →
        CardTakes (side_of holder) (suc k) (at (without (without (without h a) b) c) strain leader (a ∷ b ∷ c ∷ [])) d
    calm none also =
        let fewer = no_more_left v a b c d in
        trick_over (side_of holder) (suc k) (without (without (without h a) b) c) strain leader a b c d valid may
        (next (suc k) (omega (arith, many, fewer, none, less_by_hits w a b c d))
        (omega (arith, long, fewer, also, less_by_hits t a b c d)))

    -- one of them was: a trump of the opponents beats it, or it takes the trick
    settle : (y z : Card) → hits w a b c d ≤ 1 → hits t a b c d ≤ 1 →
        (set.contains v y ≡ true → set.len (rest_of v a b c d) < set.len v) →
        (set.contains v z ≡ true → set.len (rest_of v a b c d) < set.len v) → (x : Card) →
        (set.contains v y ≡ true) ⊎ (strength_in strain a y < strength_in strain a x) →
        (set.contains v z ≡ true) ⊎ (strength_in strain a z < strength_in strain a x) →
        (strength_in strain a y < strength_in strain a x → strength_in strain a z < strength_in strain a x →
        side_of (winner strain leader a b c d) ≡ side_of holder) →
        CardTakes (side_of holder) (suc k) (at (without (without (without h a) b) c) strain leader (a ∷ b ∷ c ∷ [])) d
    settle y z one also y_gone z_gone x y_or z_or won =
        let fewer = no_more_left v a b c d in
        let less_w = less_by_hits w a b c d in
        let less_t = less_by_hits t a b c d in
        let over = λ (beaten : set.len (rest_of v a b c d) < set.len v).
        trick_over (side_of holder) (suc k) (without (without (without h a) b) c) strain leader a b c d valid may
        (next (suc k) (omega (arith, many, one, less_w, beaten)) (omega (arith, long, also, less_t, beaten))) in
        elim y_or [
          | inl beats ↦ over (y_gone beats)
          | inr y_less ↦ elim z_or [
            | inl beats ↦ over (z_gone beats)
            | inr z_less ↦
                trick_won (side_of holder) k (without (without (without h a) b) c) strain leader a b c d valid may
                (won y_less z_less)
                (next k (omega (arith, many, one, less_w, fewer)) (omega (arith, long, also, less_t, fewer)))
          ]
        ]

    pub ends : IsApart h → Shared h w v t → AreFrom h leader a b c d → hits w a b c d ≤ 1 →
        hits t a b c d ≤ hits w a b c d →
        CardTakes (side_of holder) (suc k) (at (without (without (without h a) b) c) strain leader (a ∷ b ∷ c ∷ [])) d
    ends apart shared from one fits =
        let second = left_of leader in
        let third = left_of second in
        let fourth = left_of third in
        let also : hits t a b c d ≤ 1 = omega (arith, one, fits) in
        let b_gone = λ (in' : set.contains v b ≡ true). second_gone v a b c d in' from.ba in
        let c_gone = λ (in' : set.contains v c ≡ true). third_gone v a b c d in' from.ca from.cb in
        let d_gone = λ (in' : set.contains v d ≡ true). fourth_gone v a b c d in' from.da from.db from.dc in
        elim (cases_Bool (set.contains w a)) [
          | inl in' ↦
              let side = side_from h w v t apart shared a leader from.first in' in
              settle b d one also b_gone d_gone a
              (beats_or h w v t apart shared a a b second in' (λ e. opponents leader (e ∙ sym side)) from.second)
              (beats_or h w v t apart shared a a d fourth in'
              (λ e. opponents third (e ∙ sym side ∙ sym (partners leader))) from.fourth)
              (λ first last. side_of_first leader _ _ _ _ first last ∙ side)
          | inr out_a ↦ elim (cases_Bool (set.contains w b)) [
            | inl in' ↦
                let side = side_from h w v t apart shared b second from.second in' in
                settle a c one also (first_gone v a b c d) c_gone b
                (beats_or h w v t apart shared a b a leader in' (λ e. opponents leader (side ∙ sym e)) from.first)
                (beats_or h w v t apart shared a b c third in' (λ e. opponents second (e ∙ sym side)) from.third)
                (λ first last. side_of_second leader _ _ _ _ first last ∙ side)
            | inr out_b ↦ elim (cases_Bool (set.contains w c)) [
              | inl in' ↦
                  let side = side_from h w v t apart shared c third from.third in' in
                  settle b d one also b_gone d_gone c
                  (beats_or h w v t apart shared a c b second in' (λ e. opponents second (side ∙ sym e)) from.second)
                  (beats_or h w v t apart shared a c d fourth in' (λ e. opponents third (e ∙ sym side)) from.fourth)
                  (λ first last. side_of_third leader _ _ _ _ first last ∙ sym (partners leader) ∙ side)
              | inr out_c ↦ elim (cases_Bool (set.contains w d)) [
                | inl in' ↦
                    let side = side_from h w v t apart shared d fourth from.fourth in' in
                    settle a c one also (first_gone v a b c d) c_gone d
                    (beats_or h w v t apart shared a d a leader in'
                    (λ e. opponents third (side ∙ sym e ∙ sym (partners leader))) from.first)
                    (beats_or h w v t apart shared a d c third in' (λ e. opponents third (side ∙ sym e)) from.third)
                    (λ first last. side_of_fourth leader _ _ _ _ first last ∙ sym (partners second) ∙ side)
                | inr out_d ↦
                    let none : hits w a b c d ≡ 0 =
                    omega (arith, hit_out w a out_a, hit_out w b out_b, hit_out w c out_c, hit_out w d out_d) in
                    calm none (omega (arith, none, fits))
              ]
            ]
          ]
        ]
