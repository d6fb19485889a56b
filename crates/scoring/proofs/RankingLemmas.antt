-- The ranking is a strict total order, key by key.
use Rattle.std.proofs.Common.{◌≡◌, ℕ, ◌*◌, ◌<◌, ◌≤◌, ◌⊎◌, ◌↔◌, inl, inr, refl, ap, ◌∙◌, arith}
use Rattle.std.proofs.Math.Nat.{mul-lt-mul_of_pos_right, lt_of_mul-lt-mul_right}
use Rattle.std.proofs.lemmas.Nat.{mul-le}
use Rattle.std.proofs.lemmas.Bool.{cases_lt, cases_order}
use Rattle.std.specs.declared.cmp.Ordering.{Ordering}
use Rattle.std.specs.declared.cmp.Ordering.TheVariants.{Less, Equal, Greater}
use Rattle.std.specs.Ordering.{MatchOrdering, ordering_then, nat_cmp}
use Rattle.std.specs.Cmp.{ranked}
use Rattle.table_terms.specs.declared.side.Side.{Side}
use Rattle.table_terms.specs.declared.side.Side.TheVariants.{NorthSouth, EastWest}
use Rattle.scoring.specs.declared.standing.Standing.{Standing}
use Rattle.scoring.specs.Ranking.{
  Key,
  ByPercentage,
  BySide,
  ByNumber,
  ByTops,
  ByEarned,
  key_order,
  HasHigherPercentage,
  place_of_side,
  IsBefore,
  IsTied,
  RanksBefore,
}

-- ---- each key alone

-- of two standings at most one comes before the other
before-asym : (key : Key) (a b : Standing) → IsBefore key a b → IsBefore key b a → ⊥
before-asym ByPercentage a b (a_tops, inl none) (b_tops, other) = omega arith
before-asym ByPercentage a b (a_tops, inr more) (b_tops, inl none) = omega arith
before-asym ByPercentage a b (a_tops, inr more) (b_tops, inr less) = omega arith
before-asym BySide a b h g = omega arith
before-asym ByNumber a b h g = omega arith
before-asym ByTops a b h g = omega arith
before-asym ByEarned a b h g = omega arith

-- fractions: b is no smaller than a, and a is greater than c
cross : (ae at be bt ce ct : ℕ) → 0 < bt → ae * bt ≤ be * at → ce * at < ae * ct → ce * bt < be * ct
cross ae at be bt ce ct some low high =
    let scaled = mul-lt-mul_of_pos_right high some in
    let other = mul-le (ae * bt) ct (be * at) ct low (omega arith) in
    lt_of_mul-lt-mul_right at (omega arith)

higher-split : (a b c : Standing) → 0 < b.tops → a.earned * b.tops ≤ b.earned * a.tops → HasHigherPercentage a c →
    HasHigherPercentage b c
higher-split a b c some low (a_tops, inl none) = (some, inl none)
higher-split a b c some low (a_tops, inr more) =
    (some, inr (cross a.earned a.tops b.earned b.tops c.earned c.tops some low more))

-- what comes before c comes before b, or b comes before c
before-split : (key : Key) (a b c : Standing) → IsBefore key a c → (IsBefore key a b) ⊎ (IsBefore key b c)
before-split ByPercentage a b c h =
    elim (cases_lt 0 b.tops) [
      | inr none ↦ inl (h.0, inl (omega arith))
      | inl some ↦ elim (cases_lt (b.earned * a.tops) (a.earned * b.tops)) [
        | inl more ↦ inl (h.0, inr more)
        | inr low ↦ inr (higher-split a b c some low h)
      ]
    ]
before-split BySide a b c h = elim (cases_lt (place_of_side a.pair.side) (place_of_side b.pair.side))
    [ inl l ↦ inl l | inr g ↦ inr (omega arith) ]
before-split ByNumber a b c h = elim (cases_lt a.pair.number b.pair.number) [
  | inl l ↦ inl l
  | inr g ↦ inr (omega arith)
]
before-split ByTops a b c h = elim (cases_lt a.tops b.tops) [ inl l ↦ inl l | inr g ↦ inr (omega arith) ]
before-split ByEarned a b c h = elim (cases_lt a.earned b.earned) [ inl l ↦ inl l | inr g ↦ inr (omega arith) ]

before_tied : (key : Key) (a b c : Standing) → IsBefore key a b → IsTied key b c → IsBefore key a c
before_tied key a b c h tied = elim (before-split key a c b h) [ inl l ↦ l | inr r ↦ absurd (tied.1 r) ]

tied_before : (key : Key) (a b c : Standing) → IsTied key a b → IsBefore key b c → IsBefore key a c
tied_before key a b c tied h = elim (before-split key b a c h) [ inl l ↦ absurd (tied.1 l) | inr r ↦ r ]

before-trans : (key : Key) (a b c : Standing) → IsBefore key a b → IsBefore key b c → IsBefore key a c
before-trans key a b c h g = elim (before-split key a c b h) [ inl l ↦ l | inr r ↦ absurd (before-asym key b c g r) ]

tied-split : (key : Key) (a b c : Standing) → ¬ IsBefore key a b → ¬ IsBefore key b c → ¬ IsBefore key a c
tied-split key a b c f g h = elim (before-split key a b c h) [ inl l ↦ f l | inr r ↦ g r ]

tied-trans : (key : Key) (a b c : Standing) → IsTied key a b → IsTied key b c → IsTied key a c
tied-trans key a b c s t = (tied-split key a b c s.0 t.0, tied-split key c b a t.1 s.1)

-- ---- all keys in their order

same_key : (k l : Key) → key_order k ≡ key_order l → (P : Key → Type 0) → P k → P l
same_key ByPercentage ByPercentage e P h = h
same_key BySide BySide e P h = h
same_key ByNumber ByNumber e P h = h
same_key ByTops ByTops e P h = h
same_key ByEarned ByEarned e P h = h
same_key ByPercentage BySide e P h = absurd (omega arith)
same_key ByPercentage ByNumber e P h = absurd (omega arith)
same_key ByPercentage ByTops e P h = absurd (omega arith)
same_key ByPercentage ByEarned e P h = absurd (omega arith)
same_key BySide ByPercentage e P h = absurd (omega arith)
same_key BySide ByNumber e P h = absurd (omega arith)
same_key BySide ByTops e P h = absurd (omega arith)
same_key BySide ByEarned e P h = absurd (omega arith)
same_key ByNumber ByPercentage e P h = absurd (omega arith)
same_key ByNumber BySide e P h = absurd (omega arith)
same_key ByNumber ByTops e P h = absurd (omega arith)
same_key ByNumber ByEarned e P h = absurd (omega arith)
same_key ByTops ByPercentage e P h = absurd (omega arith)
same_key ByTops BySide e P h = absurd (omega arith)
same_key ByTops ByNumber e P h = absurd (omega arith)
same_key ByTops ByEarned e P h = absurd (omega arith)
same_key ByEarned ByPercentage e P h = absurd (omega arith)
same_key ByEarned BySide e P h = absurd (omega arith)
same_key ByEarned ByNumber e P h = absurd (omega arith)
same_key ByEarned ByTops e P h = absurd (omega arith)

pub ranks-asym : (a b : Standing) → RanksBefore a b → ¬ RanksBefore b a
ranks-asym a b r s =
    elim (cases_order (key_order r.key) (key_order s.key)) [
      | inl same ↦ before-asym s.key a b (same_key r.key s.key same (λ k. IsBefore k a b) r.before) s.before
      | inr apart ↦ elim apart [
        | inl sooner ↦ (s.earlier r.key sooner).1 r.before
        | inr later ↦ (r.earlier s.key later).1 s.before
      ]
    ]

pub ranks-trans : (a b c : Standing) → RanksBefore a b → RanksBefore b c → RanksBefore a c
ranks-trans a b c r s =
    elim (cases_order (key_order r.key) (key_order s.key)) [
      | inl same ↦ record {
        key = s.key;
        before = before-trans s.key a b c (same_key r.key s.key same (λ k. IsBefore k a b) r.before) s.before;
        earlier = λ other h. tied-trans other a b c (r.earlier other (omega arith)) (s.earlier other h);
      }
      | inr apart ↦ elim apart [
        | inl sooner ↦ record {
          key = r.key;
          before = before_tied r.key a b c r.before (s.earlier r.key sooner);
          earlier = λ other h. tied-trans other a b c (r.earlier other h) (s.earlier other (omega arith));
        }
        | inr later ↦ record {
          key = s.key;
          before = tied_before s.key a b c (r.earlier s.key later) s.before;
          earlier = λ other h. tied-trans other a b c (r.earlier other (omega arith)) (s.earlier other h);
        }
      ]
    ]

-- ---- the keys compared in turn

-- what a comparison by one key says
abbrev Compares : Key → Standing → Standing → Ordering → Type 0
Compares key a b o = MatchOrdering o (IsBefore key a b) (IsTied key a b) (IsBefore key b a)

-- what a comparison by all keys says
abbrev pub Ranks : Standing → Standing → Ordering → Type 0
Ranks a b o = MatchOrdering o (RanksBefore a b) ((key : Key) → IsTied key a b) (RanksBefore b a)

flip_tied : (key : Key) (a b : Standing) → IsTied key a b → IsTied key b a
flip_tied key a b t = (t.1, t.0)

first_key : (a b : Standing) (other : Key) → key_order other < 0 → IsTied other a b
first_key a b other h = absurd (omega arith)

second_key : (a b : Standing) → IsTied ByPercentage a b → (other : Key) → key_order other < 1 → IsTied other a b
second_key a b p ByPercentage h = p
second_key a b p BySide h = absurd (omega arith)
second_key a b p ByNumber h = absurd (omega arith)
second_key a b p ByTops h = absurd (omega arith)
second_key a b p ByEarned h = absurd (omega arith)

third_key : (a b : Standing) → IsTied ByPercentage a b → IsTied BySide a b → (other : Key) → key_order other < 2 →
    IsTied other a b
third_key a b p s ByPercentage h = p
third_key a b p s BySide h = s
third_key a b p s ByNumber h = absurd (omega arith)
third_key a b p s ByTops h = absurd (omega arith)
third_key a b p s ByEarned h = absurd (omega arith)

fourth_key : (a b : Standing) → IsTied ByPercentage a b → IsTied BySide a b → IsTied ByNumber a b → (other : Key) →
    key_order other < 3 → IsTied other a b
fourth_key a b p s n ByPercentage h = p
fourth_key a b p s n BySide h = s
fourth_key a b p s n ByNumber h = n
fourth_key a b p s n ByTops h = absurd (omega arith)
fourth_key a b p s n ByEarned h = absurd (omega arith)

fifth_key : (a b : Standing) → IsTied ByPercentage a b → IsTied BySide a b → IsTied ByNumber a b → IsTied ByTops a b →
    (other : Key) → key_order other < 4 → IsTied other a b
fifth_key a b p s n t ByPercentage h = p
fifth_key a b p s n t BySide h = s
fifth_key a b p s n t ByNumber h = n
fifth_key a b p s n t ByTops h = t
fifth_key a b p s n t ByEarned h = absurd (omega arith)

every_key : (a b : Standing) → IsTied ByPercentage a b → IsTied BySide a b → IsTied ByNumber a b → IsTied ByTops a b →
    IsTied ByEarned a b → (key : Key) → IsTied key a b
every_key a b p s n t e ByPercentage = p
every_key a b p s n t e BySide = s
every_key a b p s n t e ByNumber = n
every_key a b p s n t e ByTops = t
every_key a b p s n t e ByEarned = e

by_keys : (a b : Standing) (p s n t e : Ordering) → Compares ByPercentage a b p → Compares BySide a b s →
    Compares ByNumber a b n → Compares ByTops a b t → Compares ByEarned a b e →
    Ranks a b (ordering_then (ordering_then (ordering_then (ordering_then p s) n) t) e)
by_keys a b Less s n t e hp hs hn ht he = record { key = ByPercentage; before = hp; earlier = first_key a b }
by_keys a b Greater s n t e hp hs hn ht he = record { key = ByPercentage; before = hp; earlier = first_key b a }
by_keys a b Equal Less n t e hp hs hn ht he = record { key = BySide; before = hs; earlier = second_key a b hp }
by_keys a b Equal Greater n t e hp hs hn ht he = record {
  key = BySide;
  before = hs;
  earlier = second_key b a
      (flip_tied ByPercentage a b hp);
}
by_keys a b Equal Equal Less t e hp hs hn ht he = record { key = ByNumber; before = hn; earlier = third_key a b hp hs }
by_keys a b Equal Equal Greater t e hp hs hn ht he = record {
  key = ByNumber;
  before = hn;
  earlier = third_key b a
      (flip_tied ByPercentage a b hp) (flip_tied BySide a b hs);
}
by_keys a b Equal Equal Equal Less e hp hs hn ht he = record {
  key = ByTops;
  before = ht;
  earlier = fourth_key a b hp hs
      hn;
}
by_keys a b Equal Equal Equal Greater e hp hs hn ht he = record {
  key = ByTops;
  before = ht;
  earlier = fourth_key b a
      (flip_tied ByPercentage a b hp) (flip_tied BySide a b hs) (flip_tied ByNumber a b hn);
}
by_keys a b Equal Equal Equal Equal Less hp hs hn ht he = record {
  key = ByEarned;
  before = he;
  earlier =
      fifth_key a b hp hs hn ht;
}
by_keys a b Equal Equal Equal Equal Greater hp hs hn ht he = record {
  key = ByEarned;
  before = he;
  earlier =
      fifth_key b a (flip_tied ByPercentage a b hp) (flip_tied BySide a b hs) (flip_tied ByNumber a b hn)
      (flip_tied ByTops a b ht);
}
by_keys a b Equal Equal Equal Equal Equal hp hs hn ht he = every_key a b hp hs hn ht he

-- two numbers, compared as keys are
compared : (x y : ℕ) (o : Ordering) → MatchOrdering o (x < y) (x ≡ y) (y < x) → MatchOrdering o (x < y)
    ((¬ (x < y)) × (¬ (y < x))) (y < x)
compared x y Less h = h
compared x y Equal h = (λ l. omega arith, λ l. omega arith)
compared x y Greater h = h

pub ranks_from_comparisons : (a b : Standing) (p s n t e : Ordering) → Compares ByPercentage a b p →
    s ≡ nat_cmp (place_of_side a.pair.side) (place_of_side b.pair.side) → n ≡ nat_cmp a.pair.number b.pair.number →
    t ≡ nat_cmp a.tops b.tops → e ≡ nat_cmp a.earned b.earned →
    Ranks a b (ordering_then (ordering_then (ordering_then (ordering_then p s) n) t) e)
ranks_from_comparisons a b p s n t e hp hs hn ht he =
    by_keys a b p s n t e hp
    (compared _ _ s (ranked _ _ s hs))
    (compared _ _ n (ranked _ _ n hn))
    (compared _ _ t (ranked _ _ t ht))
    (compared _ _ e (ranked _ _ e he))

pub less_from_ranks : (a b : Standing) (o : Ordering) → Ranks a b o → (o ≡ Less) ↔ RanksBefore a b
less_from_ranks a b Less h = (λ _. h, λ _. refl)
less_from_ranks a b Equal h = (λ same. absurd (cc), λ r. absurd ((h r.key).0 r.before))
less_from_ranks a b Greater h = (λ same. absurd (cc), λ r. absurd (ranks-asym a b r h))

pub greater_from_ranks : (a b : Standing) (o : Ordering) → Ranks a b o → (o ≡ Greater) ↔ RanksBefore b a
greater_from_ranks a b Greater h = (λ _. h, λ _. refl)
greater_from_ranks a b Equal h = (λ same. absurd (cc), λ r. absurd ((h r.key).1 r.before))
greater_from_ranks a b Less h = (λ same. absurd (cc), λ r. absurd (ranks-asym b a r h))

-- ---- totality

by_percentage : (a b : Standing) → (o : Ordering) × Compares ByPercentage a b o
by_percentage a b =
    elim (cases_lt 0 a.tops) [
      | inr none ↦ elim (cases_lt 0 b.tops) [
        | inr also ↦ (Equal, (λ h. omega arith, λ h. omega arith))
        | inl some ↦ (Greater, (some, inl (omega arith)))
      ]
      | inl some ↦ elim (cases_lt (b.earned * a.tops) (a.earned * b.tops)) [
        | inl more ↦ (Less, (some, inr more))
        | inr low ↦ elim (cases_lt 0 b.tops) [
          | inr none ↦ (Less, (some, inl (omega arith)))
          | inl also ↦ elim (cases_lt (a.earned * b.tops) (b.earned * a.tops)) [
            | inl more ↦ (Greater, (also, inr more))
            | inr level ↦ (
              Equal,
              (
                λ h. elim (h.1) [ inl none ↦ omega arith | inr more ↦ omega arith ],
                λ h. elim (h.1) [ inl none ↦ omega arith | inr more ↦ omega arith ],
              ),
            )
          ]
        ]
      ]
    ]

same_side : (s t : Side) → ¬ (place_of_side s < place_of_side t) → ¬ (place_of_side t < place_of_side s) → s ≡ t
same_side NorthSouth NorthSouth f g = refl
same_side NorthSouth EastWest f g = absurd (f (omega arith))
same_side EastWest NorthSouth f g = absurd (g (omega arith))
same_side EastWest EastWest f g = refl

standing_of : Side → ℕ → ℕ → ℕ → Standing
standing_of s n e t = record { pair = record { side = s; number = n }; earned = e; tops = t }

same_standing : (a b : Standing) → ((key : Key) → IsTied key a b) → a ≡ b
unfolding standing_of
same_standing a b tied =
    let side = same_side a.pair.side b.pair.side (tied BySide).0 (tied BySide).1 in
    let number : a.pair.number ≡ b.pair.number = omega (arith, tied ByNumber) in
    let tops : a.tops ≡ b.tops = omega (arith, tied ByTops) in
    let earned : a.earned ≡ b.earned = omega (arith, tied ByEarned) in
    ap (λ s. standing_of s a.pair.number a.earned a.tops) side
    ∙ ap (λ n. standing_of b.pair.side n a.earned a.tops) number
    ∙ ap (λ e. standing_of b.pair.side b.pair.number e a.tops) earned
    ∙ ap (λ t. standing_of b.pair.side b.pair.number b.earned t) tops

total_from_ranks : (a b : Standing) (o : Ordering) → Ranks a b o → (RanksBefore a b) ⊎ ((a ≡ b) ⊎ RanksBefore b a)
total_from_ranks a b Less h = inl h
total_from_ranks a b Equal h = inr (inl (same_standing a b h))
total_from_ranks a b Greater h = inr (inr h)

pub ranks-total : (a b : Standing) → (RanksBefore a b) ⊎ ((a ≡ b) ⊎ RanksBefore b a)
ranks-total a b =
    let p = by_percentage a b in
    total_from_ranks a b _ (ranks_from_comparisons a b p.0 _ _ _ _ p.1 refl refl refl refl)
