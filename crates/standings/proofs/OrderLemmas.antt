-- The test of the order in which pairs rank decides that order.
use Rattle.std.proofs.Common.{◌≡◌, ◌*◌, Bool, true, false, refl, ◌∙◌, sym}
use Rattle.std.specs.Prelude.{cond, not, ◌&&◌, ◌||◌, nat_lt, nat_eq}
use Rattle.std.specs.Bool.{Decides}
use Rattle.std.specs.declared.cmp.Ordering.{Ordering}
use Rattle.std.specs.declared.cmp.Ordering.TheVariants.{Less, Equal, Greater}
use Rattle.std.specs.Ordering.{MatchOrdering, ordering_then}
use Rattle.std.proofs.lemmas.Bool.Decides.{Decides-and, Decides-or, Decides-ltb, Decides-eqb, not_from_Decides}
use Rattle.scoring.specs.declared.standing.Standing.{Standing}
use Rattle.scoring.specs.Ranking.{ByPercentage, place_of_side, HasHigherPercentage, IsBefore, IsTied, RanksBefore}
use Rattle.scoring.proofs.RankingLemmas.{ranks_from_comparisons, less_from_ranks}
use Rattle.standings.specs.Order.{has_higher_percentage, ranks_before}

higher_decides : (a b : Standing) → Decides (has_higher_percentage a b) (HasHigherPercentage a b)
higher_decides a b =
    Decides-and (nat_lt 0 a.tops) (nat_eq b.tops 0 || nat_lt (b.earned * a.tops) (a.earned * b.tops))
    (Decides-ltb 0 a.tops)
    (Decides-or (nat_eq b.tops 0) (nat_lt (b.earned * a.tops) (a.earned * b.tops)) (Decides-eqb b.tops 0)
    (Decides-ltb (b.earned * a.tops) (a.earned * b.tops)))

-- how two compare, by whether the one comes before, and if not whether neither does
abbrev compared : Bool → Bool → Ordering
compared before tied = cond before Less (cond tied Equal Greater)

by_percentage : (a b : Standing) (higher lower : Bool) → Decides higher (HasHigherPercentage a b) → Decides lower
    (HasHigherPercentage b a) →
    MatchOrdering (compared higher (not lower)) (IsBefore ByPercentage a b) (IsTied ByPercentage a b)
    (IsBefore ByPercentage b a)
by_percentage a b true lower h l = h.0 refl
by_percentage a b false true h l = l.0 refl
by_percentage a b false false h l = (not_from_Decides false h refl, not_from_Decides false l refl)

-- five comparisons in turn, as one
in_turn : (higher lower s1 s2 n1 n2 t1 t2 e1 e2 : Bool) →
    ordering_then (ordering_then (ordering_then (ordering_then (compared higher (not lower)) (compared s1 s2))
    (compared n1 n2)) (compared t1 t2)) (compared e1 e2)
    ≡ compared (higher || (not lower && (s1 || (s2 && (n1 || (n2 && (t1 || (t2 && e1))))))))
    (not lower && (s2 && (n2 && (t2 && e2))))
in_turn true lower s1 s2 n1 n2 t1 t2 e1 e2 = refl
in_turn false true s1 s2 n1 n2 t1 t2 e1 e2 = refl
in_turn false false true s2 n1 n2 t1 t2 e1 e2 = refl
in_turn false false false false n1 n2 t1 t2 e1 e2 = refl
in_turn false false false true true n2 t1 t2 e1 e2 = refl
in_turn false false false true false false t1 t2 e1 e2 = refl
in_turn false false false true false true true t2 e1 e2 = refl
in_turn false false false true false true false false e1 e2 = refl
in_turn false false false true false true false true e1 e2 = refl

less_from_true : (before tied : Bool) → Decides before (compared before tied ≡ Less)
less_from_true true tied = (λ _. refl, λ _. refl)
less_from_true false true = (λ test. absurd (cc), λ same. absurd (cc))
less_from_true false false = (λ test. absurd (cc), λ same. absurd (cc))

-- a ranks before b
pub ranks_decides : (a b : Standing) → Decides (ranks_before a b) (RanksBefore a b)
unfolding ranks_before
ranks_decides a b =
    let higher = has_higher_percentage a b in
    let lower = has_higher_percentage b a in
    let s1 = nat_lt (place_of_side a.pair.side) (place_of_side b.pair.side) in
    let s2 = nat_eq (place_of_side a.pair.side) (place_of_side b.pair.side) in
    let n1 = nat_lt a.pair.number b.pair.number in
    let n2 = nat_eq a.pair.number b.pair.number in
    let t1 = nat_lt a.tops b.tops in
    let t2 = nat_eq a.tops b.tops in
    let e1 = nat_lt a.earned b.earned in
    let e2 = nat_eq a.earned b.earned in
    let ranks = ranks_from_comparisons a b (compared higher (not lower)) _ _ _ _
    (by_percentage a b higher lower (higher_decides a b) (higher_decides b a)) refl refl refl refl in
    let less = less_from_ranks a b _ ranks in
    let turned = in_turn higher lower s1 s2 n1 n2 t1 t2 e1 e2 in
    let test = less_from_true (ranks_before a b) (not lower && (s2 && (n2 && (t2 && e2)))) in
    (λ yes. less.0 (turned ∙ test.0 yes), λ ranked. test.1 (sym turned ∙ less.1 ranked))
