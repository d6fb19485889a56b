-- Standings that are put in their places one by one stand in their order, each once.
use Rattle.std.proofs.Common.{
  ◌≡◌,
  ℕ,
  zero,
  suc,
  ◌+◌,
  ◌-◌,
  ◌<◌,
  ◌≤◌,
  Bool,
  true,
  false,
  cond,
  List,
  [],
  ◌∷◌,
  ◌++◌,
  length,
  drop,
  get_or,
  refl,
  sym,
  ap,
  ◌∙◌,
  subst,
  arith,
}
use Rattle.std.specs.Prelude.{if◌then◌else◌, All, map}
use Rattle.std.specs.List.{AllPairs, insert}
use Rattle.std.specs.List.Sorted.{IsPermutation}
use Rattle.std.proofs.lemmas.Bool.{false_from_ne_true}
use Rattle.std.proofs.lemmas.List.{drop_more, get_or_default}
use Rattle.std.proofs.lemmas.List.Elements.{All-nil, All-cons}
use Rattle.std.proofs.lemmas.List.Kept.{AllPairs-cons}
use Rattle.std.proofs.lemmas.List.Sorted.{
  IsPermutation-refl,
  IsPermutation-cons,
  IsPermutation-trans,
  IsPermutation-swap,
  All-permutation,
}
use Rattle.std.proofs.lemmas.Bool.Decides.{not_from_Decides}
use Rattle.table_terms.specs.declared.pair.Pair.{Pair}
use Rattle.table_terms.specs.declared.side.Side.{Side}
use Rattle.scoring.specs.declared.standing.Standing.{Standing}
use Rattle.scoring.specs.Ranking.{RanksBefore}
use Rattle.scoring.proofs.RankingLemmas.{ranks-asym, ranks-trans}
use Rattle.movement.specs.Movement.{Section, is_pair_of}
use Rattle.standings.specs.Order.{ranks_before}
use Rattle.standings.specs.declared.earning.Earning.{Earning}
use Rattle.standings.specs.Ranking.{pair_on, pairs_on, placed, ranked, standing_of}
use Rattle.standings.proofs.OrderLemmas.{ranks_decides}

-- ---- each once

exchanged : (a b : Standing) (rest : List Standing) → IsPermutation (a ∷ (b ∷ rest)) (b ∷ (a ∷ rest))
exchanged a b rest = IsPermutation-swap _ _ 0 1 (omega arith) (omega arith) refl

pub placed-permutation : (standing : Standing) (others : List Standing) → IsPermutation (standing ∷ others)
    (placed standing others)
placed-permutation standing [] = IsPermutation-refl (standing ∷ [])
placed-permutation standing (other ∷ others) = by_test (ranks_before standing other)
    (placed-permutation standing others)
  where
    by_test : (first : Bool) → IsPermutation (standing ∷ others) (placed standing others) →
        IsPermutation (standing ∷ (other ∷ others)) (if first then standing ∷ (other ∷ others) else other ∷ placed
        standing others)
    by_test true later = IsPermutation-refl (standing ∷ (other ∷ others))
    by_test false later = IsPermutation-trans _ _ _ (exchanged standing other others)
        (IsPermutation-cons other _ _ later)

pub ranked-permutation : (standings : List Standing) → IsPermutation standings (ranked standings)
unfolding ranked
ranked-permutation [] = IsPermutation-refl []
ranked-permutation (standing ∷ standings) =
    IsPermutation-trans _ _ _ (IsPermutation-cons standing _ _ (ranked-permutation standings))
    (placed-permutation standing (ranked standings))

-- ---- in their order

-- the later standing doesn't rank before the earlier one
abbrev pub StaysBehind : Standing → Standing → Type 0
StaysBehind earlier later = ¬ RanksBefore later earlier

-- what stays behind the first of some standings stays behind one that ranks before that one
all_behind : (standing other : Standing) (others : List Standing) → RanksBefore standing other → All (StaysBehind other)
    others → All (StaysBehind standing) others
all_behind standing other others before behind k d below ranks = behind k d below
    (ranks-trans _ standing other ranks before)

abbrev tail_pairs : (other : Standing) (others : List Standing) → AllPairs StaysBehind (other ∷ others) →
    AllPairs StaysBehind others
tail_pairs other others pairs i j d sooner below = pairs (suc i) (suc j) d (omega arith) (omega arith)

abbrev head_pairs : (other : Standing) (others : List Standing) → AllPairs StaysBehind (other ∷ others) →
    All (StaysBehind other) others
head_pairs other others pairs k d below = pairs 0 (suc k) d (omega arith) (omega arith)

pub placed-in_order : (standing : Standing) (others : List Standing) → AllPairs StaysBehind others →
    AllPairs StaysBehind (placed standing others)
placed-in_order standing [] pairs = AllPairs-cons StaysBehind standing [] (All-nil _) pairs
placed-in_order standing (other ∷ others) pairs =
    by_test (ranks_before standing other) refl (placed-in_order standing others (tail_pairs other others pairs))
  where
    behind : All (StaysBehind other) others
    behind = head_pairs other others pairs

    by_test : (first : Bool) → ranks_before standing other ≡ first → AllPairs StaysBehind (placed standing others) →
        AllPairs StaysBehind (if first then standing ∷ (other ∷ others) else other ∷ placed standing others)
    by_test true is later =
        let before = (ranks_decides standing other).0 is in
        AllPairs-cons StaysBehind standing (other ∷ others) (All-cons (StaysBehind standing) other others
        (ranks-asym standing other before) (all_behind standing other others before behind)) pairs
    by_test false is later =
        AllPairs-cons StaysBehind other (placed standing others)
        (All-permutation (StaysBehind other) (standing ∷ others) (placed standing others)
        (placed-permutation standing others)
        (All-cons (StaysBehind other) standing others (not_from_Decides (ranks_before standing other)
        (ranks_decides standing other) is) behind))
        later

pub ranked-in_order : (standings : List Standing) → AllPairs StaysBehind (ranked standings)
unfolding ranked
ranked-in_order [] = λ i j d sooner below. absurd (omega arith)
ranked-in_order (standing ∷ standings) = placed-in_order standing (ranked standings) (ranked-in_order standings)

-- ---- one by one

-- a standing stands behind those that it doesn't rank before, and before the next
pub placed_at : (standing : Standing) (others : List Standing) (place : ℕ) → place ≤ length others →
    ((k : ℕ) (d : Standing) → k < place → ¬ RanksBefore standing (get_or others k d)) →
    ((d : Standing) → place < length others → RanksBefore standing (get_or others place d)) →
    insert others place standing ≡ placed standing others
placed_at standing [] zero within passed next = refl
placed_at standing [] (suc place) within passed next = absurd (omega arith)
placed_at standing (other ∷ others) zero within passed next =
    sym (ap (λ first. if first then standing ∷ (other ∷ others) else other ∷ placed standing others)
    ((ranks_decides standing other).1 (next other (omega arith))))
placed_at standing (other ∷ others) (suc place) within passed next =
    ap (λ rest. other ∷ rest) (placed_at standing others place (omega arith)
    (λ k d below. passed (suc k) d (omega arith)) (λ d below. next d (omega arith)))
    ∙ sym (ap (λ first. if first then standing ∷ (other ∷ others) else other ∷ placed standing others)
    (false_from_ne_true _ (λ test. passed 0 other (omega arith) ((ranks_decides standing other).0 test))))

-- where a standing ranks before the one at a place, it does so whatever stands past the end
pub ranks_here : (standing : Standing) (others : List Standing) (place : ℕ) (d e : Standing) → place < length others →
    RanksBefore standing (get_or others place d) → RanksBefore standing (get_or others place e)
ranks_here standing others place d e below ranks = subst (RanksBefore standing) (get_or_default others place d e below)
    ranks

-- a number more of a side's pairs: the pair that has it is the first of them, where the section has it
pairs_from : (section : Section) (side : Side) (most before : ℕ) → before < most →
    pairs_on section side (most - (before + 1) + 1) (before + 1)
    ≡ cond (is_pair_of section (pair_on side (most - before)))
    (pair_on side (most - before) ∷ pairs_on section side (most - before + 1) before)
    (pairs_on section side (most - before + 1) before)
unfolding pairs_on
pairs_from section side most before below =
    ap (λ n. pairs_on section side n (before + 1)) first ∙ ap (pairs_on section side (most - before)) more
  where
    first : most - (before + 1) + 1 ≡ most - before
    first = omega arith

    more : before + 1 ≡ suc before
    more = omega arith

pub side_more : (earnings : List Earning) (section : Section) (side : Side) (most before : ℕ)
    (others : List Pair) → before < most → is_pair_of section (pair_on side (most - before)) ≡ true →
    placed (standing_of earnings (pair_on side (most - before)))
    (ranked (map (standing_of earnings) (pairs_on section side (most - before + 1) before ++ others)))
    ≡ ranked (map (standing_of earnings) (pairs_on section side (most - (before + 1) + 1) (before + 1) ++ others))
unfolding ranked
side_more earnings section side most before others below has =
    sym (ap (λ pairs. ranked (map (standing_of earnings) (pairs ++ others)))
    (rw has at (pairs_from section side most before below)))

-- and where the section hasn't it, nothing is more
pub side_same : (section : Section) (side : Side) (most before : ℕ) → before < most →
    is_pair_of section (pair_on side (most - before)) ≡ false →
    pairs_on section side (most - before + 1) before
    ≡ pairs_on section side (most - (before + 1) + 1) (before + 1)
side_same section side most before below missing = sym (rw missing at (pairs_from section side most before below))

pub no_pairs : (section : Section) (side : Side) (from : ℕ) → pairs_on section side from 0 ≡ []
unfolding pairs_on
no_pairs section side from = refl

-- no pair at all
pub none_ranked : (earnings : List Earning) → [] ≡ ranked (map (standing_of earnings) [])
unfolding ranked
none_ranked earnings = refl

-- ---- one by one from the end of a list

past_the_end : (standings : List Standing) → drop (length standings) standings ≡ []
past_the_end [] = refl
past_the_end (standing ∷ standings) = past_the_end standings

pub end_ranked : (standings : List Standing) → [] ≡ ranked (drop (length standings - 0) standings)
unfolding ranked
end_ranked standings =
    let all : length standings - 0 ≡ length standings = omega arith in
    sym (ap (λ n. ranked (drop n standings)) all ∙ ap ranked (past_the_end standings))

pub one_ranked : (standings : List Standing) (taken : ℕ) (standing : Standing) → taken < length standings →
    standing ≡ get_or standings (length standings - 1 - taken) standing →
    placed standing (ranked (drop (length standings - taken) standings)) ≡ ranked
    (drop (length standings - (taken + 1)) standings)
unfolding ranked
one_ranked standings taken standing below is =
    let place : length standings - 1 - taken ≡ length standings - (taken + 1) = omega arith in
    let next : length standings - (taken + 1) + 1 ≡ length standings - taken = omega (arith, below) in
    sym (ap ranked (drop_more standings (length standings - (taken + 1)) standing (omega (arith, below)))
    ∙ (λ i. placed (sym (is ∙ ap (λ n. get_or standings n standing) place) i) (ranked (drop (next i) standings))))
