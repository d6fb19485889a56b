use Rattle.std.proofs.Common.{◌≡◌, ℤ, arith, rules, int_lt}
use Rattle.std.specs.Int.RustNames.{int_le}
use Rattle.std.specs.List.{count_by}
use Rattle.std.proofs.lemmas.List.Sorted.{IsPartitionPoint-from_clause}
use Rattle.scoring.proofs.MatchpointLemmas.{count_by-partition_point, parted_below, parted_to, count_by-le}
use Rattle.scoring.proofs.law78a.units_among.Goals as goal

-- the first partition point counts the scores below
beaten : (c : goal.After-partition_point-not_above) → count_by (λ other. int_lt other c.args.score) c.args.sorted.now ≡
    c.partition_point-beaten.result
beaten c =
    let below = λ (other : ℤ). int_lt other c.args.score in
    let point = IsPartitionPoint-from_clause below _ _ c.partition_point-beaten.ensures.partitioned
    (parted_below _ c.args.score c.requires.sorted) (λ a r q k. search rules) in
    count_by-partition_point below _ _ c.partition_point-beaten.ensures.bound point

-- the second counts those below and those equal
not_above : (c : goal.After-partition_point-not_above) → count_by (λ other. int_le other c.args.score) c.args.sorted.now
    ≡ c.partition_point-not_above.result
not_above c =
    let to = λ (other : ℤ). int_le other c.args.score in
    let point = IsPartitionPoint-from_clause to _ _ c.partition_point-not_above.ensures.partitioned
    (parted_to _ c.args.score c.requires.sorted) (λ a r q k. search rules) in
    count_by-partition_point to _ _ c.partition_point-not_above.ensures.bound point

pub overflow_sub-result : goal.overflow_sub-result
overflow_sub-result c =
    omega (arith, not_above c, count_by-le c.args.score c.args.sorted.now, c.requires.held)

pub returns : goal.returns
returns c =
    omega (arith, beaten c, not_above c, count_by-le c.args.score c.args.sorted.now, c.requires.held)
