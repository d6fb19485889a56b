use Rattle.std.proofs.Common.{◌∙◌, sym}
use Rattle.std.proofs.lemmas.Bool.{iff_false}
use Rattle.std.specs.FinSet as set
use Rattle.cards.specs.Hands.{Hands}
use Rattle.cards.specs.Play.{Position}
use Rattle.cards.specs.Position.{position_of}
use Rattle.cards.proofs.PositionLemmas.{
  apart_from_pairs,
  pairs_of_apart,
  under_way_from_tests,
  tests_of_under_way,
  equal_from_tests,
  tests_of_equal,
}
use Rattle.cards.proofs.position.Position.new.Goals as goal

pub returns-then-not-no_two_share-clause-err : goal.returns-then-not-no_two_share-clause-err
returns-then-not-no_two_share-clause-err c valid =
    iff_false c.no_two_share.ensures c.if-not-no_two_share.true (pairs_of_apart _ valid.apart)

pub returns-then-not-are_elsewhere-clause-err : goal.returns-then-not-are_elsewhere-clause-err
returns-then-not-are_elsewhere-clause-err c valid =
    let hands : Hands = record { north = c.args.north; east = c.args.east; south = c.args.south; west = c.args.west } in
    let held = c.union-held.ensures ∙ (λ i. set.union (c.union.ensures i) (c.union-2.ensures i)) in
    iff_false c.are_elsewhere.ensures c.if-not-are_elsewhere.true
    (tests_of_under_way hands c.in-Some.trick c.args.table.now c.union-held.result c.in-Some.ensures.trick (sym held)
    valid.trick)

pub returns-then-not-are_equal-clause-err : goal.returns-then-not-are_equal-clause-err
returns-then-not-are_equal-clause-err c valid =
    let hands : Hands = record { north = c.args.north; east = c.args.east; south = c.args.south; west = c.args.west } in
    let p : Position = record {
      hands = hands;
      strain = c.args.strain;
      leader = c.args.leader;
      table =
          c.args.table.now;
    } in
    iff_false c.are_equal.ensures c.if-not-are_equal.true (tests_of_equal p _ c.in-Some.ensures.trick valid)

pub invariant_of-result : goal.invariant_of-result
invariant_of-result c =
    let p = position_of (record {
      north = c.args.north;
      east = c.args.east;
      south = c.args.south;
      west = c.args.west;
      strain = c.args.strain;
      leader = c.args.leader;
      trick = c.in-Some.trick;
    }) in
    let held = c.union-held.ensures ∙ (λ i. set.union (c.union.ensures i) (c.union-2.ensures i)) in
    record {
      apart = apart_from_pairs p.hands (c.no_two_share.ensures.0 c.if-not-no_two_share.false);
      trick = under_way_from_tests p.hands c.in-Some.trick c.union-held.result (sym held)
          (c.are_elsewhere.ensures.0 c.if-not-are_elsewhere.false);
      equal = equal_from_tests p (c.are_equal.ensures.0 c.if-not-are_equal.false);
    }

pub returns-clause-position : goal.returns-clause-position
returns-clause-position c = invariant_of-result c
