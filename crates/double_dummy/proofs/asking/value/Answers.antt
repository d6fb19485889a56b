use Rattle.std.proofs.Common.{◌≡◌, ◌∙◌, ◌<◌, ◌≤◌, true, false, arith}
use Rattle.std.specs.Prelude.{nat_le}
use Rattle.std.proofs.lemmas.Bool.{leb-true, leb-false}
use Rattle.double_dummy.proofs.BoundLemmas.{position_bound}
use Rattle.double_dummy.proofs.asking.value.Goals as goal
use Rattle.double_dummy_laws.proofs.OwnerLemmas.{found_valid}
use Rattle.cards.specs.DoubleDummy.{double_dummy}

pub loop-low-init : goal.loop-low-init
loop-low-init c =
    let p = c.args.position.now in
    record {
      taken = omega arith;
      bound = position_bound p c.tricks_left-high.result c.tricks_left-high.ensures.position
          c.tricks_left-high.ensures.quarter;
      fits = omega arith;
      spent = omega arith;
    }

pub loop-low-preserved-then-found : goal.loop-low-preserved-then-found
loop-low-preserved-then-found c =
    let p = c.args.position.now in
    let asked = c.min-asked.result in
    let answer : nat_le asked (double_dummy p) ≡ true =
    found_valid p asked c.in-Ok.found.known c.in-Ok.found.holds c.tricks_left-high.ensures.position
    c.in-Ok.ensures.found ∙ c.if-found.true in
    let enough : asked ≤ double_dummy p = leb-true asked (double_dummy p) answer in
    let before = c.loop-low.invariant in
    record {
      taken = enough;
      bound = before.bound;
      fits = before.fits;
      spent =
          omega (arith, c.search.ensures.spent, before.spent);
    }

pub loop-low-preserved : goal.loop-low-preserved
loop-low-preserved c =
    let p = c.args.position.now in
    let asked = c.min-asked.result in
    let answer : nat_le asked (double_dummy p) ≡ false =
    found_valid p asked c.in-Ok.found.known c.in-Ok.found.holds c.tricks_left-high.ensures.position
    c.in-Ok.ensures.found ∙ c.if-found.false in
    let short : double_dummy p < asked = leb-false asked (double_dummy p) answer in
    let before = c.loop-low.invariant in
    record {
      taken = before.taken;
      bound = omega arith;
      fits = omega (arith, before.fits);
      spent = omega (arith, c.search.ensures.spent, before.spent);
    }
