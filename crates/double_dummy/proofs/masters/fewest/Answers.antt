use Rattle.std.proofs.Common.{ap, arith}
use Rattle.std.specs.FinSet as set
use Rattle.double_dummy.proofs.masters.fewest.Goals as goal
use Rattle.double_dummy_laws.proofs.CountLemmas.{has_less}
use Rattle.position_patterns.proofs.SetLemmas.{had}

pub loop-rest-init : goal.loop-rest-init
loop-rest-init c card held = held

pub loop-rest-preserved : goal.loop-rest-preserved
loop-rest-preserved c card held =
    c.loop-rest.invariant card (had _ _ c.in-Some.card card c.remove.ensures held).0

pub loop-rest-smaller : goal.loop-rest-smaller
loop-rest-smaller c =
    omega (arith, has_less c.loop-rest.rest c.in-Some.card c.in-Some.ensures.some, ap set.len c.remove.ensures)

pub returns : goal.returns
returns c = c.loop-rest.invariant
