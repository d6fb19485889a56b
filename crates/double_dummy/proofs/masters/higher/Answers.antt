use Rattle.double_dummy.proofs.RunLemmas.{none_in}
use Rattle.double_dummy.proofs.SureLemmas.{above_in, among_common}
use Rattle.double_dummy.proofs.masters.higher.Goals as goal

pub returns-clause-among : goal.returns-clause-among
returns-clause-among c =
    among_common c.args.mine c.of_suit-held.result c.upwards-reach.result c.common.result c.args.suit
    c.of_suit-held.ensures c.common.ensures

pub returns-clause-above : goal.returns-clause-above
returns-clause-above c =
    above_in c.args.mine c.args.others c.of_suit-held.result c.of_suit-against.result c.upwards-reach.result
    c.common.result c.args.suit c.from_number.result c.of_suit-held.ensures c.of_suit-against.ensures c.common.ensures
    c.upwards-reach.ensures.up c.upwards-reach.ensures.all (c.is_disjoint.ensures.0 c.if-not-is_disjoint.false)

pub returns-then-word-eq0-clause-among : goal.returns-then-word-eq0-clause-among
returns-then-word-eq0-clause-among c card held = absurd (none_in c.new.result card c.new.ensures held)

pub returns-then-word-eq0-clause-above : goal.returns-then-word-eq0-clause-above
returns-then-word-eq0-clause-above c card other held = absurd (none_in c.new.result card c.new.ensures held)

pub returns-then-word-clause-among : goal.returns-then-word-clause-among
returns-then-word-clause-among c card held = absurd (none_in c.new-then-word.result card c.new-then-word.ensures held)

pub returns-then-word-clause-above : goal.returns-then-word-clause-above
returns-then-word-clause-above c card other held =
    absurd (none_in c.new-then-word.result card c.new-then-word.ensures held)

pub returns-then-not-is_disjoint-clause-among : goal.returns-then-not-is_disjoint-clause-among
returns-then-not-is_disjoint-clause-among c card held =
    absurd (none_in c.new-then-not-is_disjoint.result card c.new-then-not-is_disjoint.ensures held)

pub returns-then-not-is_disjoint-clause-above : goal.returns-then-not-is_disjoint-clause-above
returns-then-not-is_disjoint-clause-above c card other held =
    absurd (none_in c.new-then-not-is_disjoint.result card c.new-then-not-is_disjoint.ensures held)
