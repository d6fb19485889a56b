use Rattle.double_dummy.proofs.RunLemmas.{none_in, none_parts}
use Rattle.double_dummy.proofs.run.stretch.Goals as goal

pub returns-then-not-are_in_order : goal.returns-then-not-are_in_order
returns-then-not-are_in_order c other between _ held = absurd (none_in c.new.result other c.new.ensures held)

pub returns-then-not-is_disjoint : goal.returns-then-not-is_disjoint
returns-then-not-is_disjoint c other between _ held =
    absurd (none_in c.new-then-not-is_disjoint.result other c.new-then-not-is_disjoint.ensures held)

pub returns : goal.returns
returns c =
    none_parts c.args.low c.args.high c.args.card c.args.parting c.between-inner.result c.insert.new.self
    c.insert-2.new.self c.between-inner.ensures c.insert.ensures c.insert-2.ensures
    (c.is_disjoint.ensures.0 c.if-not-is_disjoint.false) (c.are_in_order.ensures.from c.if-not-are_in_order.false)
    (c.are_in_order.ensures.to c.if-not-are_in_order.false)
