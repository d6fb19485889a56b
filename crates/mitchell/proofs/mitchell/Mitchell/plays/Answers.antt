use Rattle.mitchell.proofs.PlaysLemmas.{plays_with_both, plays_without}
use Rattle.mitchell.proofs.mitchell.Mitchell.plays.Goals as goal

pub returns-then-not-is_absent : goal.returns-then-not-is_absent
returns-then-not-is_absent c =
    plays_with_both c.args.self c.ew_at-east_west.ensures.section c.args.table c.args.round c.ew_at-east_west.result
    c.ew_at-east_west.ensures.row c.is_absent.result c.is_absent-then-not-is_absent.result c.is_absent.ensures
    c.is_absent-then-not-is_absent.ensures c.if-not-is_absent.true

pub returns-else-not-is_absent : goal.returns-else-not-is_absent
returns-else-not-is_absent c =
    plays_without c.args.self c.ew_at-east_west.ensures.section c.args.table c.args.round c.ew_at-east_west.result
    c.ew_at-east_west.ensures.row c.is_absent.result c.is_absent.ensures c.if-not-is_absent.false
