use Rattle.std.proofs.lemmas.Bool.{or_right}
use Rattle.std.specs.FinSet as set
use Rattle.double_dummy.proofs.trick.settled.Goals as goal
use Rattle.position_patterns.proofs.SetLemmas.{inserted}

pub returns : goal.returns
returns c ownership =
    let top = inserted _ _ c.args.top c.insert.ensures in
    let all = c.insert.new.self in
    record {
      first = λ _. or_right (set.contains all c.args.a) _ top;
      second = λ _. or_right (set.contains all c.args.b) _ top;
      third = λ _. or_right (set.contains all c.args.c) _ top;
    }
