use Rattle.double_dummy.proofs.RunnerLemmas.{runners_answer}
use Rattle.double_dummy.proofs.sure.by_masters.Goals as goal

pub returns : goal.returns
returns c =
    runners_answer c.args.position.now c.leader.result c.side-side.result c.in_ok-known.known c.answer.result.known
    c.args.target c.tricks_wanted.result c.answer.result.holds c.requires.start c.leader.ensures c.side-side.ensures
    c.in_ok-known.ensures
    (λ tricks. c.tricks_wanted.ensures c.args.position.now tricks c.requires.left) c.answer.ensures.holds
    c.answer.ensures.known
