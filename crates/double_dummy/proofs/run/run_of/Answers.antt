use Rattle.double_dummy.proofs.RunLemmas.{run_round}
use Rattle.position_patterns.proofs.SetLemmas.{inserted}
use Rattle.double_dummy.proofs.run.run_of.Goals as goal

pub returns-clause-run : goal.returns-clause-run
returns-clause-run c =
    run_round c.args.position.now c.args.others c.args.playable c.unparted-run.result c.insert.new.self c.args.card
    c.requires.others c.requires.playable c.requires.legal c.unparted-run.ensures.among c.unparted-run.ensures.suit
    c.unparted-run.ensures.free c.insert.ensures

pub returns-clause-itself : goal.returns-clause-itself
returns-clause-itself c = inserted _ _ _ c.insert.ensures
