use Rattle.serde_json.specs.View.{view}
use Rattle.entry_texts.proofs.ReadingLemmas.{entry_told}
use Rattle.entry_texts.proofs.reading.told_by.Goals as goal

pub returns-clause-tells : goal.returns-clause-tells
returns-clause-tells c entry keepable readable actor same =
    entry_told entry c.args.actor.now (view c.args.value.now) c.told_as.result actor keepable readable same
    c.told_as.ensures.solved c.told_as.ensures.analysed c.told_as.ensures.given
