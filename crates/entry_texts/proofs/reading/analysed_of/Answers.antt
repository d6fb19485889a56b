use Rattle.serde_json.specs.View.{view}
use Rattle.std.proofs.Common.{◌∙◌}
use Rattle.command_writing.proofs.WrittenLemmas.{analysed_is}
use Rattle.entry_texts.proofs.ReadingLemmas.{analysed_told, no_play_refused}
use Rattle.entry_texts.proofs.reading.analysed_of.Goals as goal

pub returns-in-Ok-clause-analysed : goal.returns-in-Ok-clause-analysed
returns-in-Ok-clause-analysed c cell played is same =
    analysed_told c.args.actor cell played (view c.args.value.now) c.in-Ok.play c.played_of.result
    (analysed_is cell played is).cards same c.in-Ok.ensures
    (c.played_of.ensures.analysed cell played is same)

pub returns-in-Err-clause-analysed : goal.returns-in-Err-clause-analysed
returns-in-Err-clause-analysed c cell played is same =
    c.text_fault.ensures ∙ no_play_refused cell played (view c.args.value.now) c.in-Err.fault
    (analysed_is cell played is).cards same c.in-Err.ensures
