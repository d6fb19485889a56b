use Rattle.std.proofs.Common.{◌∙◌}
use Rattle.serde_json.specs.View.{view}
use Rattle.entry_texts.proofs.ReadingLemmas.{given_whole, given_own, no_command_refused}
use Rattle.entry_texts.proofs.reading.given.Goals as goal

pub returns-in-Ok-clause-tells : goal.returns-in-Ok-clause-tells
returns-in-Ok-clause-tells c command same =
    given_whole c.args.name.now (view c.args.value.now) c.in-Ok.command command c.in-Ok.ensures same

pub returns-in-Ok-clause-own : goal.returns-in-Ok-clause-own
returns-in-Ok-clause-own c = given_own (view c.args.value.now) c.in-Ok.command c.in-Ok.ensures

pub returns-in-Err-clause-tells : goal.returns-in-Err-clause-tells
returns-in-Err-clause-tells c command same =
    c.text_fault.ensures ∙ no_command_refused (view c.args.value.now) command c.in-Err.fault same c.in-Err.ensures
