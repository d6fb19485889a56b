use Rattle.opened_session.proofs.OpeningLemmas.{boards_read}
use Rattle.session_check.proofs.CheckLemmas.{opens_in, none_in, where_in, whom_in}
use Rattle.session_check.proofs.checking.check_session.Goals as goal

pub check_opening-requires : goal.check_opening-requires
check_opening-requires c = boards_read _ c.args.text.now c.in-Ok.object c.in-Ok.ensures.read

pub returns-in-Ok-clause-opens : goal.returns-in-Ok-clause-opens
returns-in-Ok-clause-opens c =
    opens_in _ c.args.text.now c.in-Ok.object c.in-Ok.ensures.read c.check_opening.result c.check_opening.ensures.opens

pub returns-in-Ok-clause-none : goal.returns-in-Ok-clause-none
returns-in-Ok-clause-none c =
    none_in _ c.args.text.now c.in-Ok.object c.in-Ok.ensures.read c.check_opening.result c.check_opening.ensures.refused

pub returns-in-Ok-clause-line : goal.returns-in-Ok-clause-line
returns-in-Ok-clause-line c =
    where_in _ c.args.text.now c.in-Ok.object c.in-Ok.ensures.read c.check_opening.result c.check_opening.ensures.refused

pub returns-in-Ok-clause-users : goal.returns-in-Ok-clause-users
returns-in-Ok-clause-users c =
    whom_in _ c.args.text.now c.in-Ok.object c.in-Ok.ensures.read c.check_opening.result c.check_opening.ensures.refused
