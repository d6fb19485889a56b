use Rattle.published_view.proofs.AgreementLemmas.{same_replies}
use Rattle.published_view.proofs.HiddenLemmas.{hidden_replies}
use Rattle.published_view.proofs.laws.two_worlds.Goals as goal

pub returns-clause-replies : goal.returns-clause-replies
returns-clause-replies c one other version user query since agree = same_replies one other user agree version query
    since

pub returns-clause-hidden : goal.returns-clause-hidden
returns-clause-hidden c one other version user query since board differ forbidden =
    hidden_replies board one other user differ forbidden version query since
