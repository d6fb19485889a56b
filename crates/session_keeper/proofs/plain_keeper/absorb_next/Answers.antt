use Rattle.std.proofs.Common.{sym, subst, ◌∙◌}
use Rattle.session_keeper.specs.PlainKeeping.{IsBehind}
use Rattle.session_keeper.proofs.GrowthLemmas.{one_more, entry_after, entry_there}
use Rattle.session_keeper.proofs.plain_keeper.absorb_next.Goals as goal

pub returns-in-Some-clause-behind : goal.returns-in-Some-clause-behind
returns-in-Some-clause-behind c =
    let journal = c.args.book.now.journal in
    subst (IsBehind c.args.book.now.opening journal) (sym c.absorb.ensures.effect)
    (one_more c.args.book.now.opening journal c.args.view.now c.in-Some.entry.now c.args.number c.requires.at
    c.requires.few
    (sym (entry_after journal c.args.number) ∙ sym c.in-Some.ensures) c.requires.behind)

pub returns-in_default-clause-at : goal.returns-in_default-clause-at
returns-in_default-clause-at c =
    let journal = c.args.book.now.journal in
    absurd (entry_there journal c.args.number (c.in_default.ensures ∙ entry_after journal c.args.number)
    c.requires.more)
