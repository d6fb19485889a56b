use Rattle.std.proofs.Common.{List, subst}
use mathlib.Core.List.{IsPrefix}
use Rattle.session_commands.specs.declared.entry.Entry.{Entry}
use Rattle.history.proofs.PrefixLemmas.{entries_of_prefix, prefix_trans}
use Rattle.displays.proofs.ReadingLemmas.{foreknown}
use Rattle.displays.proofs.display.Display.learn.Goals as goal

pub returns-clause-no_foreknowledge : goal.returns-clause-no_foreknowledge
returns-clause-no_foreknowledge g c seen begins =
    let now = c.go_to_longer.new.self in
    let told : IsPrefix c.args.receipt.now.published now =
    subst (λ (told : List (List Entry)). IsPrefix told now) c.prefix.ensures.publications c.go_to_longer.ensures.told in
    foreknown g.N.Server.opening _ _ _
    (entries_of_prefix _ _ (prefix_trans _ _ _ begins c.go_to_longer.ensures.own))
    (entries_of_prefix _ _ told)
    c.prefix.ensures.published.accepted
