use Rattle.std.proofs.Common.{get_or, sym, ◌∙◌}
use Rattle.std.proofs.lemmas.List.{get_or_default}
use Rattle.rbac.specs.declared.account.Account.{Account}
use Rattle.rbac.proofs.AccountLemmas.{same_name_decides}
use Rattle.session_book.proofs.ExposureTableLemmas.{name_at, not_yet}
use Rattle.session_book.proofs.book.place_of.Goals as goal

pub returns-then-eq-clause-found : goal.returns-then-eq-clause-found
returns-then-eq-clause-found c =
    let accounts = c.args.accounts.now in
    let place = c.loop-place.place in
    let below = c.loop-place-test.true in
    let account : Account = get_or accounts place c.index-accounts-place.result in
    sym (name_at accounts place account below (get_or_default accounts place c.index-accounts-place.result account
    below))
    ∙ (same_name_decides account.name c.args.name).0 (sym c.eq.ensures ∙ c.if-eq.true)

pub loop-place-preserved : goal.loop-place-preserved
loop-place-preserved c =
    let accounts = c.args.accounts.now in
    let place = c.loop-place.place in
    let below = c.loop-place-test.true in
    let account : Account = get_or accounts place c.index-accounts-place.result in
    not_yet accounts place account c.args.name below (get_or_default accounts place c.index-accounts-place.result
    account below) (sym c.eq.ensures ∙ c.if-eq.false) c.loop-place.invariant
