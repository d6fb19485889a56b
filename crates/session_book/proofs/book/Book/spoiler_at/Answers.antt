use Rattle.std.proofs.Common.{◌<◌, length, get_or, sym, ap, ◌∙◌, arith}
use Rattle.std.proofs.lemmas.List.{get_or_default, length-map}
use Rattle.rbac.specs.declared.account.Account.{Account}
use Rattle.session_state.specs.SessionState.{SessionState}
use Rattle.session_book.specs.Exposure.{spoils, users_of}
use Rattle.session_book.specs.Journal.{state_of}
use Rattle.session_book.proofs.ExposureTableLemmas.{name_read, first_spoiler, spoils_step, no_spoiler_at}
use Rattle.session_book.proofs.book.Book.spoiler_at.Goals as goal

pub returns-then-spoils : goal.returns-then-spoils
returns-then-spoils c =
    let ledger = c.args.self.now in
    let accounts = c.accounts-accounts.result.now in
    let place = c.loop-place.place in
    let below = c.loop-place-test.true in
    let listed = c.accounts-accounts.ensures.accounts ∙ ap (λ (state : SessionState). state.roles.accounts)
    c.state.ensures.state in
    let account : Account = get_or accounts place c.index-accounts-place.result in
    let here = name_read (state_of ledger) accounts place account listed below
    (get_or_default accounts place c.index-accounts-place.result account below) in
    let within : place < length (users_of (state_of ledger)) = omega (
      arith,
      below,
      ap length listed,
      length-map (state_of ledger).roles.accounts (λ (a : Account). a.name),
    ) in
    first_spoiler (spoils ledger.opening ledger.journal c.args.cell) (users_of (state_of ledger)) place account.name
    within here (sym c.spoils.ensures ∙ c.if-spoils.true) c.loop-place.invariant

pub loop-place-preserved : goal.loop-place-preserved
loop-place-preserved c =
    let ledger = c.args.self.now in
    let accounts = c.accounts-accounts.result.now in
    let place = c.loop-place.place in
    let below = c.loop-place-test.true in
    let listed = c.accounts-accounts.ensures.accounts ∙ ap (λ (state : SessionState). state.roles.accounts)
    c.state.ensures.state in
    let account : Account = get_or accounts place c.index-accounts-place.result in
    let here = name_read (state_of ledger) accounts place account listed below
    (get_or_default accounts place c.index-accounts-place.result account below) in
    spoils_step (spoils ledger.opening ledger.journal c.args.cell) (users_of (state_of ledger)) place account.name here
    (sym c.spoils.ensures ∙ c.if-spoils.false) c.loop-place.invariant

pub returns : goal.returns
returns c =
    let ledger = c.args.self.now in
    let listed = c.accounts-accounts.ensures.accounts ∙ ap (λ (state : SessionState). state.roles.accounts)
    c.state.ensures.state in
    let past = c.loop-place-test.false in
    let all = ap length listed in
    let count = length-map (state_of ledger).roles.accounts (λ (a : Account). a.name) in
    no_spoiler_at (spoils ledger.opening ledger.journal c.args.cell) (users_of (state_of ledger))
    (λ k below. c.loop-place.invariant k (omega (arith, past, all, count, below)))
