use Rattle.std.proofs.Common.{◌≤◌, List, [], map, get_or, sym, ap, ◌∙◌, subst}
use Rattle.std.specs.Prelude.{Contains}
use Rattle.std.proofs.lemmas.Bool.{false≢true}
use Rattle.movement.specs.Movement.{Section, boards_of}
use Rattle.session_book.proofs.LastingLemmas.{replay_lasts}
use Rattle.rbac.specs.declared.account.Account.{Account}
use Rattle.session_state.specs.SessionState.{SessionState}
use Rattle.session_book.specs.Exposure.{is_exposed}
use Rattle.session_book.proofs.ExposureLemmas.{exposed_decides}
use Rattle.session_book.proofs.SpoilerLemmas.{stranger_unexposed}
use Rattle.session_book.proofs.book.Book.exposed.Goals as goal

pub is_noted-requires-clause-to : goal.is_noted-requires-clause-to
is_noted-requires-clause-to c =
    let same = replay_lasts c.args.self.now.opening c.args.self.now.journal in
    subst (λ (section : Section). c.args.board ≤ boards_of section) same.movement c.requires.to

pub returns-in-Some-clause-exposed : goal.returns-in-Some-clause-exposed
returns-in-Some-clause-exposed c =
    let ledger = c.args.self.now in
    let listed = c.accounts-accounts.ensures.accounts ∙ ap (λ (state : SessionState). state.roles.accounts)
    c.state.ensures.state in
    let user = sym (ap (λ (accounts : List Account). get_or (map (λ (account : Account). account.name) accounts)
    c.in-Some.place []) listed) ∙ c.in-Some.ensures.found in
    let same = c.is_noted.ensures ∙ ap (λ name. is_exposed ledger.opening ledger.journal name c.args.board) user in
    let decides = exposed_decides ledger.opening ledger.journal c.args.name c.args.board in
    (λ noted. decides.0 (sym same ∙ noted), λ exposed. same ∙ decides.1 exposed)

pub returns-in-None-clause-test : goal.returns-in-None-clause-test
returns-in-None-clause-test c =
    let ledger = c.args.self.now in
    let listed = c.accounts-accounts.ensures.accounts ∙ ap (λ (state : SessionState). state.roles.accounts)
    c.state.ensures.state in
    sym (stranger_unexposed ledger.opening ledger.journal c.args.name c.args.board
    (subst (λ (accounts : List Account). ¬ Contains (map (λ (account : Account). account.name) accounts) c.args.name)
    listed c.in-None.ensures.none))

pub returns-in-None-clause-exposed : goal.returns-in-None-clause-exposed
returns-in-None-clause-exposed c =
    let ledger = c.args.self.now in
    let listed = c.accounts-accounts.ensures.accounts ∙ ap (λ (state : SessionState). state.roles.accounts)
    c.state.ensures.state in
    let decides = exposed_decides ledger.opening ledger.journal c.args.name c.args.board in
    let unexposed = stranger_unexposed ledger.opening ledger.journal c.args.name c.args.board
    (subst (λ (accounts : List Account). ¬ Contains (map (λ (account : Account). account.name) accounts) c.args.name)
    listed c.in-None.ensures.none) in
    (λ yes_true. absurd (false≢true yes_true), λ exposed. sym unexposed ∙ decides.1 exposed)
