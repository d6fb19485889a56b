use Rattle.std.proofs.Common.{◌≡◌, ◌↔◌, sym, ap, ◌∙◌, subst}
use Rattle.std.specs.Prelude.{IfErr, OnOk}
use Rattle.rbac.specs.Authorization.{HasPermission, IsValid}
use Rattle.session_roles.specs.declared.operation.Operation.TheVariants.{Audit}
use Rattle.session_state.specs.SessionState.{SessionState}
use Rattle.session_book.specs.declared.audit.AuditError.TheVariants.{NotPermitted}
use Rattle.session_book.specs.Journal.{replay}
use Rattle.history.specs.Prefixes.{entries_of}
use Rattle.displays.specs.Publishing.{Outgoing, Receipted}
use Rattle.desks.proofs.locked_book.LockedBook.audit.Goals as goal

pub returns-clause-permitted : goal.returns-clause-permitted
returns-clause-permitted g c =
    let book = c.self.inside.book in
    let journal : book.journal ≡ entries_of c.tell.result.published =
    sym c.self.invariant.1 ∙ (ap (λ (l : Outgoing). entries_of l.published) (sym c.deref.ensures)
    ∙ ap (λ (r : Receipted). entries_of r.published) (sym c.tell.ensures.receipt)) in
    let same : replay book.opening book.journal ≡ replay g.N.Server.opening (entries_of c.tell.result.published) =
    λ i. replay (c.self.invariant.0 i) (journal i) in
    subst (λ (s : SessionState). OnOk c.audit-rows.result (HasPermission s.roles c.args.actor Audit)) same
    c.audit-rows.ensures.ok

pub returns-clause-refused : goal.returns-clause-refused
returns-clause-refused g c =
    let book = c.self.inside.book in
    let journal : book.journal ≡ entries_of c.tell.result.published =
    sym c.self.invariant.1 ∙ (ap (λ (l : Outgoing). entries_of l.published) (sym c.deref.ensures)
    ∙ ap (λ (r : Receipted). entries_of r.published) (sym c.tell.ensures.receipt)) in
    let same : replay book.opening book.journal ≡ replay g.N.Server.opening (entries_of c.tell.result.published) =
    λ i. replay (c.self.invariant.0 i) (journal i) in
    subst (λ (s : SessionState). IfErr c.audit-rows.result
    (λ error. (error ≡ NotPermitted) ↔ (¬ HasPermission s.roles c.args.actor Audit))) same c.audit-rows.ensures.err

pub returns-clause-valid : goal.returns-clause-valid
returns-clause-valid g c =
    let book = c.self.inside.book in
    let journal : book.journal ≡ entries_of c.tell.result.published =
    sym c.self.invariant.1 ∙ (ap (λ (l : Outgoing). entries_of l.published) (sym c.deref.ensures)
    ∙ ap (λ (r : Receipted). entries_of r.published) (sym c.tell.ensures.receipt)) in
    let same : replay book.opening book.journal ≡ replay g.N.Server.opening (entries_of c.tell.result.published) =
    λ i. replay (c.self.invariant.0 i) (journal i) in
    subst (λ (s : SessionState). IsValid s.roles) same c.audit-rows.ensures.valid
