use Rattle.std.proofs.Common.{◌≡◌, subst}
use Rattle.session_book.specs.Journal.{Ledger}
use Rattle.session_keeper.specs.Keeping.{IsAuditOf}
use Rattle.session_keeper.proofs.KeepingLemmas.{audit_alone}
use Rattle.session_keeper.proofs.plain_keeper.PlainKeeperCommandKeeper.audit.Goals as goal

pub returns-clause-receipt : goal.returns-clause-receipt
returns-clause-receipt g c =
    subst (λ (l : Ledger). IsAuditOf (λ before after. after ≡ before) l.opening l.journal c.args.actor c.args.from
    c.args.limit
    (record { rows = c.audit.result; version = c.version.result }) l.journal) c.self.view_is
    (audit_alone c.self.inside.book c.args.actor c.args.from c.args.limit
    (record { rows = c.audit.result; version = c.version.result })
    c.audit.ensures.rows c.audit.ensures.ok c.audit.ensures.err c.audit.ensures.valid c.version.ensures.version
    c.version.ensures.accepted)
