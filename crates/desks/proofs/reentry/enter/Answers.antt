use Rattle.std.proofs.Common.{◌≡◌, ◌⊎◌, ap, subst}
use Rattle.std.specs.Prelude.{Some, None}
use Rattle.session_state.specs.SessionState.{SessionState}
use Rattle.session_commands.specs.declared.refusal.Refusal.TheVariants as cause_is
use Rattle.session_book.specs.Journal.{Ledger, refusal_after}
use Rattle.desks.proofs.ReentryLemmas.{fault_here}
use Rattle.desks.proofs.reentry.enter.Goals as goal

pub returns-in-Err-clause-fault : goal.returns-in-Err-clause-fault
returns-in-Err-clause-fault g c =
    let entry = c.args.entry.now in
    let before = c.args.book.now.journal in
    let cause = c.in-Err.cause in
    fault_here c.fault_of.result cause g.N.Server.opening before entry c.check.new.self.journal c.fault_of.ensures
    (ap (λ (l : Ledger). l.journal) c.in-Err.ensures.same)
    (subst (λ (o : SessionState). (refusal_after o before entry.actor entry.command ≡ Some cause) ⊎
    ((cause ≡ cause_is.OutOfMemory) × (refusal_after o before entry.actor entry.command ≡ None))) c.requires.opening
    c.in-Err.ensures.err)
