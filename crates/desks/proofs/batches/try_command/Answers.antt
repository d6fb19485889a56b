use Rattle.std.proofs.Common.{◌∷◌, ◌++◌, [], ◌∙◌}
use Rattle.session_book.proofs.RunLemmas.{runs_not_tried}
use Rattle.desks.proofs.BatchLemmas.{refused_here, accepted_here}
use Rattle.desks.proofs.batches.try_command.Goals as goal

pub returns-then-stopped-clause-runs : goal.returns-then-stopped-clause-runs
returns-then-stopped-clause-runs g c before tried answers =
    runs_not_tried g.N.Server.opening before c.args.actor tried c.args.command.now c.args.book.now.journal answers
    c.args.stopped c.if-stopped.true

pub returns-in-Err-clause-runs : goal.returns-in-Err-clause-runs
returns-in-Err-clause-runs g c before tried answers =
    refused_here g.N.Server.opening c.args.book.now before c.args.actor tried c.args.command.now answers c.args.stopped
    c.check.new.self.journal c.in-Err.cause c.requires.opening c.if-stopped.false
    (λ i. (c.in-Err.ensures.same i).journal) c.in-Err.ensures.err

pub returns-clause-runs : goal.returns-clause-runs
returns-clause-runs g c before tried answers =
    accepted_here g.N.Server.opening c.args.book.now before c.args.actor tried c.args.command.now answers c.args.stopped
    c.commit.new.self.journal c.requires.opening c.if-stopped.false
    c.in-Ok.ensures.accepted
    (c.commit.ensures.journal ∙ (λ i. (c.in-Ok.ensures.same i).journal ++ c.in-Ok.ensures.ok i ∷ []))
