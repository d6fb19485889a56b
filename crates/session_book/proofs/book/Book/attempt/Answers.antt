use Rattle.std.proofs.Common.{◌∷◌, ◌++◌, [], ◌∙◌}
use Rattle.session_book.proofs.RunLemmas.{runs_not_tried, runs_accepted, runs_refused}
use Rattle.session_book.proofs.book.Book.attempt.Goals as goal

pub returns-then-stopped-clause-runs : goal.returns-then-stopped-clause-runs
returns-then-stopped-clause-runs c before tried answers =
    runs_not_tried c.args.self.now.opening before c.args.actor tried c.args.command.now c.args.self.now.journal answers
    c.args.stopped c.if-stopped.true

pub returns-in-Ok-clause-runs : goal.returns-in-Ok-clause-runs
returns-in-Ok-clause-runs c before tried answers =
    runs_accepted c.args.self.now.opening before c.args.actor tried c.args.command.now c.args.self.now.journal answers
    c.args.stopped c.commit.new.self.journal c.if-stopped.false
    c.in-Ok.ensures.accepted
    (c.commit.ensures.journal ∙ (λ i. (c.in-Ok.ensures.same i).journal ++ c.in-Ok.ensures.ok i ∷ []))

pub returns-in-Err-clause-runs : goal.returns-in-Err-clause-runs
returns-in-Err-clause-runs c before tried answers =
    runs_refused c.args.self.now.opening before c.args.actor tried c.args.command.now c.args.self.now.journal answers
    c.args.stopped c.check.new.self.journal c.in-Err.cause c.if-stopped.false
    (λ i. (c.in-Err.ensures.same i).journal) c.in-Err.ensures.err
