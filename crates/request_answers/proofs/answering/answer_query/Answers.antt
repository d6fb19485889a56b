use Rattle.std.proofs.lemmas.Result.{IfOk-weaker}
use Rattle.request_answers.proofs.AnsweringLemmas.{query_answered, query_entered}
use Rattle.request_answers.proofs.answering.answer_query.Goals as goal

pub returns-in-Ok-clause-answered : goal.returns-in-Ok-clause-answered
returns-in-Ok-clause-answered g c =
    IfOk-weaker c.or_out_of_memory.result _ _
    (λ text is. query_answered _ _ _ _ _ _ _ _ _ c.in-Ok.ensures.unchanged c.in-Ok.ensures.reply
    (rw is at c.reply_text.ensures))
    c.or_out_of_memory.ensures.ok

pub returns-in-Ok-clause-entered : goal.returns-in-Ok-clause-entered
returns-in-Ok-clause-entered g c =
    IfOk-weaker c.or_out_of_memory.result _ _
    (λ text is. query_entered _ _ _ _ _ _ _ _ _ _ _ c.in-Ok.ensures.unchanged c.in-Ok.ensures.reply
    (rw is at c.reply_text.ensures) c.in-Ok.ensures.own)
    c.or_out_of_memory.ensures.ok
