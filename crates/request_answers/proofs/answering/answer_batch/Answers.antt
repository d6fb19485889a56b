use Rattle.std.proofs.Common.{inr, refl}
use Rattle.std.proofs.lemmas.Result.{IfOk-weaker, IfErr-weaker}
use Rattle.request_answers.proofs.AnsweringLemmas.{batch_answered, batch_entered, batch_taken_in, same_batch}
use Rattle.request_answers.proofs.answering.answer_batch.Goals as goal

pub returns-in-Ok-clause-answered : goal.returns-in-Ok-clause-answered
returns-in-Ok-clause-answered g c =
    IfOk-weaker c.or_out_of_memory.result _ _
    (λ text is. batch_answered _ _ _ _ _ _ _ _ _ _ (same_batch _ _ _ _ _ _ _ _ _ _ c.as_slice.ensures
    c.in-Ok.ensures.receipt) (rw is at c.receipt_text.ensures))
    c.or_out_of_memory.ensures.ok

pub returns-in-Ok-clause-unanswered : goal.returns-in-Ok-clause-unanswered
returns-in-Ok-clause-unanswered g c =
    IfErr-weaker c.or_out_of_memory.result _ _
    (λ fault is. rw is.0 (batch_taken_in _ _ _ _ _ _ _ _ _ (same_batch _ _ _ _ _ _ _ _ _ _ c.as_slice.ensures
    c.in-Ok.ensures.receipt)))
    c.or_out_of_memory.ensures.err

pub returns-in-Ok-clause-entered : goal.returns-in-Ok-clause-entered
returns-in-Ok-clause-entered g c =
    IfOk-weaker c.or_out_of_memory.result _ _
    (λ text is. batch_entered _ _ _ _ _ _ _ _ _ _ (same_batch _ _ _ _ _ _ _ _ _ _ c.as_slice.ensures
    c.in-Ok.ensures.receipt) (rw is at c.receipt_text.ensures))
    c.or_out_of_memory.ensures.ok

pub returns-in-Ok-clause-none : goal.returns-in-Ok-clause-none
returns-in-Ok-clause-none g c =
    IfErr-weaker c.or_out_of_memory.result _ _
    (λ fault is. inr (
      is.0,
      _,
      batch_entered _ _ _ _ _ _ _ _ _ _ (same_batch _ _ _ _ _ _ _ _ _ _ c.as_slice.ensures
          c.in-Ok.ensures.receipt) refl,
    ))
    c.or_out_of_memory.ensures.err
