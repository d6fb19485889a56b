use Rattle.std.proofs.lemmas.Result.{IfOk-weaker}
use Rattle.request_answers.proofs.AnsweringLemmas.{
  audit_answered,
  audit_entered,
  audit_entered_untold,
  audit_taken_in,
  on_err,
}
use Rattle.request_answers.proofs.answering.answer_audit.Goals as goal

pub returns-clause-answered : goal.returns-clause-answered
returns-clause-answered g c =
    IfOk-weaker c.text_of_audit.result _ _
    (λ text is. audit_answered _ _ _ _ _ _ _ _ c.audit-receipt.ensures.receipt is)
    c.text_of_audit.ensures

pub returns-clause-unanswered : goal.returns-clause-unanswered
returns-clause-unanswered g c =
    on_err c.text_of_audit.result _ (audit_taken_in _ _ _ _ _ _ _ c.audit-receipt.ensures.receipt)

pub returns-clause-entered : goal.returns-clause-entered
returns-clause-entered g c =
    IfOk-weaker c.text_of_audit.result _ _
    (λ text is. audit_entered _ _ _ _ _ _ _ _ _ _ c.audit-receipt.ensures.receipt c.audit-receipt.ensures.own is)
    c.text_of_audit.ensures

pub returns-clause-none : goal.returns-clause-none
returns-clause-none g c =
    on_err c.text_of_audit.result _
    (audit_entered_untold _ _ _ _ _ _ _ _ _ c.audit-receipt.ensures.receipt c.audit-receipt.ensures.own)
