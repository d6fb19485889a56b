use Rattle.std.proofs.Common.{subst, string_bytes}
use Rattle.request_answers.specs.Answering.{IsAnsweredOnce, IsTakenIn, IsUnanswered}
use Rattle.program.proofs.ResponseLemmas.{Alone, responds_answer, responds_untold, responds_taken_in, responds_by_line}
use Rattle.program.proofs.response.response_to_request.Goals as goal

pub returns-in-Ok-clause-response : goal.returns-in-Ok-clause-response
returns-in-Ok-clause-response c line means =
    let before = c.args.keeper.now in
    let said = c.args.said.now in
    let after = c.answer_request.new.keeper.journal in
    let text = string_bytes c.in-Ok.text in
    let answered : IsAnsweredOnce Alone before.opening before.journal said.user said.request text after =
    subst (λ opening. IsAnsweredOnce Alone opening before.journal said.user said.request text after)
    c.in-Ok.ensures.later.same c.in-Ok.ensures.answered in
    responds_by_line string_bytes before.opening before.journal line after text c.with_line_feed.result
    c.with_line_feed.ensures.line c.with_line_feed.ensures.err
    (responds_answer before.opening before.journal line said means text after answered)
    (responds_untold before.opening before.journal line said means text after answered)

pub returns-in-Err-OutOfMemory-clause-response : goal.returns-in-Err-OutOfMemory-clause-response
returns-in-Err-OutOfMemory-clause-response c line means =
    let before = c.args.keeper.now in
    let said = c.args.said.now in
    let after = c.answer_request.new.keeper.journal in
    let taken : IsTakenIn Alone c.answer_request.new.keeper.opening before.journal said.user said.request after =
    subst (λ fault. IsUnanswered Alone ⊥ ⊥ c.answer_request.new.keeper.opening before.journal said.user said.request
    fault after)
    c.in-Err-OutOfMemory.field-0-is c.in-Err-OutOfMemory.ensures.unanswered in
    responds_taken_in before.opening before.journal line said after means
    (subst (λ opening. IsTakenIn Alone opening before.journal said.user said.request after)
    c.in-Err-OutOfMemory.ensures.later.same taken)
