use Rattle.std.proofs.Common.{List, ℕ, ap, Some, ◌∙◌}
use Rattle.std.proofs.lemmas.Result.{IfOk-weaker}
use Rattle.session_object.specs.Session.{Session}
use Rattle.session_text.specs.SessionData.{session_data, text_of_session}
use Rattle.preparing.proofs.PlannedLemmas.{as_planned, both_of}
use Rattle.preparing.proofs.WritableLemmas.{session_writable}
use Rattle.preparing.proofs.prepared.text_of.Goals as goal

pub returns : goal.returns
returns c =
    let plan = c.args.plan.now in
    let users = c.in_ok-users.users in
    let notices = c.notices_of in
    IfOk-weaker c.session_text.result _ _ (λ text is short.
    let planned = λ (boards : List ℕ). as_planned plan boards users c.movement_of.result notices.result.title notices.result.date notices.result.reasons
    c.movement_of.ensures (notices.ensures.title short.title) (notices.ensures.date short.date) notices.ensures.reasons in
    record {
      users = users;
      are = c.in_ok-users.ensures;
      is = λ boards. is.0 boards ∙ ap text_of_session (planned boards);
      writable = session_writable plan c.args.guests.now users short c.in_ok-users.ensures c.are_small.ensures;
      reads = λ boards. is.1 boards ∙ ap (λ (session : Session). Some (session_data session)) (planned boards);
    })
    (both_of c.session_text.result _ _ c.session_text.ensures.text c.session_text.ensures.json)
