use Rattle.std.proofs.Common.{◌∙◌, sym}
use Rattle.position_patterns.proofs.memory.Memory.answer.Goals as goal
use Rattle.position_patterns.proofs.TopsLemmas.{found_for}

pub returns-then-matches : goal.returns-then-matches
returns-then-matches c =
    let same = c.finding.ensures.same in
    found_for c.args.position.now _ c.args.target c.finding.result.known c.finding.result.holds
    (λ holds. c.serves.ensures.holds c.if-serves.true (sym same ∙ holds))
    (λ refused. c.serves.ensures.refused c.if-serves.true (sym same ∙ refused))
    c.finding.ensures.found
