use Rattle.std.proofs.Common.{◌<◌, length, sym, ◌∙◌, arith}
use Rattle.pbn_records.proofs.PartsLemmas.{first_part}
use Rattle.pbn_records.proofs.parts.next_part.Goals as goal

pub returns-clause-part : goal.returns-clause-part
returns-clause-part c =
    let some : 0 < length c.after_spaces-text.result.now = grind (arith, c.if-is_empty.ensures) in
    sym c.after_spaces-text.ensures.parts
    ∙ first_part _ _ _ c.split_at_space.ensures.joined c.split_at_space.ensures.each c.split_at_space.ensures.first
    c.after_spaces-text.ensures.first some
