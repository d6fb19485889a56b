use Rattle.std.proofs.Common.{◌≡◌, suc, sym, subst, ◌∙◌, ◌+◌, ◌++◌, ◌∷◌, [], arith}
use Rattle.pbn_records.specs.Each.{HasFirst}
use Rattle.pbn_records.proofs.ReadsLemmas.{pushed}
use Rattle.pbn_records.proofs.reading.board_set.Goals as goal

pub loop-index-preserved : goal.loop-index-preserved
loop-index-preserved c =
    let index = c.loop-index.index in
    let board = c.in-Some-get.board.now in
    let next : suc index ≡ index + 1 = omega arith in
    let is = sym (c.in-Some.ensures (index + 1)) ∙ sym c.in-Some-get.ensures.value in
    let first = pushed c.args.known.now index c.loop-index.row.items board is c.loop-index.invariant.first in
    record {
      first = subst (λ row. HasFirst c.args.known.now (index + 1) row) (sym c.push_reserved.ensures.items)
          (subst (λ boards. HasFirst c.args.known.now boards (c.loop-index.row.items ++ board ∷ [])) next first);
      counted = omega (arith, c.push_reserved.ensures.len, c.loop-index.invariant.counted);
      room = omega (arith, c.push_reserved.ensures.capacity, c.loop-index.invariant.room);
    }
