use Rattle.std.proofs.Common.{◌≡◌, ◌+◌, ◌-◌, ◌<◌, min, [], ◌∷◌, ◌++◌, length, take, drop, refl, ap, ◌∙◌, arith}
use Rattle.session_book.specs.Audit.{numbered_from}
use Rattle.session_book.proofs.AuditLemmas.{rows_more, rows_all}
use Rattle.session_book.proofs.audit.rows_of.Goals as goal

pub loop-k-preserved : goal.loop-k-preserved
loop-k-preserved c =
    let journal = c.args.journal.now in
    let before = c.min-before.result in
    let k = c.loop-k.k in
    let below : before + k < length journal = omega (
      arith,
      c.min-count.ensures,
      c.min-before.ensures,
      c.loop-k-test.true,
    ) in
    record {
      counted = omega (arith, c.put_item.ensures.len, c.loop-k.invariant.counted);
      room = omega (arith, c.put_item.ensures.capacity, c.loop-k.invariant.room);
      rows =
          c.put_item.ensures.items
          ∙ (λ i. c.loop-k.rows.items ++ record {
            number = before + k + 1;
            actor = c.index-journal-before.result.actor;
            word = c.word.ensures i;
            target = c.target.ensures i;
          } ∷ [])
          ∙ rows_more journal before k (before + k + 1) c.index-journal-before.result c.loop-k.rows.items below refl
          c.index-journal-before.is c.loop-k.invariant.rows;
    }

pub returns : goal.returns
returns c =
    let journal = c.args.journal.now in
    let before = c.min-before.result in
    let count = c.min-count.result in
    let starts : before ≡ min (c.args.from - 1) (length journal) =
    omega (arith, c.max-before.ensures, c.min-before.ensures) in
    let counted : count ≡ min c.args.limit (length journal - before) =
    omega (arith, c.min-count.ensures, c.min-before.ensures) in
    let done : c.loop-k.k ≡ count = omega (arith, c.loop-k-test.false, c.loop-k.auto.k-end) in
    c.loop-k.invariant.rows ∙ (ap (λ k. take k (drop before (numbered_from 1 journal))) done ∙ rows_all journal
    c.args.from c.args.limit before count starts counted)
