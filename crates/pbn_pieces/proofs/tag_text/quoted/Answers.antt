use Rattle.std.proofs.Common.{List, ℕ, ◌+◌, take, length, sym, ap, subst, ◌∙◌, arith}
use Rattle.std.proofs.lemmas.Bool.{true≢false, le-ltb}
use Rattle.std.specs.Prelude.{Some}
use Rattle.pbn_pieces.proofs.SplitLemmas.{Walks, walk_closes, walk_feeds, walk_letter, walk_escape, walk_ends, to_end}
use Rattle.pbn_pieces.proofs.tag_text.quoted.Goals as goal
use Rattle.pbn_pieces.proofs.tag_text.quoted.Goals.{then-at-bytes, else-at-bytes, then-escaped, else-escaped}

pub returns-then-byte-eq34 : goal.returns-then-byte-eq34
returns-then-byte-eq34 c =
    walk_closes c.args.bytes.now c.loop-at.at c.loop-at.invariant c.loop-at-test.true c.if-byte-eq34.true
    ∙ ap (λ (rest : List ℕ). Some (take c.loop-at.at c.args.bytes.now, rest))
    (sym (to_end (c.loop-at.at + 1) c.args.bytes.now))

pub returns-then-byte-eq10 : goal.returns-then-byte-eq10
returns-then-byte-eq10 c = walk_feeds c.args.bytes.now c.loop-at.at c.loop-at.invariant c.loop-at-test.true
    c.if-byte-eq10.true

pub loop-at-preserved : goal.loop-at-preserved
loop-at-preserved c =
    let bytes = c.args.bytes.now in
    let at = c.loop-at.at in
    elim c.if-escaped.branch [
      | then-escaped w ↦ subst (λ step. Walks bytes (at + step)) (sym w.at-is)
          (elim c.if-at-bytes.branch [
            | then-at-bytes w' ↦ walk_escape bytes at c.loop-at.invariant w'.if-at-bytes.true
                (sym w'.is_escape-escaped.ensures ∙ sym w'.escaped-is ∙ w.if-escaped.true)
            | else-at-bytes w' ↦ absurd
                (true≢false (sym w.if-escaped.true ∙ w'.escaped-is ∙ le-ltb (at + 1) (length bytes)
                w'.if-at-bytes.false))
          ])
      | else-escaped w ↦ subst (λ step. Walks bytes (at + step)) (sym w.at-is)
          (walk_letter bytes at c.loop-at.invariant c.loop-at-test.true c.if-byte-eq34.false c.if-byte-eq10.false (λ h.
          elim c.if-at-bytes.branch [
            | then-at-bytes w' ↦ sym w'.is_escape-escaped.ensures ∙ sym w'.escaped-is ∙ w.if-escaped.false
            | else-at-bytes w' ↦ absurd (omega (arith, h, w'.if-at-bytes.false))
          ]))
    ]

pub returns : goal.returns
returns c = walk_ends c.args.bytes.now c.loop-at.at c.loop-at.invariant (omega arith)
