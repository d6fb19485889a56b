use Rattle.std.proofs.Common.{◌+◌, ◌∷◌, [], ◌++◌, ◌∙◌, Some, length, refl, sym, ap, rules, arith}
use Rattle.script_lines.specs.NextByte.{TakesByte}
use Rattle.script_lines.specs.Lines.{ended_line}
use Rattle.script_lines.proofs.NextByteLemmas.{
  at_ok,
  at_err,
  all_kept,
  ends_here,
  is_rest,
  goes_on,
  fails_for,
  fails_for_memory,
}
use Rattle.script_lines.proofs.reading.read_line.Goals as goal

pub returns-in-Ok-Some-eq10-clause-line : goal.returns-in-Ok-Some-eq10-clause-line
returns-in-Ok-Some-eq10-clause-line g c =
    let so_far = c.loop-line.invariant in
    let before = g.R.ByteSource.remaining c.args.reader.now in
    let reader = g.R.ByteSource.remaining c.loop-line.reader in
    let after = g.R.ByteSource.remaining c.take_byte.new.reader in
    let taken : TakesByte (Some 10) reader after c.loop-line.left c.take_byte.new.left = search rules in
    record {
      whole = ended_line so_far.piece;
      takes = ends_here before reader after so_far.piece c.args.left.now c.loop-line.left c.take_byte.new.left
          so_far.unbroken so_far.consumed so_far.counted taken (ended_line so_far.piece) refl;
      kept = c.end_piece.ensures.kept so_far.piece so_far.kept;
    }

pub returns-in-Ok-None-clause-line : goal.returns-in-Ok-None-clause-line
returns-in-Ok-None-clause-line g c =
    let so_far = c.loop-line.invariant in
    let before = g.R.ByteSource.remaining c.args.reader.now in
    let reader = g.R.ByteSource.remaining c.loop-line.reader in
    let after = g.R.ByteSource.remaining c.take_byte.new.reader in
    record {
      whole = so_far.piece;
      takes = is_rest before reader after so_far.piece c.args.left.now c.loop-line.left c.take_byte.new.left
          so_far.unbroken so_far.consumed so_far.counted c.in-Ok-None.field-0 c.in-Ok-None.field-0-is
          c.in-Ok-None.ensures.byte;
      kept = c.end_rest.ensures.kept so_far.piece so_far.kept;
    }

pub returns-then-is_err-clause-fault : goal.returns-then-is_err-clause-fault
returns-then-is_err-clause-fault g c =
    let so_far = c.loop-line.invariant in
    let before = g.R.ByteSource.remaining c.args.reader.now in
    let reader = g.R.ByteSource.remaining c.loop-line.reader in
    let after = g.R.ByteSource.remaining c.take_byte.new.reader in
    let more =
    goes_on before reader after so_far.piece c.args.left.now c.loop-line.left c.take_byte.new.left so_far.unbroken
    so_far.consumed so_far.counted
    c.in-Ok-Some.field-0 c.in-Ok-Some.byte c.in-Ok-Some.field-0-is c.in-Ok-Some.byte-test.1 c.in-Ok-Some.ensures.byte in
    let refused = at_err c.keep.result (sym c.is_err.ensures.value ∙ c.if-is_err.true) c.keep.ensures.refused in
    let same = all_kept c.args.most c.loop-line.line.items so_far.piece so_far.kept refused.1 in
    fails_for_memory before reader after so_far.piece c.args.left.now c.loop-line.left c.take_byte.new.left
    so_far.unbroken so_far.consumed so_far.counted
    c.in-Ok-Some.byte (c.args.most + 2) c.in-Ok-Some.byte-test.1 more c.keep.new.line.items (refused.0 ∙ same)
    (omega (arith, refused.1, ap length refused.0))

pub returns-in-Err-clause-fault : goal.returns-in-Err-clause-fault
returns-in-Err-clause-fault g c =
    let so_far = c.loop-line.invariant in
    let before = g.R.ByteSource.remaining c.args.reader.now in
    let reader = g.R.ByteSource.remaining c.loop-line.reader in
    let after = g.R.ByteSource.remaining c.take_byte.new.reader in
    fails_for before reader after so_far.piece c.args.left.now c.loop-line.left c.take_byte.new.left so_far.unbroken
    so_far.consumed so_far.counted
    g.R.ByteSource.fails c.in-Err.fault c.in-Err.ensures.input c.in-Err.ensures.fault (c.args.most + 2) c.loop-line.line.items so_far.kept

pub loop-line-preserved : goal.loop-line-preserved
loop-line-preserved g c =
    let so_far = c.loop-line.invariant in
    let before = g.R.ByteSource.remaining c.args.reader.now in
    let reader = g.R.ByteSource.remaining c.loop-line.reader in
    let after = g.R.ByteSource.remaining c.take_byte.new.reader in
    let more =
    goes_on before reader after so_far.piece c.args.left.now c.loop-line.left c.take_byte.new.left so_far.unbroken
    so_far.consumed so_far.counted
    c.in-Ok-Some.field-0 c.in-Ok-Some.byte c.in-Ok-Some.field-0-is c.in-Ok-Some.byte-test.1 c.in-Ok-Some.ensures.byte in
    let kept = at_ok c.keep.result (sym c.is_err.ensures.value ∙ c.if-is_err.false) c.keep.ensures.kept in
    record {
      piece = so_far.piece ++ c.in-Ok-Some.byte ∷ [];
      unbroken = more.unbroken;
      kept = kept so_far.piece so_far.kept;
      consumed = more.consumed;
      counted = more.counted;
      same = c.take_byte.ensures.same ∙ so_far.same;
    }

pub loop-line-smaller : goal.loop-line-smaller
loop-line-smaller g c =
    let so_far = c.loop-line.invariant in
    let before = g.R.ByteSource.remaining c.args.reader.now in
    let reader = g.R.ByteSource.remaining c.loop-line.reader in
    let after = g.R.ByteSource.remaining c.take_byte.new.reader in
    let more =
    goes_on before reader after so_far.piece c.args.left.now c.loop-line.left c.take_byte.new.left so_far.unbroken
    so_far.consumed so_far.counted
    c.in-Ok-Some.field-0 c.in-Ok-Some.byte c.in-Ok-Some.field-0-is c.in-Ok-Some.byte-test.1 c.in-Ok-Some.ensures.byte in
    more.less
