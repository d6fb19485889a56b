use Rattle.std.proofs.Common.{
  ◌≡◌,
  ◌+◌,
  ◌<◌,
  ◌≤◌,
  ◌∷◌,
  [],
  ◌++◌,
  Some,
  length,
  sym,
  ap,
  subst,
  length-append,
  ◌∙◌,
  rules,
  arith,
}
use Rattle.script_lines.specs.NextByte.{TakesByte}
use Rattle.script_lines.specs.Reading.{IsUnbroken}
use Rattle.std.specs.Io.KnownBytes.{Consumes}
use Rattle.std.proofs.lemmas.List.{take_all}
use Rattle.script_lines.proofs.NextByteLemmas.{no_longer, ends_here, is_rest, goes_on, fails_for, fails_for_memory}
use Rattle.script_lines.proofs.short_line.read_short_line.Goals as goal

pub returns-in-Ok-Some-eq10-clause-line : goal.returns-in-Ok-Some-eq10-clause-line
returns-in-Ok-Some-eq10-clause-line g c =
    let so_far = c.loop-line.invariant in
    let before = g.R.ByteSource.remaining c.args.reader.now in
    let reader = g.R.ByteSource.remaining c.loop-line.reader in
    let after = g.R.ByteSource.remaining c.take_byte.new.reader in
    let taken : TakesByte (Some 10) reader after c.loop-line.left c.take_byte.new.left = search rules in (
      ends_here before reader after c.loop-line.line.items c.args.left.now c.loop-line.left c.take_byte.new.left
          so_far.unbroken so_far.consumed so_far.counted taken c.drop_return.new.line.items c.drop_return.ensures,
      omega (arith, so_far.few, ap length c.drop_return.ensures, no_longer c.loop-line.line.items),
    )

pub returns-in-Ok-Some-eq10-clause-kept : goal.returns-in-Ok-Some-eq10-clause-kept
returns-in-Ok-Some-eq10-clause-kept g c =
    omega (arith, c.loop-line.invariant.few, ap length c.drop_return.ensures, no_longer c.loop-line.line.items)

pub returns-in-Ok-None-clause-line : goal.returns-in-Ok-None-clause-line
returns-in-Ok-None-clause-line g c =
    let so_far = c.loop-line.invariant in
    let before = g.R.ByteSource.remaining c.args.reader.now in
    let reader = g.R.ByteSource.remaining c.loop-line.reader in
    let after = g.R.ByteSource.remaining c.take_byte.new.reader in (
      is_rest before reader after c.loop-line.line.items c.args.left.now c.loop-line.left c.take_byte.new.left
          so_far.unbroken so_far.consumed so_far.counted c.in-Ok-None.field-0 c.in-Ok-None.field-0-is
          c.in-Ok-None.ensures.byte,
      so_far.few,
    )

pub returns-then-len-most-clause-line : goal.returns-then-len-most-clause-line
returns-then-len-most-clause-line g c =
    let so_far = c.loop-line.invariant in
    let before = g.R.ByteSource.remaining c.args.reader.now in
    let reader = g.R.ByteSource.remaining c.loop-line.reader in
    let after = g.R.ByteSource.remaining c.take_byte.new.reader in
    let more =
    goes_on before reader after c.loop-line.line.items c.args.left.now c.loop-line.left c.take_byte.new.left
    so_far.unbroken so_far.consumed so_far.counted
    c.in-Ok-Some.field-0 c.in-Ok-Some.byte c.in-Ok-Some.field-0-is c.in-Ok-Some.byte-test.1 c.in-Ok-Some.ensures.byte in
    let full : length c.loop-line.line.items ≡ c.args.most = search rules in
    c.end_of_full_line.ensures.line before c.loop-line.line.items c.args.most c.args.left.now so_far.unbroken full
    more.consumed
    (omega (arith, more.counted, length-append c.loop-line.line.items (c.in-Ok-Some.byte ∷ [])))

pub returns-then-len-most-clause-fault : goal.returns-then-len-most-clause-fault
returns-then-len-most-clause-fault g c =
    let so_far = c.loop-line.invariant in
    let before = g.R.ByteSource.remaining c.args.reader.now in
    let reader = g.R.ByteSource.remaining c.loop-line.reader in
    let after = g.R.ByteSource.remaining c.take_byte.new.reader in
    let more =
    goes_on before reader after c.loop-line.line.items c.args.left.now c.loop-line.left c.take_byte.new.left
    so_far.unbroken so_far.consumed so_far.counted
    c.in-Ok-Some.field-0 c.in-Ok-Some.byte c.in-Ok-Some.field-0-is c.in-Ok-Some.byte-test.1 c.in-Ok-Some.ensures.byte in
    let full : length c.loop-line.line.items ≡ c.args.most = search rules in
    c.end_of_full_line.ensures.fault before c.loop-line.line.items c.args.most c.args.left.now so_far.unbroken full
    more.consumed
    (omega (arith, more.counted, length-append c.loop-line.line.items (c.in-Ok-Some.byte ∷ [])))

pub returns-then-is_err-clause-fault : goal.returns-then-is_err-clause-fault
returns-then-is_err-clause-fault g c =
    let so_far = c.loop-line.invariant in
    let before = g.R.ByteSource.remaining c.args.reader.now in
    let reader = g.R.ByteSource.remaining c.loop-line.reader in
    let after = g.R.ByteSource.remaining c.take_byte.new.reader in
    let more =
    goes_on before reader after c.loop-line.line.items c.args.left.now c.loop-line.left c.take_byte.new.left
    so_far.unbroken so_far.consumed so_far.counted
    c.in-Ok-Some.field-0 c.in-Ok-Some.byte c.in-Ok-Some.field-0-is c.in-Ok-Some.byte-test.1 c.in-Ok-Some.ensures.byte in
    let same : c.push.new.self.items ≡ c.loop-line.line.items = search rules in
    let room : length c.loop-line.line.items < c.args.most = omega arith in
    fails_for_memory before reader after c.loop-line.line.items c.args.left.now c.loop-line.left c.take_byte.new.left
    so_far.unbroken so_far.consumed so_far.counted
    c.in-Ok-Some.byte c.args.most c.in-Ok-Some.byte-test.1 more c.push.new.self.items same
    (omega (arith, room, ap length same))

pub returns-in-Err-clause-fault : goal.returns-in-Err-clause-fault
returns-in-Err-clause-fault g c =
    let so_far = c.loop-line.invariant in
    let before = g.R.ByteSource.remaining c.args.reader.now in
    let reader = g.R.ByteSource.remaining c.loop-line.reader in
    let after = g.R.ByteSource.remaining c.take_byte.new.reader in
    fails_for before reader after c.loop-line.line.items c.args.left.now c.loop-line.left c.take_byte.new.left
    so_far.unbroken so_far.consumed so_far.counted
    g.R.ByteSource.fails c.in-Err.fault c.in-Err.ensures.input c.in-Err.ensures.fault c.args.most c.loop-line.line.items
    (sym (take_all c.args.most c.loop-line.line.items so_far.few))

pub loop-line-preserved : goal.loop-line-preserved
loop-line-preserved g c =
    let so_far = c.loop-line.invariant in
    let before = g.R.ByteSource.remaining c.args.reader.now in
    let reader = g.R.ByteSource.remaining c.loop-line.reader in
    let after = g.R.ByteSource.remaining c.take_byte.new.reader in
    let more =
    goes_on before reader after c.loop-line.line.items c.args.left.now c.loop-line.left c.take_byte.new.left
    so_far.unbroken so_far.consumed so_far.counted
    c.in-Ok-Some.field-0 c.in-Ok-Some.byte c.in-Ok-Some.field-0-is c.in-Ok-Some.byte-test.1 c.in-Ok-Some.ensures.byte in
    let pushed : c.push.new.self.items ≡ c.loop-line.line.items ++ c.in-Ok-Some.byte ∷ [] = search rules in
    let room : length c.loop-line.line.items + 1 ≤ c.args.most = omega arith in
    record {
      unbroken = subst IsUnbroken (sym pushed) more.unbroken;
      consumed = subst (Consumes before after) (sym pushed) more.consumed;
      counted = omega (arith, more.counted, ap length pushed);
      few = omega (arith, room, ap length pushed, length-append c.loop-line.line.items (c.in-Ok-Some.byte ∷ []));
      same = c.take_byte.ensures.same ∙ so_far.same;
    }

pub loop-line-smaller : goal.loop-line-smaller
loop-line-smaller g c =
    let so_far = c.loop-line.invariant in
    let before = g.R.ByteSource.remaining c.args.reader.now in
    let reader = g.R.ByteSource.remaining c.loop-line.reader in
    let after = g.R.ByteSource.remaining c.take_byte.new.reader in
    let more =
    goes_on before reader after c.loop-line.line.items c.args.left.now c.loop-line.left c.take_byte.new.left
    so_far.unbroken so_far.consumed so_far.counted
    c.in-Ok-Some.field-0 c.in-Ok-Some.byte c.in-Ok-Some.field-0-is c.in-Ok-Some.byte-test.1 c.in-Ok-Some.ensures.byte in
    more.less
