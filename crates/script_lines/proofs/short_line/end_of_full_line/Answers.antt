use Rattle.std.proofs.Common.{ℕ, List, Option, Some, None, ◌++◌, ◌∷◌, [], subst, append-nil, arith}
use Rattle.std.specs.Io.KnownBytes.{Consumes}
use Rattle.std.proofs.KnownBytes.{Consumes-trans}
use Rattle.script_lines.specs.NextByte.{TakesByte}
use Rattle.script_lines.proofs.ShortLineLemmas.{longer_at_once, longer_after, longer_at_end}
use Rattle.script_lines.proofs.NextByteLemmas.{fails_after}
use Rattle.script_lines.proofs.short_line.end_of_full_line.Goals as goal

pub returns-then-byte-ne13-clause-line : goal.returns-then-byte-ne13-clause-line
returns-then-byte-ne13-clause-line g c before line most all unbroken full consumed counted =
    longer_at_once before (g.R.ByteSource.remaining c.args.reader.now) line most all c.args.left.now unbroken full c.args.byte
    c.requires c.if-byte-ne13.true consumed counted

pub returns-else-next-eq10-clause-line : goal.returns-else-next-eq10-clause-line
returns-else-next-eq10-clause-line g c before line most all unbroken full consumed counted =
    let reader : Option (List ℕ) = g.R.ByteSource.remaining c.args.reader.now in
    let after : Option (List ℕ) = g.R.ByteSource.remaining c.take_byte.new.reader in
    let taken : TakesByte (Some c.in-Ok-Some.next) reader after c.args.left.now c.take_byte.new.left =
    subst (λ o. TakesByte o reader after c.args.left.now c.take_byte.new.left) c.in-Ok-Some.field-0-is
    c.in-Ok-Some.ensures.byte in
    let first : Consumes before reader (line ++ 13 ∷ []) = subst (λ b. Consumes before reader (line ++ b ∷ []))
    c.if-byte-ne13.false consumed in
    longer_after before after line most all c.take_byte.new.left unbroken full c.in-Ok-Some.next c.if-next-eq10.false
    (Consumes-trans before reader after (line ++ 13 ∷ []) (c.in-Ok-Some.next ∷ []) first taken.0)
    (omega (arith, counted, taken.1))

pub returns-in-Ok-None-clause-line : goal.returns-in-Ok-None-clause-line
returns-in-Ok-None-clause-line g c before line most all unbroken full consumed counted =
    let reader : Option (List ℕ) = g.R.ByteSource.remaining c.args.reader.now in
    let after : Option (List ℕ) = g.R.ByteSource.remaining c.take_byte.new.reader in
    let taken : TakesByte None reader after c.args.left.now c.take_byte.new.left =
    subst (λ o. TakesByte o reader after c.args.left.now c.take_byte.new.left) c.in-Ok-None.field-0-is
    c.in-Ok-None.ensures.byte in
    let first : Consumes before reader (line ++ 13 ∷ []) = subst (λ b. Consumes before reader (line ++ b ∷ []))
    c.if-byte-ne13.false consumed in
    longer_at_end before after line most all c.take_byte.new.left unbroken full
    (subst (Consumes before after) (append-nil (line ++ 13 ∷ [])) (Consumes-trans before reader after (line ++ 13 ∷ [])
    [] first taken.0)) taken.1 (omega (arith, counted, taken.2))

pub returns-in-Err-clause-fault : goal.returns-in-Err-clause-fault
returns-in-Err-clause-fault g c before line most all unbroken full consumed counted =
    let reader : Option (List ℕ) = g.R.ByteSource.remaining c.args.reader.now in
    fails_after g.R.ByteSource.fails before reader (g.R.ByteSource.remaining c.take_byte.new.reader) line most all c.args.left.now
    c.take_byte.new.left unbroken full
    (subst (λ b. Consumes before reader (line ++ b ∷ [])) c.if-byte-ne13.false consumed) counted c.in-Err.fault
    c.in-Err.ensures.input c.in-Err.ensures.fault
