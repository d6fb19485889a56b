use Rattle.std.proofs.Common.{ℕ, List, Option, Some, None, subst, arith}
use Rattle.script_lines.specs.Reading.{TakesUpTo}
use Rattle.session_object.specs.Reading.{most_bytes}
use Rattle.program.specs.FirstLine.{Opens, BeginsNone}
use Rattle.program.specs.Writes.{script_limit}
use Rattle.program.proofs.ScriptLemmas.{begins, first_refused, first_too_long, first_unread}
use Rattle.program.proofs.script.ScriptRun.open.Goals as goal

pub returns-in-Ok-clause-opened : goal.returns-in-Ok-clause-opened
returns-in-Ok-clause-opened g c writer =
    let reader : Option (List ℕ) = g.R.ByteSource.remaining c.args.reader.now in
    let after : Option (List ℕ) = g.R.ByteSource.remaining c.read_short_line.new.reader in
    let line : List ℕ = c.read_short_line.new.line.items in
    let takes : TakesUpTo (Some c.in-Ok-Some.first) reader after line most_bytes script_limit
    c.read_short_line.new.left =
    subst (λ o. TakesUpTo o reader after line most_bytes script_limit c.read_short_line.new.left)
    c.in-Ok-Some.field-0-is c.in-Ok-Some.ensures.line in
    begins reader after writer c.in-Ok.keeper c.read_short_line.new.left line c.in-Ok-Some.first
    (subst (λ l. Opens l c.in-Ok.keeper.opening) c.as_slice.ensures.value c.in-Ok.ensures.opens) c.in-Ok.ensures.journal
    takes.0

pub returns-in-Err-keeper_of-clause-ended : goal.returns-in-Err-keeper_of-clause-ended
returns-in-Err-keeper_of-clause-ended g c writer =
    let reader : Option (List ℕ) = g.R.ByteSource.remaining c.args.reader.now in
    let after : Option (List ℕ) = g.R.ByteSource.remaining c.read_short_line.new.reader in
    let line : List ℕ = c.read_short_line.new.line.items in
    let takes : TakesUpTo (Some c.in-Ok-Some.first) reader after line most_bytes script_limit
    c.read_short_line.new.left =
    subst (λ o. TakesUpTo o reader after line most_bytes script_limit c.read_short_line.new.left)
    c.in-Ok-Some.field-0-is c.in-Ok-Some.ensures.line in
    first_refused g.R.ByteSource.fails reader after writer c.in-Ok-Some.first line c.read_short_line.new.left c.in-Err-keeper_of.fault
    takes.0 takes.1
    (subst (BeginsNone c.in-Err-keeper_of.fault) c.as_slice.ensures.value c.in-Err-keeper_of.ensures.none)

pub returns-in-Err-clause-ended : goal.returns-in-Err-clause-ended
returns-in-Err-clause-ended g c writer =
    first_unread g.R.ByteSource.fails (g.R.ByteSource.remaining c.args.reader.now) (g.R.ByteSource.remaining c.read_short_line.new.reader) writer
    most_bytes c.read_short_line.new.line.items c.read_short_line.new.left
    c.in-Err.fault _ c.fault_of_read.ensures (omega arith) c.in-Err.ensures.fault

pub returns-in-Ok-None-clause-ended : goal.returns-in-Ok-None-clause-ended
returns-in-Ok-None-clause-ended g c writer =
    let reader : Option (List ℕ) = g.R.ByteSource.remaining c.args.reader.now in
    let after : Option (List ℕ) = g.R.ByteSource.remaining c.read_short_line.new.reader in
    let line : List ℕ = c.read_short_line.new.line.items in
    let takes : TakesUpTo None reader after line most_bytes script_limit c.read_short_line.new.left =
    subst (λ o. TakesUpTo o reader after line most_bytes script_limit c.read_short_line.new.left)
    c.in-Ok-None.field-0-is c.in-Ok-None.ensures.line in
    first_too_long g.R.ByteSource.fails reader after writer c.read_short_line.new.left takes
