use Rattle.std.proofs.Common.{◌≡◌, ◌+◌, ◌≤◌, vec_len, rules, refl, sym, ap, subst, ◌∙◌, arith}
use Rattle.wire.specs.Request.{most_message_bytes, is_message_text, script_meaning}
use Rattle.wire.proofs.LineLemmas.{first_bytes_are_text}
use Rattle.program.specs.Writes.{Responds, EndsOver}
use Rattle.program.proofs.ResponseLemmas.{first_bytes_meant, responds_whole}
use Rattle.program.proofs.ScriptLemmas.{
  isnt_empty,
  kept_none,
  kept_some,
  passed_over,
  responded_next,
  cut_short,
  broken,
  ends_unwritten,
  fewer,
}
use Rattle.program.proofs.script.ScriptRun.respond_next.Goals as goal

pub returns-then-is_empty-clause-goes_on : goal.returns-then-is_empty-clause-goes_on
returns-then-is_empty-clause-goes_on g c input before at =
    let line = c.in-Ok.ensures.line in
    let none : vec_len c.read_line.new.line ≡ 0 = search rules in
    passed_over input before _ _ _ _ _ _ _ _ line.whole c.in-Ok.end at line.takes
    (kept_none most_message_bytes c.read_line.new.line.items line.whole line.kept (sym c.read_line.new.line.ok.0
    ∙ none)) refl refl

pub returns-then-is_empty-clause-fewer : goal.returns-then-is_empty-clause-fewer
returns-then-is_empty-clause-fewer g c = fewer c.in-Ok.end _ _ _ _ _ c.in-Ok.ensures.line.takes

pub returns-in-Ok-respond-clause-fewer : goal.returns-in-Ok-respond-clause-fewer
returns-in-Ok-respond-clause-fewer g c = fewer c.in-Ok.end _ _ _ _ _ c.in-Ok.ensures.line.takes

pub returns-in-Ok-respond-clause-goes_on : goal.returns-in-Ok-respond-clause-goes_on
returns-in-Ok-respond-clause-goes_on g c input before at =
    let some : 1 ≤ vec_len c.read_line.new.line = isnt_empty _ (sym c.is_empty.ensures ∙ c.if-is_empty.false) in
    let (text, tells, whole, part) = c.respond.ensures.response in
    let line = c.in-Ok.ensures.line in
    let opening = c.args.self.now.keeper.opening in
    let same = ap (script_meaning opening.public.edition) line.kept ∙ first_bytes_meant opening line.whole in
    let texts = ap is_message_text line.kept ∙ first_bytes_are_text line.whole in
    responded_next input before (g.R.ByteSource.remaining c.args.reader.now) (g.R.ByteSource.remaining c.read_line.new.reader)
    (g.W.TextSink.contents c.args.writer.now) (g.W.TextSink.contents c.respond.new.writer)
    c.args.self.now.keeper c.respond.new.keeper c.args.self.now.left c.read_line.new.left line.whole c.in-Ok.end at
    line.takes
    (kept_some most_message_bytes c.read_line.new.line.items line.whole line.kept
    (subst (λ n. 1 ≤ n) c.read_line.new.line.ok.0 some)) c.respond.ensures.opening text
    (responds_whole _ _ c.read_line.new.line.items line.whole _ text same texts
    (subst (λ l. Responds c.args.self.now.keeper.opening c.args.self.now.keeper.journal l c.respond.new.keeper.journal
    text) c.as_slice.ensures.value tells)) (search rules)

pub returns-in-Err-respond-clause-ends : goal.returns-in-Err-respond-clause-ends
returns-in-Err-respond-clause-ends g c input before at =
    let some : 1 ≤ vec_len c.read_line.new.line = isnt_empty _ (sym c.is_empty.ensures ∙ c.if-is_empty.false) in
    let (text, tells, whole, part) = c.in-Err-respond.ensures.response in
    let line = c.in-Ok.ensures.line in
    let opening = c.args.self.now.keeper.opening in
    let same = ap (script_meaning opening.public.edition) line.kept ∙ first_bytes_meant opening line.whole in
    let texts = ap is_message_text line.kept ∙ first_bytes_are_text line.whole in
    subst (λ fault. EndsOver g.R.ByteSource.fails g.W.TextSink.fails fault input
    (g.R.ByteSource.remaining c.read_line.new.reader) before (g.W.TextSink.contents c.respond.new.writer))
    (sym c.fault_of_write.ensures)
    (ends_unwritten g.R.ByteSource.fails g.W.TextSink.fails c.in-Err-respond.fault input
    (g.R.ByteSource.remaining c.read_line.new.reader) before (g.W.TextSink.contents c.respond.new.writer)
    c.in-Err-respond.ensures.fault
    (broken input before (g.R.ByteSource.remaining c.args.reader.now) (g.R.ByteSource.remaining c.read_line.new.reader)
    (g.W.TextSink.contents c.args.writer.now) (g.W.TextSink.contents c.respond.new.writer)
    c.args.self.now.keeper c.args.self.now.left c.read_line.new.left line.whole c.in-Ok.end at line.takes
    (kept_some most_message_bytes c.read_line.new.line.items line.whole line.kept
    (subst (λ n. 1 ≤ n) c.read_line.new.line.ok.0 some)) c.respond.new.keeper.journal text
    (responds_whole _ _ c.read_line.new.line.items line.whole _ text same texts
    (subst (λ l. Responds c.args.self.now.keeper.opening c.args.self.now.keeper.journal l c.respond.new.keeper.journal
    text) c.as_slice.ensures.value tells)) part))

pub returns-in-Err-clause-ends : goal.returns-in-Err-clause-ends
returns-in-Err-clause-ends g c input before at =
    let reader = g.R.ByteSource.remaining c.read_line.new.reader in
    let writer = g.W.TextSink.contents c.args.writer.now in
    subst (λ fault. EndsOver g.R.ByteSource.fails g.W.TextSink.fails fault input reader before writer)
    (sym c.fault_of_read.ensures)
    (cut_short g.R.ByteSource.fails g.W.TextSink.fails c.in-Err.fault input before
    (g.R.ByteSource.remaining c.args.reader.now) reader writer c.args.self.now.keeper
    c.args.self.now.left c.read_line.new.left (most_message_bytes + 2) c.read_line.new.line.items (omega arith) at c.in-Err.ensures.fault)
