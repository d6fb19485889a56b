use Rattle.std.proofs.Common.{subst}
use Rattle.program.specs.Standing.{StandsAfter}
use Rattle.program.proofs.ScriptLemmas.{done_from, ended_from, ended_at_first}
use Rattle.program.proofs.script.run_script.Goals as goal

pub returns-in-Ok-clause-done : goal.returns-in-Ok-clause-done
returns-in-Ok-clause-done g c =
    let reader = g.R.ByteSource.remaining c.args.reader.now in
    let writer = g.W.TextSink.contents c.args.writer.now in
    done_from reader writer _ _ _ _ c.respond_to_rest.result (c.respond_to_rest.ensures.done reader writer
    (c.in-Ok.ensures.opened writer))

pub returns-in-Ok-clause-ended : goal.returns-in-Ok-clause-ended
returns-in-Ok-clause-ended g c =
    let reader = g.R.ByteSource.remaining c.args.reader.now in
    let writer = g.W.TextSink.contents c.args.writer.now in
    ended_from g.R.ByteSource.fails g.W.TextSink.fails reader writer _ _ c.respond_to_rest.result (λ input known. c.respond_to_rest.ensures.ends input writer
    (subst (λ o. StandsAfter c.in-Ok.run'.first o writer (g.R.ByteSource.remaining c.open.new.reader) writer
    c.in-Ok.run'.keeper c.in-Ok.run'.left) known (c.in-Ok.ensures.opened writer)))

pub returns-in-Err-clause-ended : goal.returns-in-Err-clause-ended
returns-in-Err-clause-ended g c =
    ended_at_first g.R.ByteSource.fails g.W.TextSink.fails (g.R.ByteSource.remaining c.args.reader.now) _
    (g.W.TextSink.contents c.args.writer.now) _ (c.in-Err.ensures.ended (g.W.TextSink.contents c.args.writer.now))
