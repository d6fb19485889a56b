use Rattle.event_log.proofs.MendLemmas.{part_at_once, part_behind, whole_behind}
use Rattle.event_log.proofs.event_log.EventLog.write_behind.Goals as goal

pub returns-in-Ok-clause-whole : goal.returns-in-Ok-clause-whole
returns-in-Ok-clause-whole g c = λ done.
    let rest = c.write_line.ensures.whole done in (
      whole_behind (g.W.Write.contents c.args.self.now.writer) (g.W.Write.contents c.write_text.new.writer)
          (g.W.Write.contents c.write_line.new.self.writer) c.args.line.now c.in-Ok.ensures.whole rest.0,
      rest.1,
    )

pub returns-in-Ok-clause-part : goal.returns-in-Ok-clause-part
returns-in-Ok-clause-part g c = λ failed.
    part_behind (g.W.Write.contents c.args.self.now.writer) (g.W.Write.contents c.write_text.new.writer)
    (g.W.Write.contents c.write_line.new.self.writer) c.args.line.now c.in-Ok.ensures.whole
    (c.write_line.ensures.part failed)

pub returns-in-Err-clause-part : goal.returns-in-Err-clause-part
returns-in-Err-clause-part g c = λ _.
    part_at_once (g.W.Write.contents c.args.self.now.writer) (g.W.Write.contents c.write_text.new.writer) c.args.line.now
    c.in-Err.ensures.part
