use Rattle.std.proofs.Common.{sym, ap, ◌∙◌}
use Rattle.session_state.specs.Apply.{apply}
use Rattle.session_book.proofs.JournalLemmas.{replayed_more}
use Rattle.session_book.proofs.TouchedLemmas.{noted_by_touched}
use Rattle.session_book.proofs.book.absorb.Goals as goal

pub returns : goal.returns
returns c opening journal all replayed noted = (
  c.absorb.ensures ∙ (ap (λ state. apply state c.args.entry.now) replayed
      ∙ sym (replayed_more opening journal c.args.entry.now)),
  noted_by_touched opening journal c.args.entry.now c.args.state.now c.absorb.new.self c.args.exposure.now
      c.ask_touched.new.self c.touched-touched.result c.args.boards replayed c.absorb.ensures
      c.ask_touched.ensures.valid c.touched-touched.ensures all c.requires noted c.ask_touched.ensures.asked,
)
