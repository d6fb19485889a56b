use Rattle.std.proofs.Common.{[], sym, subst}
use Rattle.session_book.specs.ExposureTable.{IsNoted}
use Rattle.session_book.specs.Journal.{replay}
use Rattle.session_book.proofs.book.replay.Goals as goal

pub loop-entry-init : goal.loop-entry-init
unfolding replay
loop-entry-init c = (
  c.copy_from.ensures,
  subst (λ state. IsNoted c.args.opening.now [] state c.set_back.new.self) (sym c.copy_from.ensures) c.set_back.ensures,
)
