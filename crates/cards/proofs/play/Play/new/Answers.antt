use Rattle.std.proofs.Common.{arith}
use Rattle.cards.proofs.PlayPlacesLemmas.{places_filled}
use Rattle.cards.proofs.play.Play.new.Goals as goal

pub invariant_of-result : goal.invariant_of-result
invariant_of-result c =
    places_filled c.copy_from_slice.new.self c.args.cards.now c.copy_from_slice.ensures.after (omega arith)
