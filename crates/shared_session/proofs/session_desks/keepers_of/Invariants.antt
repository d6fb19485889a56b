use Rattle.std.proofs.Common.{◌≡◌, []}
use Rattle.std.specs.Prelude.{All}
use Rattle.std.specs.Vec.Iter.{into_iter_items}
use Rattle.shared_session.proofs.session_desks.keepers_of.Given as goal

-- the displays that are still to come have seen nothing
abbrev pub invariant-loop-display : goal.invariant-loop-display
invariant-loop-display g l = All (λ display. display ≡ []) (into_iter_items l.display-iterator)
