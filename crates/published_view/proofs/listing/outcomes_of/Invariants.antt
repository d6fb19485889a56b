use Rattle.std.proofs.Common.{◌≡◌, take}
use Rattle.published_view.specs.Listing.{outcomes_of}
use Rattle.published_view.proofs.listing.outcomes_of.Given as goal

abbrev pub invariant-loop-found : goal.invariant-loop-found
invariant-loop-found l = l.outcomes.items ≡ outcomes_of (take l.found-index l.results)
