use Rattle.std.proofs.Common.{◌≡◌, fold, take}
use Rattle.published_view.specs.View.{seen_after}
use Rattle.displays.proofs.view_copy.absorb_all.Given as goal

abbrev pub invariant-loop-entry : goal.invariant-loop-entry
invariant-loop-entry l = l.view ≡ fold seen_after l.initial.view (take l.entry-index l.entries)
