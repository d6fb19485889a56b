use Rattle.std.proofs.Common.{◌≡◌, length}
use Rattle.http1.specs.Fields.{elements, has_option}
use Rattle.page_answers.proofs.codings.has_element.Given as goal

abbrev pub invariant-loop-comma : goal.invariant-loop-comma
invariant-loop-comma l = has_option l.wanted (elements l.rest) ≡ has_option l.wanted (elements l.list)

abbrev pub decreases-loop-comma : goal.decreases-loop-comma
decreases-loop-comma l = length l.rest
