use Rattle.std.proofs.Common.{◌≡◌, ◌-◌, length, take, vec_len}
use Rattle.published_view.proofs.answers_of_state.pairs_of.Given as goal

abbrev pub invariant-loop-senior : goal.invariant-loop-senior
invariant-loop-senior l = l.pairs.items ≡ take (vec_len l.pairs) l.state.roles.pairs

abbrev pub decreases-loop-senior : goal.decreases-loop-senior
decreases-loop-senior l = length l.state.roles.pairs - vec_len l.pairs
