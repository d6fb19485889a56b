use Rattle.std.proofs.Common.{◌≡◌, [], ℕ, ◌<◌, ◌≤◌, get_or}
use Rattle.rbac.specs.Hierarchy.{below, with_below}
use Rattle.rbac.proofs.hierarchy.Hierarchy.with.Given as goal

abbrev pub invariant-loop-set : goal.invariant-loop-set
invariant-loop-set l =
    record {
      more : l.more ≡ below l.self.reached l.pair.junior;
      done : (k : ℕ) → k < l.set-index → get_or l.set-items k [] ≡ with_below l.self.reached l.pair
          (get_or l.self.reached k []);
      left : (k : ℕ) → l.set-index ≤ k → get_or l.set-items k [] ≡ get_or l.self.reached k [];
    }
