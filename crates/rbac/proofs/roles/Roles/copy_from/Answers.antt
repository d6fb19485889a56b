use Rattle.std.proofs.Common.{arith}
use Rattle.rbac.proofs.PairLemmas.{few_pairs}
use Rattle.rbac.proofs.roles.Roles.copy_from.Goals as goal

pub refill-requires-2 : goal.refill-requires-2
refill-requires-2 c =
    let few = few_pairs c.other.inside.pairs.items c.other.invariant.valid.once in
    omega (arith, few, c.self.invariant.room)
