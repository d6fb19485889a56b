use Rattle.std.proofs.Common.{◌≡◌, subst, sym, arith}
use Rattle.std.specs.Int.{w128}
use Rattle.std.proofs.lemmas.Bool.{eqb-true, eq-eqb}
use Rattle.small_sets.specs.Numbers.{AreAmong}
use Rattle.small_sets.specs.NumberBits.{numbers_of_bits}
use Rattle.small_sets.proofs.NumberBitsLemmas.{among_from_bits, bits_from_among}
use Rattle.small_sets.proofs.number_set.NumberSet.is_subset.Goals as goal

pub returns : goal.returns
returns g c =
    let most = g.row.MOST in
    let a = c.self.inside.bits in
    let b = c.other.inside.bits in
    let same : AreAmong (numbers_of_bits most a) (numbers_of_bits most b) ≡ AreAmong c.args.self c.args.other =
    λ i. AreAmong (c.self.view_is i) (c.other.view_is i) in (
      λ none. subst (λ P. P) same (among_from_bits w128 most a b c.self.invariant.0 (omega arith) (eqb-true _ _ none)),
      λ among. eq-eqb _ _ (bits_from_among w128 most a b c.self.invariant.0 c.self.invariant.1 (omega arith)
          (subst (λ P. P) (sym same) among)),
    )
