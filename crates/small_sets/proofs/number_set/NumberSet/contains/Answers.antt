use Rattle.std.proofs.Common.{◌⊎◌, ◌<◌, sym, ap, ◌∙◌, nat_eq, arith, inl, inr, subst}
use Rattle.std.proofs.lemmas.Bool.{cases_lt}
use Rattle.std.proofs.lemmas.Nat.Bits.{shr_and_one}
use Rattle.small_sets.specs.Numbers.{has_number, IsSetUpTo}
use Rattle.small_sets.proofs.NumberBitsLemmas.{has_number-numbers_of_bits, has_none_of_bits, set_of_bits}
use Rattle.small_sets.proofs.number_set.NumberSet.contains.Goals as goal

pub returns-then-number-lt1-clause-has : goal.returns-then-number-lt1-clause-has
returns-then-number-lt1-clause-has g c =
    let out : (c.args.number < 1) ⊎ (g.row.MOST < c.args.number) = elim (cases_lt c.args.number 1)
    [ inl low ↦ inl low | inr from ↦ inr (omega arith) ] in
    sym (has_none_of_bits g.row.MOST c.self.inside.bits c.args.number out)
    ∙ ap (λ numbers. has_number numbers c.args.number) c.self.view_is

pub returns-then-number-lt1-clause-up_to : goal.returns-then-number-lt1-clause-up_to
returns-then-number-lt1-clause-up_to g c = subst (IsSetUpTo g.row.MOST) c.self.view_is
    (set_of_bits g.row.MOST c.self.inside.bits)

pub returns-clause-has : goal.returns-clause-has
returns-clause-has g c =
    ap (λ n. nat_eq n 1) (shr_and_one c.self.inside.bits _)
    ∙ sym (has_number-numbers_of_bits g.row.MOST c.self.inside.bits c.args.number (omega arith) (omega arith))
    ∙ ap (λ numbers. has_number numbers c.args.number) c.self.view_is

pub returns-clause-up_to : goal.returns-clause-up_to
returns-clause-up_to g c = subst (IsSetUpTo g.row.MOST) c.self.view_is (set_of_bits g.row.MOST c.self.inside.bits)
