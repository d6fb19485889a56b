use Rattle.std.proofs.Common.{ℕ, Option, Some, None, refl, sym, subst, ◌∙◌, arith}
use Rattle.session_check.specs.Users.{TellsAt}
use Rattle.session_check.proofs.checking.other_at.Goals as goal

pub user_at-requires : goal.user_at-requires
user_at-requires c = omega (arith, c.in-Some.ensures.before, c.requires)

pub returns-in-Some : goal.returns-in-Some
returns-in-Some c = λ d.
    subst (λ (o : Option ℕ). TellsAt c.args.users.now o (Some c.user_at.result))
    (sym c.in-Some.is ∙ c.first_in_the_way.ensures.first d) c.user_at.ensures

pub returns-in-None : goal.returns-in-None
returns-in-None c = λ d.
    subst (λ (o : Option ℕ). TellsAt c.args.users.now o None) (sym c.in-None.is ∙ c.first_in_the_way.ensures.first d) refl
