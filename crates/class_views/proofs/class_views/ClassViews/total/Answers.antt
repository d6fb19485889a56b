use Rattle.std.proofs.Common.{sym, ap, ◌∙◌}
use Rattle.std.specs.Prelude.{Option}
use Rattle.class_views.specs.Totals.{total_for}
use Rattle.class_views.specs.declared.user_class.UserClass.{UserClass}
use Rattle.class_views.proofs.QueryLemmas.{nothing_total}
use Rattle.class_views.proofs.class_views.ClassViews.total.Goals as goal

pub returns-in-Some : goal.returns-in-Some
returns-in-Some c =
    c.class_total.ensures
    ∙ ap (λ (class : Option UserClass). total_for c.args.self.now class c.args.pair) (sym c.in-Some.is)

pub returns-in-None : goal.returns-in-None
returns-in-None c =
    c.nothing_earned.ensures
    ∙ (nothing_total c.args.self.now c.args.pair
    ∙ ap (λ (class : Option UserClass). total_for c.args.self.now class c.args.pair) (sym c.in-None.is))
