use Rattle.class_views.proofs.AlikeLemmas.{same_class_rule}
use Rattle.class_views.proofs.laws.a_class_is_treated_alike.Goals as goal

pub returns : goal.returns
returns c = same_class_rule
