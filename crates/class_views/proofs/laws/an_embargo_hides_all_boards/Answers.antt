use Rattle.std.proofs.Common.{sym}
use Rattle.class_views.proofs.ClassLemmas.{class_sees_now}
use Rattle.class_views.proofs.QueryLemmas.{nothing_total_shown}
use Rattle.class_views.proofs.laws.an_embargo_hides_all_boards.Goals as goal

pub returns-clause-sees : goal.returns-clause-sees
returns-clause-sees c public class board = class_sees_now public board class

pub returns-clause-totals : goal.returns-clause-totals
returns-clause-totals c state class pair closed = sym (nothing_total_shown state class pair closed)
