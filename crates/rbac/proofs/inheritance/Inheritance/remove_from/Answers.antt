use Rattle.std.proofs.Common.{rules}
use Rattle.std.specs.Prelude.{not}
use Rattle.std.proofs.lemmas.Fn.{filter_same}
use Rattle.rbac.specs.declared.inheritance.Inheritance.{Inheritance}
use Rattle.rbac.specs.Inheritance.{same_inheritance}
use Rattle.rbac.proofs.inheritance.Inheritance.remove_from.Goals as goal

pub returns-clause-items : goal.returns-clause-items
returns-clause-items c =
    filter_same _ (λ (pair : Inheritance). not (same_inheritance pair c.args.self)) _ (λ x b kept called. search rules)
    c.args.pairs.now.items c.retain.new.self.items c.retain.ensures.filtered
