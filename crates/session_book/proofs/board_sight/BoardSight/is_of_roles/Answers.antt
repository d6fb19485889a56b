use Rattle.std.proofs.Common.{sym, ap, ◌∙◌, List}
use Rattle.std.specs.Prelude.{Option, None, is_none}
use Rattle.session_roles.specs.declared.role.Role.{Role}
use Rattle.disclosure_rules.specs.Policy.{first_rule}
use Rattle.disclosure_rules.specs.declared.fact.Fact.TheVariants.{Hands}
use Rattle.session_book.proofs.OnlookerLemmas.{roles_same, seated_so}
use Rattle.session_book.proofs.board_sight.BoardSight.is_of_roles.Goals as goal

pub returns-then-eq-clause-sees : goal.returns-then-eq-clause-sees
returns-then-eq-clause-sees c =
    let sight = c.args.self.now in
    sight.told
    ∙ ap (λ (roles : Option (List Role)). is_none (first_rule sight.state.now.public (seated_so roles None)
    (Hands sight.board))) (roles_same sight.roles c.args.roles (sym c.eq.ensures ∙ c.if-eq.true))
