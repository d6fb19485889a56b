use Rattle.std.proofs.Common.{◌∙◌, inl, subst}
use Rattle.operator_lines.specs.Telling.{TellsLine}
use Rattle.operator_lines.proofs.obstacle.status_of_port.Goals as goal

pub returns-in-Ok-clause-told : goal.returns-in-Ok-clause-told
returns-in-Ok-clause-told g c =
    inl (subst
    (TellsLine (g.E.Write.contents c.args.errors.now) (g.E.Write.contents c.tell.new.errors))
    (c.as_str.ensures.value ∙ c.in-Ok.ensures) c.tell.ensures)
