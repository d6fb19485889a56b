use Rattle.std.proofs.Common.{refl}
use Rattle.command_writing.proofs.command.confirmed.Goals as goal

pub returns-clause-value : goal.returns-clause-value
returns-clause-value c =
    c.object.ensures _
    (c.number-2.ensures _ _
    (c.member-2.ensures _ _ (c.member.ensures _ _ (c.number.ensures _ _ c.new.ensures refl) c.try_from_str.ensures)
    c.outcome_value.ensures.value) refl)
