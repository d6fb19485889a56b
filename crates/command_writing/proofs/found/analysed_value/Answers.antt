use Rattle.std.proofs.Common.{refl}
use Rattle.command_writing.proofs.found.analysed_value.Goals as goal

pub returns-clause-value : goal.returns-clause-value
returns-clause-value c =
    c.object.ensures _
    (c.number-2.ensures _ _
    (c.member-5.ensures _ _
    (c.member-4.ensures _ _
    (c.member-3.ensures _ _
    (c.member-2.ensures _ _
    (c.member.ensures _ _ (c.number.ensures _ _ c.new.ensures refl) c.try_from_str.ensures)
    c.played_contract.ensures.value) c.found_costs.ensures) c.played_deal.ensures.value)
    c.played_cards.ensures.value) refl)
