use Rattle.std.proofs.Common.{◌∙◌}
use Rattle.pbn_records.specs.Shown.{values_read}
use Rattle.pbn_records.specs.Kept.{earlier_of}
use Rattle.pbn_records.proofs.FaultLemmas.{first_of_four}
use Rattle.pbn_records.proofs.reader.first_fault.Goals as goal

pub returns : goal.returns
returns c = λ first knows.
    first_of_four c.args.board first (values_read c.args.values.now) _ _ _ _ _
    (c.tag_fault-of_board.ensures first knows) (c.tag_fault-of_dealer.ensures first knows)
    (c.tag_fault-of_vulnerable.ensures first knows) (c.tag_fault-of_deal.ensures first knows)
    (c.earlier-3.ensures ∙ (λ i. earlier_of (c.earlier.ensures i) (c.earlier-2.ensures i)))
