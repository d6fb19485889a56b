use Rattle.std.proofs.Common.{sym, ◌∙◌}
use Rattle.pbn_records.proofs.FaultLemmas.{same_hands, not_other}
use Rattle.pbn_records.proofs.reader.conflict.Goals as goal

pub returns-then-eq-clause-none : goal.returns-then-eq-clause-none
returns-then-eq-clause-none c =
    not_other c.args.known.now c.in-Some.board c.args.deal c.in-Some.is
    (same_hands _ _ (sym c.eq.ensures ∙ c.if-eq.true))
