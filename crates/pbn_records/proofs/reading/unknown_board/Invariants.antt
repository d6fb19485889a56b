use Rattle.pbn_records.specs.Each.{KnowsFirst}
use Rattle.pbn_records.proofs.reading.unknown_board.Given as goal

abbrev pub invariant-loop-index : goal.invariant-loop-index
invariant-loop-index l = KnowsFirst l.known l.index
