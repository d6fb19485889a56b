use Rattle.std.specs.Prelude.{None, replicate}
use Rattle.pbn_records.proofs.InOrderLemmas.{none_read}
use Rattle.pbn_records.proofs.KnownLemmas.{none_yet}
use Rattle.pbn_records.proofs.known_boards.KnownBoards.new.Goals as goal

pub invariant_of-result : goal.invariant_of-result
invariant_of-result c = record {
  same = none_read (replicate 256 None) c.new.result (λ number. none_yet 256 number None)
      c.new.ensures.empty;
}

pub returns : goal.returns
returns c = λ number. none_yet 256 number None
