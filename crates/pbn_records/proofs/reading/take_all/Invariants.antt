use Rattle.std.proofs.Common.{◌≡◌, ◌-◌, length}
use Rattle.pbn_records.specs.InText.{StandsInText}
use Rattle.pbn_records.proofs.reading.take_all.Given as goal

abbrev pub invariant-loop-found : goal.invariant-loop-found
invariant-loop-found l = record {
  stands : StandsInText l.text l.pieces l.fn.state.boards l.state;
  offset : l.offset ≡ length l.text - length l.pieces.rest;
}

abbrev pub decreases-loop-found : goal.decreases-loop-found
decreases-loop-found l = length l.pieces.rest
