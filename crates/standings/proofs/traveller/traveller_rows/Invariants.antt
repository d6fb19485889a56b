use Rattle.std.proofs.Common.{◌≡◌, take, map}
use Rattle.standings.specs.Traveller.{traveller_row}
use Rattle.standings.proofs.traveller.traveller_rows.Given as goal

abbrev pub invariant-loop-found : goal.invariant-loop-found
invariant-loop-found l = l.rows.items ≡ map (traveller_row l.movement l.fn.vulnerability l.scores.items)
    (take l.found-index l.results)
