use Rattle.session_opening.proofs.OpeningLawLemmas.{keeps_separation, has_one}
use Rattle.session_opening.proofs.OpeningPlacedLemmas.{opening_placed}
use Rattle.session_opening.proofs.laws.openings_are_sound.Goals as goal

pub returns-clause-separation : goal.returns-clause-separation
returns-clause-separation c = keeps_separation

pub returns-clause-administrator : goal.returns-clause-administrator
returns-clause-administrator c = has_one

pub returns-clause-seats : goal.returns-clause-seats
returns-clause-seats c = opening_placed
