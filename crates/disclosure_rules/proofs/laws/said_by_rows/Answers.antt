use Rattle.disclosure_rules.proofs.SeatingTests.{complete_decides, plays_board_decides, still_decides, seated_decides}
use Rattle.disclosure_rules.proofs.laws.said_by_rows.Goals as goal

pub returns-clause-complete : goal.returns-clause-complete
returns-clause-complete c = complete_decides

pub returns-clause-plays : goal.returns-clause-plays
returns-clause-plays c = plays_board_decides

pub returns-clause-still : goal.returns-clause-still
returns-clause-still c = still_decides

pub returns-clause-seated : goal.returns-clause-seated
returns-clause-seated c = seated_decides
