use Rattle.session_object.proofs.SessionLemmas.{edition_found, no_edition_found}
use Rattle.session_check.proofs.misread.edition_numbered.Goals as goal

pub returns-in-Some : goal.returns-in-Some
returns-in-Some c = edition_found c.args.number c.in-Some.edition c.in-Some.ensures.found

pub returns-in-None : goal.returns-in-None
returns-in-None c = no_edition_found c.args.number c.in-None.ensures.none
