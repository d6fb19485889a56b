use Rattle.continued_history.proofs.PublicationLemmas.{tell, enterable}
use Rattle.continued_history.proofs.laws.publications_tell_a_history.Goals as goal

pub returns-clause-entries : goal.returns-clause-entries
returns-clause-entries c opening history is = (tell opening history is).entries

pub returns-clause-versions : goal.returns-clause-versions
returns-clause-versions c opening history is = (tell opening history is).versions

pub returns-clause-enterable : goal.returns-clause-enterable
returns-clause-enterable c = enterable
