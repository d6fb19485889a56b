use Rattle.journal_store.proofs.RestartLemmas.{whole_publications}
use Rattle.journal_store.proofs.laws.whole_publications_are_found.Goals as goal

pub returns : goal.returns
returns c = whole_publications
