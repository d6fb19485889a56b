use Rattle.session_book.proofs.TouchedLemmas.{untouched_exposed}
use Rattle.session_book.proofs.laws.only_the_touched_are_newly_exposed.Goals as goal

pub returns : goal.returns
returns c = untouched_exposed
