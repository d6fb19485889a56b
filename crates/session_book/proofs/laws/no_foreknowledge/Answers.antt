use Rattle.session_book.proofs.SpoilerLemmas.{none_foreknows}
use Rattle.session_book.proofs.laws.no_foreknowledge.Goals as goal

pub returns : goal.returns
returns c = none_foreknows
