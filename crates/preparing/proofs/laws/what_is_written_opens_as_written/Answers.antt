use Rattle.preparing.proofs.OpeningLemmas.{opens_as}
use Rattle.preparing.proofs.laws.what_is_written_opens_as_written.Goals as goal

pub returns : goal.returns
returns c = opens_as
