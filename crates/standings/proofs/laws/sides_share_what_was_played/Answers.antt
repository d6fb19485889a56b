use Rattle.standings.proofs.EarningLemmas.{sides_share}
use Rattle.standings.proofs.laws.sides_share_what_was_played.Goals as goal

pub returns : goal.returns
returns c section vulnerability results found outcome listed played = sides_share vulnerability results found outcome
    listed played
