use Rattle.program.proofs.TextLemmas.{goes_on}
use Rattle.program.proofs.laws.a_script_goes_on.Goals as goal

pub returns : goal.returns
returns c opening received later = goes_on opening received later
