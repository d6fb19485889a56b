use Rattle.program.proofs.ToldLemmas.{script_told}
use Rattle.program.proofs.laws.every_script.Goals as goal

pub returns : goal.returns
returns c = script_told
