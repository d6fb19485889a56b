use Rattle.double_dummy_laws.proofs.RenamingLemmas.{renamed_tricks}
use Rattle.double_dummy_laws.proofs.laws.other_names.Goals as goal

pub returns : goal.returns
returns c = renamed_tricks
