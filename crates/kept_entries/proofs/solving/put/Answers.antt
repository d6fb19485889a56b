use Rattle.std.proofs.Common.{refl}
use Rattle.kept_entries.proofs.ReadLemmas.{told_set}
use Rattle.kept_entries.proofs.solving.put.Goals as goal

pub returns : goal.returns
returns c = told_set c.args.read.now c.args.read.now c.args.one.now refl c.requires
