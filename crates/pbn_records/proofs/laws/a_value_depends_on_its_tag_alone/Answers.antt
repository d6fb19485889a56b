use Rattle.pbn_records.proofs.GameBeforeLemmas.{alone}
use Rattle.pbn_records.proofs.laws.a_value_depends_on_its_tag_alone.Goals as goal

pub returns : goal.returns
returns c = alone
