use Rattle.pbn_records.proofs.LawLemmas.{read_deal}
use Rattle.pbn_records.proofs.laws.each_board_is_a_deal.Goals as goal

pub returns : goal.returns
returns c = read_deal
