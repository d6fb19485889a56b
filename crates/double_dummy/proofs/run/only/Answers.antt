use Rattle.std.proofs.Common.{refl, arith}
use Rattle.std.specs.FinSet as set
use Rattle.double_dummy_laws.proofs.CountLemmas.{has_less}
use Rattle.double_dummy.proofs.RunLemmas.{only_one}
use Rattle.double_dummy.proofs.run.only.Goals as goal

pub returns-in-Some-clause-alone : goal.returns-in-Some-clause-alone
returns-in-Some-clause-alone c other held =
    let cards = c.args.cards in
    let card = c.in-Some.card in
    only_one cards (set.remove cards card) card other refl
    (set.empty_of_len (set.remove cards card)
    (omega (arith, has_less cards card c.in-Some.ensures.some, c.len.ensures.cards, c.if-len-eq1.true))) held
