use Rattle.entry_texts.proofs.ReadingLemmas.{deal_found, no_deal_found}
use Rattle.entry_texts.proofs.reading.deal_named.Goals as goal

pub returns-in-Ok : goal.returns-in-Ok
returns-in-Ok c deal is same =
    deal_found deal c.in-Ok.deal c.args.text.now c.parse.result is same c.parse.ensures.value c.in-Ok.is

pub returns-in-Err : goal.returns-in-Err
returns-in-Err c deal is same =
    no_deal_found deal c.args.text.now _ c.parse.result is same c.parse.ensures.value c.in-Err.is
