use Rattle.cards.specs.FourHands.{clockwise_from}
use Rattle.cards.proofs.deal_reading.DealFromStr.from_str.Goals as goal

pub returns-in-Err : goal.returns-in-Err
returns-in-Err c =
    let read = c.in_ok-hands.hands in
    let is_text = rw c.in_ok-hands.ensures.ok_part at c.read_hands.ensures.hands in
    (tt, tt, (clockwise_from read.first read.own read.left read.opposite read.right, is_text, c.in-Err.ensures.err))
