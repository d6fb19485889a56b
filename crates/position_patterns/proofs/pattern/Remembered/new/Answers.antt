use Rattle.std.proofs.Common.{ap, arith, length, ◌≡◌, ◌*◌}
use Rattle.cards.specs.Play.{cards_left}
use Rattle.position_patterns.proofs.TopsLemmas.{each_suit, true_entry}
use Rattle.position_patterns.proofs.pattern.Remembered.new.Goals as goal

pub returns : goal.returns
returns c =
    let p = c.args.position.now in
    let count = c.tricks_left.ensures.quarter in
    let start = ap length c.requires.start in
    let left : cards_left p ≡ 4 * c.tricks_left.result = omega arith in
    true_entry _ p c.args.holders.now c.args.finding.now.known c.requires.same c.requires.apart c.strain.ensures
    c.leader.ensures c.requires.start left
    (each_suit _ c.suit_tops.ensures.tops c.suit_tops-2.ensures.tops c.suit_tops-3.ensures.tops
    c.suit_tops-4.ensures.tops)
    (each_suit _ c.suit_tops.ensures.reach c.suit_tops-2.ensures.reach c.suit_tops-3.ensures.reach
    c.suit_tops-4.ensures.reach)
    c.requires.found
