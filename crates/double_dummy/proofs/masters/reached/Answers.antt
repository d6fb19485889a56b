use Rattle.std.proofs.Common.{◌∙◌, ap}
use Rattle.std.specs.FinSet as set
use Rattle.double_dummy.proofs.RunnerLemmas.{are_reached, long_alone}
use Rattle.position_patterns.proofs.SetLemmas.{had}
use Rattle.double_dummy.proofs.masters.reached.Goals as goal

pub returns-then-have_room : goal.returns-then-have_room
returns-then-have_room c =
    are_reached c.args.position.now c.args.leader c.partner-partner.result c.hand.result c.hand-theirs.result
    c.others_cards-rest.result c.all_higher.result c.all_lone-masters.result c.fewest-few.result c.insert.new.self
    c.all_lone-alone.result c.union.result c.args.own c.in_ok-entry.entry c.args.missing c.requires
    c.partner-partner.ensures c.hand.ensures.hand c.hand-theirs.ensures.hand c.others_cards-rest.ensures
    (c.has_trump.ensures c.if-has_trump.false) c.all_higher.ensures.among c.all_higher.ensures.above
    c.all_lone-masters.ensures.among c.all_lone-masters.ensures.alone c.in_ok-entry.ensures.held
    c.in_ok-entry.ensures.own
    (λ card held. (had c.all_lone-masters.result c.without.result c.in_ok-entry.entry card c.without.ensures
    (c.fewest-few.ensures card held)).0)
    c.insert.ensures
    (λ card held. c.all_lone.ensures.among card (c.all_lone-alone.ensures.among card held))
    (long_alone c.args.position.now c.partner-partner.result c.others_cards-rest.result c.all_lone-alone.result
    c.insert.new.self c.others_cards-rest.ensures
    (λ card other held. c.all_lone.ensures.alone card other (c.all_lone-alone.ensures.among card held)))
    c.all_lone-alone.ensures.alone c.union.ensures (c.have_room.ensures.many c.if-have_room.true)
    (c.have_room.ensures.room c.if-have_room.true)

pub returns-then-have_room-2 : goal.returns-then-have_room-2
returns-then-have_room-2 c =
    are_reached c.args.position.now c.args.leader c.partner-partner.result c.hand.result c.hand-theirs.result
    c.others_cards-rest.result c.all_higher.result c.all_lone-masters.result c.all_best-named.result
    c.insert-2.new.self c.all_lone-long.result c.union-2.result c.args.own c.in_ok-entry.entry c.args.missing
    c.requires c.partner-partner.ensures c.hand.ensures.hand c.hand-theirs.ensures.hand c.others_cards-rest.ensures
    (c.has_trump.ensures c.if-has_trump.false) c.all_higher.ensures.among c.all_higher.ensures.above
    c.all_lone-masters.ensures.among c.all_lone-masters.ensures.alone c.in_ok-entry.ensures.held
    c.in_ok-entry.ensures.own c.all_best-named.ensures c.insert-2.ensures
    (λ card held. ap (λ s. set.contains s card) c.hand-theirs.ensures.hand
    ∙ c.all_long.ensures.among card (c.all_lone-long.ensures.among card held))
    (λ card place held. c.all_long.ensures.long card place (c.all_lone-long.ensures.among card held))
    c.all_lone-long.ensures.alone c.union-2.ensures (c.have_room-2.ensures.many c.if-have_room-2.true)
    (c.have_room-2.ensures.room c.if-have_room-2.true)
