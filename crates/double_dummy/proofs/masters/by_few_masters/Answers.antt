use Rattle.std.proofs.Common.{◌∙◌, ap, arith, sym}
use Rattle.std.specs.FinSet as set
use Rattle.cards.specs.Hands.{hand_of}
use Rattle.double_dummy.proofs.RunnerLemmas.{long_alone, masters_are, runners_are, sure_alone}
use Rattle.double_dummy.proofs.masters.by_few_masters.Goals as goal

pub returns-then-len-wanted : goal.returns-then-len-wanted
returns-then-len-wanted c =
    let p = c.args.position.now in
    sure_alone p c.union-taken.result c.fewest-named.result c.args.wanted c.hand-mine.ensures.position
    (runners_are p c.args.leader c.all_lone-alone.result c.fewest-named.result c.union-taken.result c.requires.leader
    (masters_are p c.hand-mine.result c.args.others c.fewest-named.result
    (c.hand-mine.ensures.hand ∙ ap (hand_of p.hands) c.requires.leader)
    (λ place card ne. c.requires.others place card (λ e. ne (e ∙ c.requires.leader))) c.requires.plain
    (λ card held. c.all_higher-masters.ensures.among card (c.fewest-named.ensures card held))
    (λ card other held. c.all_higher-masters.ensures.above card other (c.fewest-named.ensures card held)))
    (λ place card ne there. c.requires.plain card (c.requires.others place card ne there))
    (λ card held. ap (λ s. set.contains s card) (sym c.hand-mine.ensures.hand)
    ∙ c.all_lone-alone.ensures.among card held)
    (long_alone p c.args.leader c.args.others c.all_lone-alone.result c.fewest-named.result c.requires.others
    c.all_lone-alone.ensures.alone)
    c.union-taken.ensures)
    (omega (arith, c.if-len-wanted.true, c.len-2.ensures.cards))

pub by_long_suits-requires-clause-masters : goal.by_long_suits-requires-clause-masters
by_long_suits-requires-clause-masters c =
    let p = c.args.position.now in
    masters_are p c.hand-mine.result c.args.others c.all_higher-masters.result
    (c.hand-mine.ensures.hand ∙ ap (hand_of p.hands) c.requires.leader)
    (λ place card ne. c.requires.others place card (λ e. ne (e ∙ c.requires.leader))) c.requires.plain
    c.all_higher-masters.ensures.among c.all_higher-masters.ensures.above
