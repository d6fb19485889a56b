use Rattle.std.proofs.Common.{arith}
use Rattle.double_dummy.proofs.RunnerLemmas.{runners_are, sure_alone, sure_with}
use Rattle.double_dummy.proofs.masters.by_long_suits.Goals as goal

pub returns-then-missing-eq0 : goal.returns-then-missing-eq0
returns-then-missing-eq0 c =
    sure_alone c.args.position.now c.union-taken.result c.all_best-named.result c.args.wanted c.requires.valid
    (runners_are c.args.position.now c.args.leader c.all_long.result c.all_best-named.result c.union-taken.result
    c.requires.leader (record {
      held = λ card held. c.requires.masters.held card (c.all_best-named.ensures card held);
      unbeaten = λ card other place held. c.requires.masters.unbeaten card other place
          (c.all_best-named.ensures card held);
    }) c.requires.plain c.all_long.ensures.among c.all_long.ensures.long c.union-taken.ensures)
    (omega (arith, c.len.ensures.cards, c.saturating_sub-missing.ensures, c.if-missing-eq0.true))

pub returns : goal.returns
returns c =
    sure_with c.args.position.now c.union-taken.result c.all_best-named.result c.in_ok-known.known c.union.result
    c.args.wanted c.saturating_sub-missing.result c.requires.valid
    (runners_are c.args.position.now c.args.leader c.all_long.result c.all_best-named.result c.union-taken.result
    c.requires.leader (record {
      held = λ card held. c.requires.masters.held card (c.all_best-named.ensures card held);
      unbeaten = λ card other place held. c.requires.masters.unbeaten card other place
          (c.all_best-named.ensures card held);
    }) c.requires.plain c.all_long.ensures.among c.all_long.ensures.long c.union-taken.ensures)
    c.in_ok-known.ensures (omega (arith, c.len.ensures.cards, c.saturating_sub-missing.ensures)) c.union.ensures
