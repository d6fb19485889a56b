use Rattle.std.proofs.Common.{subst, sym, arith}
use Rattle.double_dummy_laws.proofs.CountLemmas.{fewer_after}
use Rattle.position_patterns.proofs.RemainderLemmas.{left_without}
use Rattle.double_dummy.proofs.PlayedLemmas.{thirteen_next}
use Rattle.position_patterns.specs.Remainder.{IsLeftOf}
use Rattle.double_dummy.proofs.card_costs.play_card.Goals as goal

pub value-requires : goal.value-requires
value-requires c =
    let whole = c.args.patterns.now.whole in
    record {
      dealt =
          subst (λ q. IsLeftOf whole q.hands) (sym c.after-next.ensures)
          (left_without whole c.args.position.now.hands c.args.card c.requires.dealt);
    }

pub overflow_add-with_card : goal.overflow_add-with_card
overflow_add-with_card c =
    let bound = thirteen_next c.args.position.now c.after-next.result c.args.card c.after-next.ensures c.requires.valid
    c.requires.legal c.requires.few c.value.ensures.valid in
    let is = c.in-Ok.ensures.tricks in
    omega (arith, c.point.ensures.small)

pub to_play-requires : goal.to_play-requires
to_play-requires c =
    let fewer = fewer_after c.args.position.now c.args.card c.requires.legal in
    omega (arith, fewer)
