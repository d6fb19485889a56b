use Rattle.std.proofs.Common.{◌≡◌, ◌+◌, ◌*◌, ◌/◌, ◌∙◌, ap, length, arith}
use Rattle.cards.specs.Play.{cards_left}
use Rattle.cards.specs.Position.{position_of}
use Rattle.cards.proofs.PlayLemmas.{four_times}
use Rattle.cards.proofs.position.Position.tricks_left.Goals as goal

pub returns-clause-quarter : goal.returns-clause-quarter
returns-clause-quarter c =
    let p = position_of c.self.inside in
    let total = c.len.result + c.len-2.result + c.len-3.result + c.len-4.result + c.len-5.result in
    let whole : total ≡ cards_left p + length p.table =
    omega (
      arith,
      c.len.ensures.cards,
      c.len-2.ensures.cards,
      c.len-3.ensures.cards,
      c.len-4.ensures.cards,
      c.len-5.ensures.cards,
    ) in
    let quarter : 4 * (total / 4) ≡ total = omega (arith, whole, four_times p c.self.invariant) in
    quarter ∙ whole ∙ ap (λ p. cards_left p + length p.table) c.self.view_is
