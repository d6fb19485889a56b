use Rattle.std.proofs.Common.{◌≡◌, ◌∙◌, true, ap, sym, subst}
use Rattle.std.specs.FinSet as set
use Rattle.cards.specs.Play.{legal, leader_after, IsPosition}
use Rattle.cards.specs.Position.{position_of}
use Rattle.cards.proofs.PlayLemmas.{position_after}
use Rattle.cards.proofs.position.Position.after.Goals as goal

pub invariant_of-result : goal.invariant_of-result
invariant_of-result c =
    let card = c.args.card in
    let may : set.contains (legal (position_of c.self.inside)) card ≡ true = ap (λ p. set.contains (legal p) card)
    c.self.view_is ∙ c.requires in
    let leads : leader_after c.self.inside.strain c.self.inside.leader (position_of c.self.inside).table card ≡
    c.leader_after-leader.result =
    ap (λ p. leader_after p.strain p.leader p.table card) c.self.view_is ∙ sym c.leader_after-leader.ensures in
    subst IsPosition
    (λ i. record {
      hands = record {
        north = sym c.without.ensures i;
        east = sym c.without-2.ensures i;
        south =
            sym c.without-3.ensures i;
        west = sym c.without-4.ensures i;
      };
      strain = c.self.inside.strain;
      leader = leads i;
      table = sym c.after.ensures i;
    })
    (position_after (position_of c.self.inside) card c.self.invariant may)
