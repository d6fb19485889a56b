use Rattle.std.proofs.Common.{◌∙◌}
use Rattle.std.specs.FinSet as set
use Rattle.position_patterns.proofs.pattern.Remembered.finding.Goals as goal
use Rattle.position_patterns.proofs.TopsLemmas.{top_cards_in, tops_at}

pub returns-clause-found : goal.returns-clause-found
returns-clause-found c =
    let q = c.args.position.now in
    let same = c.requires.same in
    c.requires.true_pattern q c.union-3.result c.requires.matches
    (top_cards_in c.args.self.now q _ _ _ _ c.union-3.result
    (tops_at _ q.hands _ _ _ same c.top_cards-spades.ensures) (tops_at _ q.hands _ _ _ same c.top_cards-hearts.ensures)
    (tops_at _ q.hands _ _ _ same c.top_cards-diamonds.ensures) (tops_at _ q.hands _ _ _ same c.top_cards-clubs.ensures)
    (c.union-3.ensures ∙ (λ i. set.union (c.union.ensures i) (c.union-2.ensures i))))
