use Rattle.std.proofs.Common.{◌+◌, ◌*◌, ◌∙◌, ap, sym}
use Rattle.position_patterns.proofs.RaisedLemmas.{all_lower, true_raised}
use Rattle.position_patterns.proofs.holders.Holders.raised.Goals as goal

pub returns : goal.returns
returns c =
    true_raised c.args.self.now c.args.less c.args.rank c.in-Some.place _ _ c.requires.apart c.requires.less
    (sym (sym c.in-Some.is ∙ c.holder.ensures))
    (all_lower c.args.less.cards c.upper.result _ (c.is_empty.ensures.0 c.if-not-is_empty.false) c.upper.ensures.all)
    c.insert.ensures (ap (λ n. n + 4 * c.args.less.pattern.owners) c.place_number.ensures)
    (ap (λ n. n + c.args.less.pattern.lengths) c.place_weight.ensures)
