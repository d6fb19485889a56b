use Rattle.std.proofs.Common.{◌∙◌, ap, arith}
use Rattle.std.specs.FinSet as set
use Rattle.position_patterns.proofs.UpperLemmas.{from_of, tops_from, tops_held}
use Rattle.position_patterns.proofs.holders.Holders.top_cards.Goals as goal

pub returns-then-len-count : goal.returns-then-len-count
returns-then-len-count c card top =
    ap (λ s. set.contains s card) c.held-held.ensures ∙ tops_held c.args.self.now c.args.suit c.args.count card top

pub returns : goal.returns
returns c =
    tops_from c.args.self.now c.args.suit c.from_top.result c.upper-tops.result c.args.count
    (from_of c.args.self.now c.args.suit c.from_top.result c.held-held.result c.upper-tops.result c.held-held.ensures
    c.upper-tops.ensures.among c.upper-tops.ensures.all)
    (omega (arith, c.if-len-count.false, c.len.ensures.cards))
