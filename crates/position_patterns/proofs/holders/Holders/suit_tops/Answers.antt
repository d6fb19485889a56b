use Rattle.std.proofs.Common.{◌%◌, ◌^◌, ◌∙◌, sym, ap}
use Rattle.position_patterns.proofs.holders.Holders.suit_tops.Goals as goal
use Rattle.position_patterns.proofs.RankLemmas.{low_digits, low_digits_four}

pub returns-clause-tops : goal.returns-clause-tops
returns-clause-tops c =
    let count = c.reach-count.result in
    record {
      owners = ap (λ n. n % 4 ^ count) (sym c.requires.owners) ∙ sym (low_digits_four c.args.pattern.now.owners count)
          ∙ sym (low_digits c.args.pattern.now.owners count c.reach-count.ensures.few);
      lengths = sym c.requires.lengths;
    }
