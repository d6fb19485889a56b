use Rattle.std.proofs.Common.{◌≡◌, ◌∙◌, arith}
use Rattle.par.specs.Bid.{all_bids}
use Rattle.par.proofs.StepLemmas.{no_bids_left, one_bid_more, from_dealer}
use Rattle.par.proofs.auction.auction.Goals as goal

pub loop-higher-init : goal.loop-higher-init
loop-higher-init c = c.none-best.ensures ∙ no_bids_left c.args.table.now c.args.vulnerability

pub loop-higher-preserved : goal.loop-higher-preserved
loop-higher-preserved c =
    let step = one_bid_more c.args.table.now c.args.vulnerability c.loop-higher.higher in
    let so_far = c.loop-higher.invariant in cc

pub returns : goal.returns
returns c =
    let end = from_dealer c.args.table.now c.args.vulnerability c.args.dealer in
    let last : c.loop-higher.higher ≡ all_bids = omega arith in
    let so_far = c.loop-higher.invariant in cc
