use Rattle.std.proofs.Common.{◌≡◌, ◌+◌, ◌*◌, ◌∙◌, ℕ, sym, subst, arith, ap}
use Rattle.table_terms.specs.declared.suit.Suit.{Suit}
use Rattle.cards.specs.Hands.{Hands}
use Rattle.position_patterns.proofs.holders.Holders.suit_pattern.Goals as goal
use Rattle.position_patterns.proofs.holders.Holders.suit_pattern.Goals.{in-Some, in_default}
use Rattle.position_patterns.proofs.RankLemmas.{IsSoFar, so_far_all, so_far_free, so_far_some, so_far_start}

pub loop-below-init : goal.loop-below-init
loop-below-init c = so_far_start c.args.self.now c.args.suit

same : (hands : Hands) (suit : Suit) (k owners lengths owners' lengths' : ℕ) → owners' ≡ owners → lengths' ≡ lengths →
    IsSoFar hands suit k owners lengths → IsSoFar hands suit k owners' lengths'
same hands suit k owners lengths owners' lengths' e f so =
    subst (λ n. IsSoFar hands suit k n lengths') (sym e) (subst (λ n. IsSoFar hands suit k owners n) (sym f) so)

pub loop-below-preserved : goal.loop-below-preserved
loop-below-preserved c =
    let hands = c.args.self.now in
    elim c.match-holder.branch [
      | in-Some w ↦ same hands c.args.suit _ _ _ _ _ (w.owners-is
          ∙ ap (λ n. n + 4 * c.loop-below.owners) w.place_number.ensures)
          (w.lengths-is ∙ ap (λ n. n + c.loop-below.lengths) w.place_weight-lengths.ensures)
          (so_far_some hands c.args.suit c.from_height-rank.result c.loop-below.below c.loop-below.owners
          c.loop-below.lengths w.in-Some.place c.loop-below-test.true c.from_height-rank.ensures
          (sym w.in-Some.is ∙ c.holder.ensures) c.loop-below.invariant)
      | in_default w ↦ same hands c.args.suit _ _ _ _ _ w.owners-is w.lengths-is
          (so_far_free hands c.args.suit c.from_height-rank.result c.loop-below.below c.loop-below.owners
          c.loop-below.lengths c.loop-below-test.true c.from_height-rank.ensures
          (sym w.in_default.is ∙ c.holder.ensures) c.loop-below.invariant)
    ]

pub returns : goal.returns
returns c =
    let within = c.loop-below.invariant.within in
    let over = c.loop-below-test.false in
    let both = so_far_all c.args.self.now c.args.suit c.loop-below.below _ _ (omega arith) c.loop-below.invariant in
    record { owners = both.0; lengths = both.1 }
