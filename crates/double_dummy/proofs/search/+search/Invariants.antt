use Rattle.std.proofs.Common.{◌≡◌, ◌≤◌, ◌+◌, ◌*◌, true}
use Rattle.std.specs.Prelude.{not}
use Rattle.cards.specs.declared.card.Card.{Card}
use Rattle.std.specs.FinSet as set
use Rattle.double_dummy.proofs.search.+search.Given as goal
use Rattle.cards.specs.Play.{cards_left, legal}
use Rattle.double_dummy.specs.Search.{AreTriedInVain}

abbrev pub invariant-explore-loop-card : goal.invariant-explore-loop-card
invariant-explore-loop-card l = record {
  untried : (card : Card) → set.contains l.untried card ≡ true → set.contains (legal l.position) card ≡ true;
  spent : l.budget ≤ l.initial.budget;
  refused : AreTriedInVain l.position l.target l.untried l.known (not l.wanted);
}

abbrev pub decreases-explore-loop-card : goal.decreases-explore-loop-card
decreases-explore-loop-card l = set.len l.untried

abbrev pub decreases-search : goal.decreases-search
decreases-search l = 3 + 4 * cards_left l.position.now

abbrev pub decreases-at_start : goal.decreases-at_start
decreases-at_start l = 2 + 4 * cards_left l.position.now

abbrev pub decreases-explore : goal.decreases-explore
decreases-explore l = 1 + 4 * cards_left l.position.now

abbrev pub decreases-forced : goal.decreases-forced
decreases-forced l = 4 * cards_left l.position.now
