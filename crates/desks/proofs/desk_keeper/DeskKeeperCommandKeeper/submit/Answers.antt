use Rattle.std.proofs.Common.{refl, ap, ◌∙◌, sym}
use Rattle.history.specs.Prefixes.{entries_of}
use Rattle.history.proofs.PrefixLemmas.{entries_of_prefix}
use Rattle.session_keeper.proofs.GrowthLemmas.{exact_version}
use Rattle.displays.specs.Publishing.{Receipted}
use Rattle.desks.proofs.desk_keeper.DeskKeeperCommandKeeper.submit.Goals as goal

pub returns-in_err-answers-clause-accepted : goal.returns-in_err-answers-clause-accepted
returns-in_err-answers-clause-accepted g c = c.submit.ensures.published.accepted

pub returns-clause-later : goal.returns-clause-later
returns-clause-later g c = record { same = refl; begins = entries_of_prefix _ _ c.learn.ensures.own }

pub returns-clause-receipt : goal.returns-clause-receipt
returns-clause-receipt g c = let (before, seen, submitted, entered) = c.in_ok-answers.ensures.receipt in
    let left = entries_of c.in_ok-answers.receipt.published in
    record {
      met = before;
      left = left;
      stopped = submitted.stopped;
      came = seen;
      ran = submitted.ran;
      first = c.first.ensures ∙ ap (λ (r : Receipted). r.first) submitted.told;
      last = c.last.ensures ∙ ap (λ (r : Receipted). r.last) submitted.told;
      entered = entered;
      version = c.version.ensures.version ∙ sym (exact_version g.N.Server.opening left submitted.published.accepted);
      went = entries_of_prefix _ _ c.learn.ensures.told;
      begins = entries_of_prefix _ _ c.learn.ensures.told;
    }
