use Rattle.std.proofs.Common.{refl}
use Rattle.history.specs.Prefixes.{entries_of}
use Rattle.history.proofs.PrefixLemmas.{entries_of_prefix}
use Rattle.desks.proofs.desk_keeper.DeskKeeperCommandKeeper.submit_found.Goals as goal

pub returns-clause-later : goal.returns-clause-later
returns-clause-later g c = record { same = refl; begins = entries_of_prefix _ _ c.learn.ensures.own }

pub returns-clause-tried : goal.returns-clause-tried
returns-clause-tried g c = let (before, seen, tried, entered) = c.submit_found_from-answer.ensures.entered in record {
  met = before;
  left = entries_of c.submit_found_from-answer.result.1.published;
  came = seen;
  tried = tried.tried;
  entered = entered;
  went = entries_of_prefix _ _ c.learn.ensures.told;
  begins = entries_of_prefix _ _ c.learn.ensures.told;
}
