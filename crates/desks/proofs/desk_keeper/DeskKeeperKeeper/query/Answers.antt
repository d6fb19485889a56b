use Rattle.std.proofs.Common.{refl}
use Rattle.history.proofs.PrefixLemmas.{entries_of_prefix}
use Rattle.desks.proofs.desk_keeper.DeskKeeperKeeper.query.Goals as goal

pub returns-clause-later : goal.returns-clause-later
returns-clause-later g c = record { same = refl; begins = entries_of_prefix _ _ c.query.ensures.later }

pub returns-clause-unchanged : goal.returns-clause-unchanged
returns-clause-unchanged g c = entries_of_prefix _ _ c.query.ensures.later
