use Rattle.std.proofs.Common.{refl, sym, ◌∙◌}
use Rattle.history.specs.Prefixes.{entries_of}
use Rattle.history.proofs.PrefixLemmas.{entries_of_prefix}
use Rattle.session_keeper.proofs.GrowthLemmas.{exact_version}
use Rattle.desks.proofs.desk_keeper.DeskKeeperCommandKeeper.audit.Goals as goal

pub returns-clause-later : goal.returns-clause-later
returns-clause-later g c = record { same = refl; begins = entries_of_prefix _ _ c.learn.ensures.own }

pub returns-clause-receipt : goal.returns-clause-receipt
returns-clause-receipt g c =
    let journal = entries_of c.audit-rows.result.1.published in
    record {
      journal = journal;
      came = c.audit-rows.ensures.seen;
      rows = c.audit-rows.ensures.rows;
      permitted = c.audit-rows.ensures.permitted;
      refused = c.audit-rows.ensures.refused;
      valid = c.audit-rows.ensures.valid;
      version = c.version.ensures.version
          ∙ sym (exact_version g.N.Server.opening journal c.audit-rows.ensures.published.accepted);
      went = entries_of_prefix _ _ c.learn.ensures.told;
      begins = entries_of_prefix _ _ c.learn.ensures.told;
    }
