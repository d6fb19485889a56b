use Rattle.std.proofs.Common.{sym, subst}
use Rattle.session_keeper.specs.PlainKeeping.{IsBehind}
use Rattle.session_keeper.proofs.GrowthLemmas.{behind_extends, tried_extends}
use Rattle.session_keeper.proofs.plain_keeper.PlainKeeperCommandKeeper.submit_found.Goals as goal

pub absorb_new-requires : goal.absorb_new-requires
absorb_new-requires g c =
    let before = c.self.inside.book in
    let after = c.submit_found-answer.new.self in
    record {
      behind =
          subst (λ opening. IsBehind opening after.journal c.self.inside.view)
          (sym c.submit_found-answer.ensures.opening)
          (behind_extends before.opening before.journal after.journal c.self.inside.view
          (tried_extends before after _ _ _ c.submit_found-answer.ensures.tried)
          c.self.invariant.stands c.self.invariant.accepted);
    }
