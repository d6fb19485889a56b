use Rattle.std.proofs.Common.{sym, subst}
use Rattle.session_book.specs.Journal.{Ledger}
use Rattle.session_keeper.specs.Keeping.{GoesOn}
use Rattle.session_keeper.specs.PlainKeeping.{IsBehind}
use Rattle.session_keeper.proofs.GrowthLemmas.{behind_extends, runs_extend}
use Rattle.session_keeper.proofs.KeepingLemmas.{runs_begin}
use Rattle.session_keeper.proofs.plain_keeper.PlainKeeperCommandKeeper.submit.Goals as goal

pub absorb_new-requires : goal.absorb_new-requires
absorb_new-requires g c =
    let (stopped, runs) = c.in-Ok.ensures.ran in
    let before = c.self.inside.book in
    record {
      behind =
          subst (λ opening. IsBehind opening c.submit.new.self.journal c.self.inside.view)
          (sym c.submit.ensures.opening)
          (behind_extends before.opening before.journal c.submit.new.self.journal c.self.inside.view
          (runs_extend stopped before.opening before.journal c.args.actor c.args.batch.now _ runs)
          c.self.invariant.stands c.self.invariant.accepted);
    }

pub returns-clause-later : goal.returns-clause-later
returns-clause-later g c =
    let (stopped, runs) = c.in-Ok.ensures.ran in
    subst (λ (l : Ledger). GoesOn l.opening l.journal c.submit.new.self.opening c.submit.new.self.journal)
    c.self.view_is
    (record { same = c.submit.ensures.opening; begins = runs_begin stopped _ _ _ _ _ runs })
