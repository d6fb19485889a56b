use Rattle.std.proofs.Common.{inl, inr, sym, subst}
use Rattle.sqlite.specs.Held.{state}
use Rattle.journal_store.specs.Faults.{ComesOf}
use Rattle.journal_store.proofs.taking.begin.Goals as goal

pub returns-in-Err-clause-cause : goal.returns-in-Err-clause-cause
returns-in-Err-clause-cause g c = λ clean idle unlimited. elim c.fault_of_making.ensures.either [
  | inl memory ↦ inl (subst (ComesOf (state g.S.Store c.create.new.conn)) (sym memory) tt)
  | inr unread ↦ inr (unread, c.requires.blank)
]
