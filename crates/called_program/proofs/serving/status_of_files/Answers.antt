use Rattle.std.proofs.Common.{inl, inr}
use Rattle.std.proofs.KnownBytes.{Appends-nil}
use Rattle.called_program.proofs.serving.status_of_files.Goals as goal

pub returns-in-Err-clause-unserved : goal.returns-in-Err-clause-unserved
returns-in-Err-clause-unserved g c = λ failed. (
  g.E.Write.contents c.args.errors.now,
  inl (Appends-nil (g.E.Write.contents c.args.errors.now)),
  elim failed [
    | inl three ↦ c.status_of_source_fault.ensures.unread three c.in-Err.ensures.fault
    | inr four ↦ c.status_of_source_fault.ensures.memory four
  ],
)
