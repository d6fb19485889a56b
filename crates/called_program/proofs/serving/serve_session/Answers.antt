use Rattle.std.proofs.Common.{[], inl, inr, subst, sym}
use Rattle.std.specs.Io.KnownBytes.{Appends}
use Rattle.std.proofs.KnownBytes.{Appends-nil}
use Rattle.called_program.proofs.serving.serve_session.Goals as goal

pub returns-in-Ok : goal.returns-in-Ok
returns-in-Ok g c = inl (_, c.in-Ok.ensures.announced)

pub returns-in-Err : goal.returns-in-Err
returns-in-Err g c = elim c.in-Err.ensures.unannounced [
  | inl same ↦
      let before = g.E.Write.contents c.args.errors.now in
      inr (subst (λ errors. Appends before (g.E.Write.contents errors) []) (sym same) (Appends-nil before))
  | inr told ↦ inl (_, told)
]
