use Rattle.called_program.proofs.KeptLemmas.{leaves_just}
use Rattle.called_program.proofs.serving.serve_kept.Goals as goal

pub serve_session-requires-clause-kept : goal.serve_session-requires-clause-kept
serve_session-requires-clause-kept g c = λ lifetimes lives. leaves_just _ _ c.requires.kept
