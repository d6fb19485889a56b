use Rattle.std.proofs.Common.{◌-◌, sym, ap, ◌∙◌, arith}
use Rattle.std.specs.Prelude.{slice_get}
use Rattle.std.proofs.lemmas.Option.{slice_get-get_or}
use Rattle.session_state.proofs.state.State.marks.Goals as goal

pub returns : goal.returns
returns c =
    ap (λ state. slice_get state.public.marks (c.args.board - 1)) (sym c.self.view_is)
    ∙ slice_get-get_or c.self.inside.public.marks (c.args.board - 1) _ (omega (arith, c.self.invariant.marks))
