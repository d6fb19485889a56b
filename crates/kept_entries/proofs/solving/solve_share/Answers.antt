use Rattle.std.proofs.Common.{All, sym, subst}
use Rattle.std.specs.Global.{Vec}
use Rattle.std.proofs.lemmas.List.Elements.{All-push}
use Rattle.kept_entries.specs.declared.solving.SolvedAt.{SolvedAt}
use Rattle.kept_entries.specs.RowTexts.{IsToldAt}
use Rattle.kept_entries.proofs.solving.solve_share.Goals as goal
use Rattle.kept_entries.proofs.solving.solve_share.Goals.{in-Some+in_ok-push, in_default}

pub turns-preserved : goal.turns-preserved
turns-preserved c =
    let P = IsToldAt c.args.read.now in
    elim c.match-solve_at.branch [
      | in-Some+in_ok-push w ↦ subst (λ (v : Vec SolvedAt). All P v.items) (sym w.solved-is)
          (subst (All P) (sym w.in_ok-push.ensures.items)
          (All-push P c.turns.solved.items w.in-Some.one c.turns.invariant w.in-Some.ensures))
      | in_default w ↦ subst (λ (v : Vec SolvedAt). All P v.items) (sym w.solved-is) c.turns.invariant
    ]
