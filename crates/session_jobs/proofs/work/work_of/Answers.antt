use Rattle.std.proofs.Common.{◌≡◌, ◌-◌, Some, slice_get, subst}
use Rattle.cards.specs.Hands.{Hands}
use Rattle.movement.specs.Movement.{IsCell}
use Rattle.movement.specs.declared.cell.Cell.{Cell}
use Rattle.session_state.specs.SessionState.{cell_at}
use Rattle.session_jobs.specs.Work.{work_left}
use Rattle.session_jobs.proofs.work.work_of.Goals as goal

pub returns-in-Some : goal.returns-in-Some
returns-in-Some c =
    let played : IsCell c.args.state.now.public.movement c.args.cell =
    subst (λ (cell : Cell). IsCell c.args.state.now.public.movement cell) c.in-Some.ensures.cell
    (subst (λ p. IsCell p.movement c.in-Some.own) c.public.ensures.public c.in-Some.ensures.some) in
    record {
      there = subst (λ (cell : Cell). (deal : Hands) → IsCell c.args.state.now.public.movement c.args.cell →
          slice_get c.args.state.now.deals (cell.board - 1) ≡ Some deal →
          c.work_at.result ≡ work_left cell deal (cell_at c.args.state.now cell)) c.in-Some.ensures.cell
          (λ deal _ dealt. c.work_at.ensures deal dealt);
      none = λ none. absurd (none played);
    }
