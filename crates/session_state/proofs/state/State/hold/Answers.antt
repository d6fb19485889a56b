use Rattle.std.proofs.Common.{ap, ◌∙◌}
use Rattle.session_state.specs.Apply.{effect, with_public}
use Rattle.session_state.specs.contracts.state.State.{the_view}
use Rattle.session_commands.specs.declared.command.Command.TheVariants.{Hold}
use Rattle.session_state.proofs.state.State.hold.Goals as goal

pub returns : goal.returns
returns c =
    (λ i. with_public (the_view c.self.inside) (record c.self.inside.public { held = c.insert.ensures i }))
    ∙ ap (λ state. effect state (Hold c.args.board)) c.self.view_is
