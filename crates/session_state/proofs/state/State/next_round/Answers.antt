use Rattle.std.proofs.Common.{ap, ◌∙◌, arith}
use Rattle.session_state.specs.Refusal.{hindrance_of}
use Rattle.session_state.specs.contracts.state.State.{the_view}
use Rattle.session_commands.specs.declared.command.Command.TheVariants.{NextRound}
use Rattle.session_state.proofs.HindranceLemmas.{round_is_played}
use Rattle.session_state.proofs.state.State.next_round.Goals as goal

pub prove-unreachable-requires : goal.prove-unreachable-requires
prove-unreachable-requires c =
    let played = round_is_played (the_view c.self.inside) (ap (λ state. hindrance_of state NextRound) c.self.view_is
    ∙ c.requires) in
    omega (arith, played, c.if-prove.true, c.rounds-rounds.ensures.rounds)
