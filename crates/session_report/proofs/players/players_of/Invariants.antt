use Rattle.std.proofs.Common.{◌≡◌, take}
use Rattle.std.specs.List.{filter_map}
use Rattle.session_report.specs.Players.{player_of}
use Rattle.session_report.proofs.players.players_of.Given as goal

-- the players of the accounts so far
abbrev pub invariant-loop-account : goal.invariant-loop-account
invariant-loop-account l =
    l.players.items
    ≡ filter_map (player_of l.state l.shown.items l.memberships) (take l.account-index l.state.roles.accounts)
