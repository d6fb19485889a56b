use Rattle.std.proofs.Common.{◌≡◌, take}
use Rattle.std.specs.List.{filter_map}
use Rattle.session_state.specs.Readers.{seated_of}
use Rattle.published_view.proofs.answers_of_state.seats_of.Given as goal

abbrev pub invariant-loop-account : goal.invariant-loop-account
invariant-loop-account l = l.seats.items ≡ filter_map (seated_of l.state) (take l.account-index l.state.roles.accounts)
