use Rattle.std.proofs.Common.{◌≡◌, ◌+◌, drop}
use Rattle.session_state.specs.Readers.{account_place}
use Rattle.session_state.proofs.state.accounts.account_place.Given as goal

abbrev pub invariant-loop-place : goal.invariant-loop-place
invariant-loop-place l =
    account_place l.accounts l.name ≡ l.place + account_place (drop l.place l.accounts) l.name
