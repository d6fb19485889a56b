use Rattle.std.proofs.Common.{◌≡◌, ◌++◌, drop}
use Rattle.session_state.specs.Readers.{shown_among}
use Rattle.session_state.proofs.state.readers.shown_among.Given as goal

abbrev pub invariant-loop-place : goal.invariant-loop-place
invariant-loop-place l =
    l.users.items ++ shown_among (drop l.place l.accounts) (drop l.place l.names) ≡ shown_among l.accounts l.names
