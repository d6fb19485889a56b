use Rattle.std.proofs.Common.{◌≡◌, ℕ, ◌+◌, ◌<◌, true}
use Rattle.disclosure_rules.specs.Seating.{is_complete}
use Rattle.session_state.proofs.state.progress.are_all_live.Given as goal

abbrev pub invariant-loop-board : goal.invariant-loop-board
invariant-loop-board l = (board : ℕ) → board < l.board → is_complete l.public (board + 1) ≡ true
