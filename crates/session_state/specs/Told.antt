-- What is told of users and of the session, and nothing depends on: names to show, and what the session tells of itself.
use Rattle.std.specs.Prelude.{ℕ, List}
use Rattle.notices.specs.declared.notices.Notices.{Notices}
use Rattle.session_state.specs.SessionState.{SessionState}

-- the same state with other names to show, and told otherwise of itself
abbrev pub told_as : SessionState → List (List ℕ) → Notices → SessionState
told_as state names notices = record state { names = names; notices = notices }
