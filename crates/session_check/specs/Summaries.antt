-- What is told of a session that opens.
use Rattle.std.specs.Prelude.{length}
use Rattle.movement.specs.Movement.{boards_of}
use Rattle.session_state.specs.SessionState.{SessionState}
use Rattle.session_check.specs.declared.summary.Summary.{Summary}

-- its tables and rounds, how many boards it has, and how many users
abbrev pub summary_of : SessionState → Summary
summary_of opening = record {
  tables = opening.public.movement.tables;
  rounds = opening.public.movement.rounds;
  boards = boards_of opening.public.movement;
  users = length opening.digests;
}
