-- The state to which a journal leads.
use Rattle.std.specs.Prelude.{List}
use Rattle.std.specs.List.{fold}
use Rattle.session_commands.specs.declared.entry.Entry.{Entry}
use Rattle.session_state.specs.Apply.{apply}
use Rattle.session_state.specs.SessionState.{SessionState}

-- the state to which a journal leads from the opening
unfoldable pub replay : SessionState → List Entry → SessionState
replay opening journal = fold apply opening journal
