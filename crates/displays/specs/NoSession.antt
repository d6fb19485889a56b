-- A session that nobody keeps: where a call picks its server by the name `Brand`, this stands in place of its opening,
-- and no copy is ever opened for it.
use Rattle.std.specs.Prelude.{[], None, false}
use Rattle.session_state.specs.SessionState.{SessionState}
use Rattle.session_roles.specs.declared.edition.Edition.TheVariants.{First}
use Rattle.disclosure_rules.specs.declared.phase.Phase.TheVariants.{Running}

abbrev pub no_session : SessionState
no_session = record {
  roles = record { accounts = []; pairs = []; edition = First };
  digests = [];
  names = [];
  seats = [];
  public = record {
    movement = record {
      tables = 0;
      rounds = 0;
      sets = 0;
      per_set = 0;
      absent = None;
      north_south = [];
      east_west = [];
      is_named = false;
      rows = [];
    };
    marks = [];
    round = 0;
    phase = Running;
    edition = First;
    embargo = false;
    held = [];
    live = [];
  };
  cells = [];
  deals = [];
  tables = [];
  notices = record { title = None; date = None; reasons = [] };
}
