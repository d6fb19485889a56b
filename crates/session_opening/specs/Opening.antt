-- The state in which a session opens, of what it opens with.
use Rattle.std.specs.Prelude.{◌-◌, false, None, List, [], ◌++◌, map, take, length, replicate}
use Rattle.std.specs.List.{filter_map}
use Rattle.table_terms.specs.declared.place.Place.TheVariants.{North}
use Rattle.table_terms.specs.declared.vulnerability.Vulnerability.TheVariants.{Neither}
use Rattle.pbn_records.specs.declared.board.Board.{Board}
use Rattle.movement.specs.Movement.{boards_of, most_boards}
use Rattle.session_roles.specs.declared.edition.Edition.{Edition}
use Rattle.rbac.specs.Inheritance.{opening_pairs}
use Rattle.rbac.specs.RoleData.{RoleData}
use Rattle.disclosure_rules.specs.declared.marks.Marks.{Marks}
use Rattle.disclosure_rules.specs.declared.phase.Phase.TheVariants.{Running}
use Rattle.disclosure_rules.specs.declared.public.Public.{Public}
use Rattle.session_commands.specs.declared.cell_state.CellState.TheVariants.{Empty}
use Rattle.session_opening.specs.declared.config.Config.{Config}
use Rattle.session_opening.specs.declared.new_user.NewUser.{NewUser}
use Rattle.session_state.specs.declared.seated.Seated.{Seated}
use Rattle.session_opening.specs.NewUser.{account_of, new_seated}
use Rattle.session_state.specs.SessionState.{SessionState, most_cells}

-- the users in their order, with the role hierarchy of a new session, by an edition of the policy
abbrev pub opening_roles : Edition → List NewUser → RoleData
opening_roles edition users =
    record { accounts = map account_of users; pairs = opening_pairs edition; edition = edition }

-- where those users sit who have a seat, in the order of the users
abbrev pub opening_seats : List NewUser → List Seated
opening_seats users = filter_map new_seated users

-- the boards that the section plays
abbrev pub boards_in_play : Config → List Board
boards_in_play config = take (boards_of config.movement) config.boards

-- what is marked on a board
abbrev pub marks_of : Board → Marks
marks_of board = record { dealer = board.dealer; vulnerability = board.vulnerability }

-- what stands in the place of a board that isn't played
abbrev pub no_marks : Marks
no_marks = record { dealer = North; vulnerability = Neither }

-- the markings of the boards, in as many places as there can be boards
abbrev pub opening_marks : List Board → List Marks
opening_marks boards = map marks_of boards ++ replicate (most_boards - length boards) no_marks

-- what every member may see before the first board is played: it is the first round, there is no embargo, no board is
-- held, and there is no result
abbrev pub opening_public : Config → Public
opening_public config =
    record {
      movement = config.movement;
      marks = opening_marks (boards_in_play config);
      round = 1;
      phase = Running;
      edition = config.edition;
      embargo = false;
      held = [];
      live = replicate most_boards [];
    }

-- the opening state: the users with their digests and their names to show, their seats, the hands of the boards, and what
-- the session tells of itself; nothing is known of any cell, and no board is solved
abbrev pub opening_of : Config → SessionState
opening_of config =
    record {
      roles = opening_roles config.edition config.users;
      digests = map (λ user. user.digest) config.users;
      names = map (λ user. user.shown) config.users;
      seats = opening_seats config.users;
      public = opening_public config;
      cells = replicate most_cells Empty;
      deals = map (λ board. board.deal) (boards_in_play config);
      tables = replicate most_boards None;
      notices = config.notices;
    }
