-- When a user can't tell two states apart.
use Rattle.std.specs.Prelude.{◌≡◌, ◌≢◌, ℕ, ◌-◌, true, List, slice_get}
use Rattle.movement.specs.declared.cell.Cell.{Cell}
use Rattle.movement.specs.Schedule.{is_scheduled}
use Rattle.disclosure_rules.specs.declared.fact.Fact.{Fact}
use Rattle.disclosure_rules.specs.declared.fact.Fact.TheVariants as fact
use Rattle.session_state.specs.SessionState.{SessionState, cell_at, table_at, viewer_of}
use Rattle.session_queries.specs.Content.{content}
use Rattle.session_queries.specs.Facts.{has_place}
use Rattle.movement.specs.Movement.{has_board}
use Rattle.session_queries.specs.Shown.{is_allowed}

-- two states agree for a user where the user has the same roles and the same seat, what every member may see is the
-- same, and each fact of the session that is allowed to the user says the same; that the same facts are allowed in
-- both follows
pub record Agree (one other : SessionState) (user : List ℕ) : Type 0 where
  pub viewer : viewer_of one user ≡ viewer_of other user
  pub public : content one fact.Public ≡ content other fact.Public
  pub contents : (asked : Fact) → has_place one.public.movement asked ≡ true →
      is_allowed one.public (viewer_of one user) asked ≡ true → content one asked ≡ content other asked

-- two states are the same but for what belongs to one board: its hands, its analysis, and what is known of its cells,
-- beyond which of them have a result; digests, which no fact says, may differ too
pub record DifferAt (board : ℕ) (one other : SessionState) : Type 0 where
  pub roles : one.roles ≡ other.roles
  pub names : one.names ≡ other.names
  pub seats : one.seats ≡ other.seats
  pub public : one.public ≡ other.public
  pub notices : one.notices ≡ other.notices
  pub hands : (number : ℕ) → has_board one.public.movement number ≡ true → number ≢ board →
      slice_get one.deals (number - 1) ≡ slice_get other.deals (number - 1)
  pub analyses : (number : ℕ) → has_board one.public.movement number ≡ true → number ≢ board →
      table_at one number ≡ table_at other number
  pub cells : (cell : Cell) → is_scheduled one.public.movement cell ≡ true → cell.board ≢ board →
      cell_at one cell ≡ cell_at other cell
