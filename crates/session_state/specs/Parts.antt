-- The parts of a state, each of which some command changes.
use Rattle.std.specs.Prelude.{◌≡◌, ◌≢◌}
use Rattle.session_state.specs.SessionState.{SessionState}

-- the parts that commands change
pub data Part : Type 0 where
  Results : Part
  HeldBoards : Part
  Seats : Part
  Rounds : Part
  Phases : Part
  Accounts : Part
  Hierarchy : Part
  Tables : Part
  Embargoes : Part
  Names : Part

-- two states differ in one part at most, where a new account brings its own digest and name to show; the movement, the
-- marks, the deals, the edition and what the session tells of itself are none
pub record IsSameBut (part : Part) (before after : SessionState) : Type 0 where
  pub movement : after.public.movement ≡ before.public.movement
  pub marks : after.public.marks ≡ before.public.marks
  pub deals : after.deals ≡ before.deals
  pub notices : after.notices ≡ before.notices
  pub edition : after.public.edition ≡ before.public.edition
  pub roles_edition : after.roles.edition ≡ before.roles.edition
  pub cells : part ≢ Results → after.cells ≡ before.cells
  pub live : part ≢ Results → after.public.live ≡ before.public.live
  pub held : part ≢ HeldBoards → after.public.held ≡ before.public.held
  pub seats : part ≢ Seats → after.seats ≡ before.seats
  pub round : part ≢ Rounds → after.public.round ≡ before.public.round
  pub phase : part ≢ Phases → after.public.phase ≡ before.public.phase
  pub accounts : part ≢ Accounts → after.roles.accounts ≡ before.roles.accounts
  pub digests : part ≢ Accounts → after.digests ≡ before.digests
  pub names : part ≢ Accounts → part ≢ Names → after.names ≡ before.names
  pub pairs : part ≢ Hierarchy → after.roles.pairs ≡ before.roles.pairs
  pub tables : part ≢ Tables → after.tables ≡ before.tables
  pub embargo : part ≢ Embargoes → after.public.embargo ≡ before.public.embargo
