-- What is kept of every state.
use Rattle.std.specs.Prelude.{◌≡◌, ◌≤◌, length, vec_len, vec_capacity}
use Rattle.movement.specs.Movement.{boards_of, most_boards}
use Rattle.rbac.specs.Account.{most_users}
use Rattle.session_state.specs.Seats.{AreSeated, AreSeatsOf}
use Rattle.session_state.specs.SessionState.{most_cells, AreLive}
use Rattle.session_state.specs.declared.state.State.TheInside.{Inside}

-- there is a place for each cell, a marking, a deal and a place for a table for each board, a digest and a name to show
-- for each user, and room for a digest, a name and a seat of each user that a session can have; users have at most one
-- seat each, and there are not too many; a seat has at most one user, and is one of the movement's; the roles are of the edition of the policy by
-- which facts are denied; and what every member may see shows a result just where a cell has one
pub record IsKeptState (state : Inside) : Type 0 where
  pub cells : vec_len state.cells ≡ most_cells
  pub marks : length state.public.marks ≡ most_boards
  pub boards : length state.public.live ≡ most_boards
  pub tables : vec_len state.tables ≡ most_boards
  pub deals : boards_of state.public.movement ≤ vec_len state.deals
  pub digests : vec_len state.digests ≡ length state.roles.accounts
  pub digest_room : most_users ≤ vec_capacity state.digests
  pub names : vec_len state.names ≡ length state.roles.accounts
  pub name_room : most_users ≤ vec_capacity state.names
  pub seats : most_users ≤ vec_capacity state.seats
  pub users : length state.roles.accounts ≤ most_users
  pub seated : AreSeated state.roles state.seats.items
  pub placed : AreSeatsOf state.public.movement state.seats.items
  pub edition : state.roles.edition ≡ state.public.edition
  pub live : AreLive state.public.live state.cells.items
