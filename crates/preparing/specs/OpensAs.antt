-- What a session opens as.
use Rattle.std.specs.Prelude.{◌≡◌}
use Rattle.movement.specs.Movement.{boards_of}
use Rattle.pbn_records.specs.Reads.{Reads}
use Rattle.session_state.specs.SessionState.{SessionState}
use Rattle.session_opening.specs.Opening.{opening_of}
use Rattle.session_object.specs.declared.object.SessionObject.{SessionObject}
use Rattle.session_object.specs.Reading.{notices_of, section_of}
use Rattle.session_object.specs.Session.{Session}

-- the opening is that of this session: of its edition, its movement, the boards that its text gives to it, its users, and what it
-- tells of itself
pub record OpensAs (session : Session) (opening : SessionState) : Type 0 where
  pub object : SessionObject
  pub edition : object.config.edition ≡ session.edition
  pub movement : object.config.movement ≡ section_of session
  pub boards : Reads session.pbn (boards_of (section_of session)) object.config.boards
  pub users : object.config.users ≡ session.users
  pub notices : object.config.notices ≡ notices_of session
  pub opens : opening ≡ opening_of object.config
