-- What is asked of a session, as the session that an object with its boards beside it says.
use Rattle.std.specs.Prelude.{ℕ, List}
use Rattle.session_object.specs.Session.{Session}
use Rattle.session_text.specs.declared.asked_session.AskedSession.{AskedSession}

-- the session that is asked for, with the text of its boards
abbrev pub session_asked : AskedSession → List ℕ → Session
session_asked asked boards = record {
  absent = asked.absent;
  budget = asked.budget;
  date = asked.notices.date;
  edition = asked.edition;
  movement = asked.movement;
  pbn = boards;
  per_set = asked.per_set;
  reasons = asked.notices.reasons;
  rounds = asked.rounds;
  shared_by = asked.shared_by;
  switched = asked.switched;
  tables = asked.tables;
  title = asked.notices.title;
  users = asked.users;
}
