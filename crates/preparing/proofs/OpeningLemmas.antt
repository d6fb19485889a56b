-- What opens by what is written of a session.
use Rattle.std.proofs.Common.{ℕ, List, ◌≡◌, Some, sym, ap, subst, ◌∙◌}
use Rattle.std.proofs.lemmas.Option.{same_Some}
use Rattle.serde_json.specs.Data.{Data}
use Rattle.movement.specs.Movement.{boards_of}
use Rattle.pbn_records.specs.Reads.{Reads}
use Rattle.session_object.specs.Reading.{ReadsObject, notices_of, section_of}
use Rattle.session_object.specs.Session.{Session}
use Rattle.session_object.proofs.SessionLemmas.{one_session}
use Rattle.session_text.specs.SessionData.{session_data}
use Rattle.session_text.proofs.ReadingLemmas.{written_back}
use Rattle.serde_json.specs.Read.{read}
use Rattle.session_state.specs.SessionState.{SessionState}
use Rattle.opened_session.specs.Opened.{OpensWith}
use Rattle.session_text.specs.Writable.{IsWritableSession}
use Rattle.preparing.specs.OpensAs.{OpensAs}

-- where an object can say the session, it is this session
pub opens_as : (session : Session) (text : List ℕ) (opening : SessionState) → IsWritableSession session
    → read text ≡ Some (session_data session) → OpensWith (Some session.pbn) text opening → OpensAs session opening
opens_as session text opening writable reads opens =
    let object = opens.object in
    let said = opens.reads.said in
    let same_data : said ≡ session_data session = same_Some said (session_data session) (sym opens.reads.is.object.reads ∙ reads) in
    let read = subst (λ (d : Data). ReadsObject (Some session.pbn) d object) same_data opens.reads.reads in
    let same : read.session ≡ session = one_session (Some session.pbn) (session_data session) read.session session read.says (written_back session writable) in
    record {
      object = object;
      edition = read.edition ∙ ap (λ (s : Session). s.edition) same;
      movement = read.movement ∙ ap section_of same;
      boards = subst (λ (s : Session). Reads s.pbn (boards_of (section_of s)) object.config.boards) same read.boards;
      users = read.users ∙ ap (λ (s : Session). s.users) same;
      notices = read.notices ∙ ap notices_of same;
      opens = opens.opens;
    }
