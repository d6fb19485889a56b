-- Sessions that an object can say: their numbers, names and roles are such as it has, and what stands together may.
use Rattle.std.specs.Prelude.{◌≡◌, ◌<◌, ◌≤◌, ℕ, true, List, [], ◌∷◌, length, Option, IfSome, All}
use Rattle.hex.specs.Hex.{IsBytes}
use Rattle.user_names.specs.MemberNumber.{is_member_number}
use Rattle.user_names.specs.ShownName.{is_shown_name}
use Rattle.user_names.specs.declared.name.TheConstants.Name.{MOST}
use Rattle.table_terms.specs.declared.pair.Pair.{Pair}
use Rattle.movement.specs.declared.row.Row.{Row}
use Rattle.session_roles.specs.declared.edition.Edition.{Edition}
use Rattle.session_roles.specs.Role.{is_role_of}
use Rattle.session_opening.specs.declared.new_user.NewUser.{NewUser}
use Rattle.session_object.specs.declared.asked_movement.AskedMovement.{AskedMovement}
use Rattle.session_object.specs.declared.asked_movement.AskedMovement.TheVariants.{Nothing, Word, Rows}
use Rattle.session_object.specs.AskedMovement.{StandsBeside, longest_list}
use Rattle.json_fields.specs.Field.{is_shown_within}
use Rattle.notices.specs.declared.notices.TheConstants.Notices.{MOST_TITLE, MOST_REASONS}
use Rattle.notices.specs.declared.notice_text.TheConstants.NoticeText.{MOST as MOST_REASON}
use Rattle.session_object.specs.NoticeMembers.{is_date}
use Rattle.session_object.specs.Session.{Session, most_visits}

-- a pair has a number from 1 to 255
abbrev pub IsNumbered : Pair → Type 0
IsNumbered pair = (1 ≤ pair.number) × (pair.number < 256)

-- a text is a name to show, or empty
abbrev pub IsShownOrNone : List ℕ → Type 0
IsShownOrNone [] = Unit {0}
IsShownOrNone (byte ∷ bytes) = is_shown_name (byte ∷ bytes) ≡ true

-- a user's name has at most 32 bytes, the digest has 32, the roles are those that the edition has, the pair is
-- numbered, and so are the name to show and the member's number such as there are
pub record IsWritableUser (edition : Edition) (user : NewUser) : Type 0 where
  pub name : length user.name ≤ MOST
  pub size : length user.digest.bytes ≡ 32
  pub bytes : IsBytes user.digest.bytes
  pub roles : All (λ role. is_role_of edition role ≡ true) user.roles
  pub pair : IfSome user.seat (λ seat. IsNumbered seat.pair)
  pub shown : IsShownOrNone user.shown
  pub number : IfSome user.number (λ number. is_member_number number ≡ true)

-- a row's numbers are small, and its pairs are numbered
pub record IsWritableRow (row : Row) : Type 0 where
  pub round : row.round < 256
  pub table : row.table < 256
  pub set : row.set < 256
  pub north_south : IsNumbered row.north_south
  pub east_west : IsNumbered row.east_west

-- a list has a row at least, and no more than a list may have
abbrev pub IsWritableMovement : AskedMovement → Type 0
IsWritableMovement Nothing = Unit {0}
IsWritableMovement (Word word) = Unit {0}
IsWritableMovement (Rows rows) = (1 ≤ length rows) × (length rows ≤ longest_list) × All IsWritableRow rows

-- a session that an object can say
pub record IsWritableSession (session : Session) : Type 0 where
  pub absent : IfSome session.absent IsNumbered
  pub budget : session.budget ≤ most_visits
  pub date : IfSome session.date (λ date. is_date date ≡ true)
  pub movement : IsWritableMovement session.movement
  pub per_set : session.per_set < 256
  pub reasons : All (λ reason. is_shown_within MOST_REASON reason ≡ true) session.reasons
  pub few_reasons : length session.reasons ≤ MOST_REASONS
  pub rounds : session.rounds < 256
  pub shared_by : IfSome session.shared_by (λ tables. tables < 256)
  pub switched : IfSome session.switched (λ many. many < 256)
  pub tables : session.tables < 256
  pub title : IfSome session.title (λ title. is_shown_within MOST_TITLE title ≡ true)
  pub users : All (IsWritableUser session.edition) session.users
  pub together : StandsBeside session.movement session.rounds session.shared_by session.switched
