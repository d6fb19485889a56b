-- Which member of a session object isn't as it should be: the first in the order of the form, of the session and then of its users.
use Rattle.std.specs.Prelude.{ℕ, ◌+◌, Bool, true, false, ◌||◌, is_some, [], codes, Option, Some, None, option_map}
use Rattle.std.specs.Option.{option_or, unwrap_or}
use Rattle.serde_json.specs.Data.{Data, Items, no_items, item}
use Rattle.serde_json.specs.Find.{get}
use Rattle.session_roles.specs.declared.edition.Edition.{Edition}
use Rattle.json_fields.specs.Form.{Member, has_only}
use Rattle.json_fields.specs.Field.{limited, numbered, written, elements}
use Rattle.json_fields.specs.User.{user_name, digest, user_roles, pair, absent, place, shown_name, member_number}
use Rattle.session_object.specs.NoticeMembers.{title, date, reasons}
use Rattle.session_object.specs.AskedMovement.{shared_by, switched_rounds}
use Rattle.session_object.specs.Session.{session_edition, edition_said, seated, unseated, member_names, most_visits}
use Rattle.session_check.specs.declared.member.MemberName.{MemberName}
use Rattle.session_check.specs.declared.member.MemberName.TheVariants as member
use Rattle.session_check.specs.declared.member.MemberAt.{MemberAt}

-- what stands there is read as the member
abbrev pub is_read : {A : Type 0} → Member A → Data → Bool
is_read m d = is_some (m.value (get m.name d))

-- the member, where it isn't read, and else what is found after it
abbrev pub unless_read : Bool → MemberName → Option MemberName → Option MemberName
unless_read true found rest = rest
unless_read false found rest = Some found

-- the first member of a user who sits nowhere that isn't read
abbrev pub unseated_misread : Edition → Data → Option MemberName
unseated_misread edition d =
    unless_read (has_only (unseated edition).names d) member.Listed
    (unless_read (is_read digest d) member.Digest
    (unless_read (is_read user_name d) member.Name
    (unless_read (is_read member_number d) member.Number
    (unless_read (is_read (user_roles edition) d) member.Roles
    (unless_read (is_read shown_name d) member.Shown None)))))

-- the same of a user who sits somewhere
abbrev pub seated_misread : Edition → Data → Option MemberName
seated_misread edition d =
    unless_read (has_only (seated edition).names d) member.Listed
    (unless_read (is_read digest d) member.Digest
    (unless_read (is_read user_name d) member.Name
    (unless_read (is_read member_number d) member.Number
    (unless_read (is_read pair d) member.Pair
    (unless_read (is_read place d) member.Place
    (unless_read (is_read (user_roles edition) d) member.Roles
    (unless_read (is_read shown_name d) member.Shown None)))))))

-- which of the two it is, by the member `pair`
abbrev pub misread_by : Edition → Option Data → Data → Option MemberName
misread_by edition None d = unseated_misread edition d
misread_by edition (Some _) d = seated_misread edition d

-- the first member of a user that isn't read
unfoldable pub user_misread : Edition → Data → Option MemberName
user_misread edition d = misread_by edition (get (codes "pair") d) d

-- a member of the user of a number
abbrev pub of_user : ℕ → MemberName → MemberAt
of_user number name = record { user = Some number; name = name }

-- of users with numbers, of which the first is given, the first who has such a member
abbrev pub users_misread : Edition → ℕ → Items → Option MemberAt
users_misread edition number no_items = None
users_misread edition number (item d ds) =
    option_or (option_map (of_user number) (user_misread edition d))
    (users_misread edition (number + 1) ds)

-- the first of the members after the boards' text that isn't read, the users left out
abbrev pub later_misread : Data → Option MemberName
later_misread d =
    unless_read (is_read (numbered (codes "per_set")) d) member.PerSet
    (unless_read (is_read reasons d) member.Reasons
    (unless_read (is_read (numbered (codes "rounds")) d) member.Rounds
    (unless_read (is_read shared_by d) member.SharedBy
    (unless_read (is_read switched_rounds d) member.Switched
    (unless_read (is_read (numbered (codes "tables")) d) member.Tables
    (unless_read (is_read title d) member.Title None))))))

-- the boards are given beside the object, or it has their text
abbrev pub has_boards : Bool → Data → Bool
has_boards beside d = beside || is_read (written (codes "pbn")) d

-- the first member of a session that isn't read, its movement and its users left out: where the boards are given beside the
-- object it has no `pbn`
abbrev pub session_misread : Bool → Data → Option MemberName
session_misread beside d =
    unless_read (has_only (member_names beside) d) member.Listed
    (unless_read (is_read absent d) member.Absent
    (unless_read (is_read (limited (codes "budget") most_visits) d) member.Budget
    (unless_read (is_read date d) member.Date
    (unless_read (is_read session_edition d) member.Edition
    (unless_read (has_boards beside d) member.Pbn (later_misread d))))))

-- a member of the session
abbrev pub of_session : MemberName → MemberAt
of_session name = record { user = None; name = name }

-- the first user's member that isn't read, or that there is no list of users; where all are read, it is the movement, or what
-- stands beside it
abbrev pub users_or_movement : Edition → Option Items → MemberAt
users_or_movement edition None = of_session member.Users
users_or_movement edition (Some items) = unwrap_or (users_misread edition 1 items) (of_session member.Movement)

-- the member of the session, or else that
abbrev pub member_or : Option MemberName → MemberAt → MemberAt
member_or (Some name) other = of_session name
member_or None other = other

-- which member of an object that says no session isn't as it should be, where the boards are given beside it or stand in it
unfoldable pub misread_at : Bool → Data → MemberAt
misread_at beside d =
    member_or (session_misread beside d)
    (users_or_movement (edition_said (get (codes "edition") d)) (elements (get (codes "users") d)))
