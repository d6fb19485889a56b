-- The session object: the JSON object with which a session opens, by its members.
use Rattle.std.specs.Prelude.{
  ◌≡◌,
  ℕ,
  nat_eq,
  List,
  [],
  ◌∷◌,
  Bool,
  true,
  false,
  if◌then◌else◌,
  codes,
  Option,
  Some,
  None,
  option_and_then,
}
use Rattle.std.specs.List.{find}
use Rattle.std.specs.Option.{unwrap_or}
use Rattle.serde_json.specs.Data.{Data}
use Rattle.serde_json.specs.Find.{get}
use Rattle.table_terms.specs.declared.pair.Pair.{Pair}
use Rattle.session_roles.specs.declared.edition.Edition.{Edition}
use Rattle.session_roles.specs.declared.edition.Edition.TheVariants.{First, Second}
use Rattle.session_roles.specs.Edition.{edition_number}
use Rattle.session_opening.specs.declared.new_user.NewUser.{NewUser}
use Rattle.json_fields.specs.Form.{Member, Form, form, ◌with◌, formed, HasForm}
use Rattle.json_fields.specs.Field.{whole, limited, numbered, written, listed}
use Rattle.json_fields.specs.User.{user_name, digest, user_roles, pair, absent, place, shown_name, member_number}
use Rattle.session_object.specs.declared.asked_movement.AskedMovement.{AskedMovement}
use Rattle.session_object.specs.NoticeMembers.{title, date, reasons}
use Rattle.session_object.specs.AskedMovement.{asked_movement, shared_by, switched_rounds, StandsBeside, stands_beside}

-- ---- the edition of the policy: 1 or 2, and 1 where it is left out

-- the edition of a number
abbrev pub edition_numbered : ℕ → Option Edition
edition_numbered number = find (λ edition. nat_eq (edition_number edition) number) (First ∷ Second ∷ [])

-- the edition whose number stands there, or the first one where nothing does
abbrev pub edition_or_first : Option Data → Option Edition
edition_or_first None = Some First
edition_or_first (Some d) = option_and_then edition_numbered (whole d)

-- what stands there is the edition's number, or it is the first one and nothing does
abbrev pub IsEdition : Option Data → Edition → Type 0
IsEdition None edition = edition ≡ First
IsEdition (Some d) edition = whole d ≡ Some (edition_number edition)

-- the edition of the session
abbrev pub session_edition : Member Edition
session_edition = record { name = codes "edition"; value = edition_or_first; Is = IsEdition }

-- the edition that is said, by which the roles of the users are read; where what stands there is no edition, the object
-- is no session
abbrev pub edition_said : Option Data → Edition
edition_said o = unwrap_or (edition_or_first o) First

-- ---- users

-- a user who sits somewhere: the pair and the place stand together
abbrev pub seated : Edition → Form NewUser
seated edition =
    form [] (λ digest name number pair place roles shown. record {
      name = name;
      digest = digest;
      roles = roles;
      seat = Some (record { pair = pair; place = place });
      shown = shown;
      number = number;
    })
    with digest with user_name with member_number with pair with place with user_roles edition with shown_name

-- a user who sits nowhere
abbrev pub unseated : Edition → Form NewUser
unseated edition =
    form [] (λ digest name number roles shown. record {
      name = name;
      digest = digest;
      roles = roles;
      seat = None;
      shown = shown;
      number = number;
    })
    with digest with user_name with member_number with user_roles edition with shown_name

-- which of the two it is, by the member `pair`
abbrev pub user_form : Edition → Option Data → Form NewUser
user_form edition None = unseated edition
user_form edition (Some _) = seated edition

-- the user that an object says
unfoldable pub new_user_of : Edition → Data → Option NewUser
new_user_of edition d = formed [] (user_form edition (get (codes "pair") d)) d

-- the object has the members of this user, and no other
abbrev pub IsUser : Edition → Data → NewUser → Type 0
IsUser edition d user = HasForm [] (user_form edition (get (codes "pair") d)) d user

-- the users, in the order of the list
abbrev pub users : Edition → Member (List NewUser)
users edition = listed (codes "users") (new_user_of edition) (IsUser edition)

-- ---- sessions

-- what a session object says: the pair that is absent, if one is, the visits of a solver's call, the day, if it is said,
-- the edition of the policy, the movement that it asks for, the boards' PBN text, what the reasons of rulings mean, the
-- numbers of the movement, the title, if there is one, and the users
pub record Session : Type 0 where
  pub absent : Option Pair
  pub budget : ℕ
  pub date : Option (List ℕ)
  pub edition : Edition
  pub movement : AskedMovement
  pub pbn : List ℕ
  pub per_set : ℕ
  pub reasons : List (List ℕ)
  pub rounds : ℕ
  pub shared_by : Option ℕ
  pub switched : Option ℕ
  pub tables : ℕ
  pub title : Option (List ℕ)
  pub users : List NewUser

-- the most visits of a solver's call
abbrev pub most_visits : ℕ
most_visits = 1000000000000000000

-- a session object that has its boards in it
abbrev pub with_boards : Edition → Form Session
with_boards edition =
    form [] (λ absent budget date said asked pbn per_set reasons rounds shared_by switched tables title users. record {
      absent = absent;
      budget = budget;
      date = date;
      edition = said;
      movement = asked;
      pbn = pbn;
      per_set = per_set;
      reasons = reasons;
      rounds = rounds;
      shared_by = shared_by;
      switched = switched;
      tables = tables;
      title = title;
      users = users;
    })
    with absent with limited (codes "budget") most_visits with date with session_edition with asked_movement
    with written (codes "pbn") with numbered (codes "per_set") with reasons with numbered (codes "rounds")
    with shared_by with switched_rounds with numbered (codes "tables") with title with users edition

-- a session object whose boards are given beside it
abbrev pub beside_boards : Edition → List ℕ → Form Session
beside_boards edition pbn =
    form [] (λ absent budget date said asked per_set reasons rounds shared_by switched tables title users. record {
      absent = absent;
      budget = budget;
      date = date;
      edition = said;
      movement = asked;
      pbn = pbn;
      per_set = per_set;
      reasons = reasons;
      rounds = rounds;
      shared_by = shared_by;
      switched = switched;
      tables = tables;
      title = title;
      users = users;
    })
    with absent with limited (codes "budget") most_visits with date with session_edition with asked_movement
    with numbered (codes "per_set") with reasons with numbered (codes "rounds") with shared_by with switched_rounds
    with numbered (codes "tables") with title with users edition

-- how the members are called, of an object beside which the boards are given, and of one that has them in it
abbrev pub member_names : Bool → List (List ℕ)
member_names true = (beside_boards First []).names
member_names false = (with_boards First).names

-- which of the two it is, by the deals that are given
abbrev pub session_form : Edition → Option (List ℕ) → Form Session
session_form edition None = with_boards edition
session_form edition (Some deals) = beside_boards edition deals

-- the object has the members of this session, and no other, and they may stand together; the roles of its users are those
-- of its edition
pub record IsSession (deals : Option (List ℕ)) (d : Data) (session : Session) : Type 0 where
  pub members : HasForm [] (session_form (edition_said (get (codes "edition") d)) deals) d session
  pub together : StandsBeside session.movement session.rounds session.shared_by session.switched

-- ---- for private clauses

-- what an object's members say
unfoldable pub members_say : Option (List ℕ) → Data → Option Session
members_say deals d = formed [] (session_form (edition_said (get (codes "edition") d)) deals) d

-- a session whose members may stand together
abbrev pub standing : Session → Option Session
standing session =
    if stands_beside session.movement session.rounds session.shared_by session.switched then Some session else None

-- the session that an object says
abbrev pub session_of : Option (List ℕ) → Data → Option Session
session_of deals d = option_and_then standing (members_say deals d)
