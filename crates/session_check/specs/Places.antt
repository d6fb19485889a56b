-- Why a session isn't opened, and where: for which user, and in which line.
use Rattle.std.specs.Prelude.{◌≡◌, ℕ, false, List, get_or, Option, None, Some}
use Rattle.session_opening.specs.OpeningRefusal.{opening_refusal}
use Rattle.session_opening.specs.declared.config.Config.{Config}
use Rattle.session_opening.specs.declared.new_user.NewUser.{NewUser}
use Rattle.session_opening.specs.declared.opening_refusal.OpeningRefusal.{OpeningRefusal}
use Rattle.session_object.specs.Reading.{ReadsSession}
use Rattle.session_object.specs.declared.object.SessionObject.{SessionObject}
use Rattle.session_object.specs.declared.session_fault.SessionFault.TheVariants.{OutOfMemory}
use Rattle.opened_session.specs.declared.opening_fault.OpeningFault.{OpeningFault}
use Rattle.opened_session.specs.declared.opening_fault.OpeningFault.TheVariants.{Session, Opening}
use Rattle.session_check.specs.declared.refused.NamedUser.{NamedUser}
use Rattle.session_check.specs.Lines.{offset_of, LineIsTold}
use Rattle.session_check.specs.Users.{is_of_user, IsRefusedUser, IsUserAt, TellsAt, first_in_the_way}

-- a user is told, for whom the session isn't opened, and the first before who is in the way of that one; or none is told, and
-- it isn't opened for none
abbrev pub TellsUsers : Config → OpeningRefusal → Option NamedUser → Option NamedUser → Type 0
TellsUsers config cause None other = (is_of_user (opening_refusal config) ≡ false) × (other ≡ None)
TellsUsers config cause (Some user) other =
    (place : ℕ) × IsRefusedUser config place × IsUserAt config.users place user
    × ((d : NewUser) → TellsAt config.users (first_in_the_way cause config.users place (get_or config.users place d)) other)

-- whom a refusal tells: nobody where the object isn't read, and else the users of the object
abbrev pub TellsWhom : Option (List ℕ) → List ℕ → OpeningFault → Option NamedUser → Option NamedUser → Type 0
TellsWhom given text (Session fault) user other = (user ≡ None) × (other ≡ None)
TellsWhom given text (Opening cause) user other =
    (object : SessionObject) × ReadsSession given text object × TellsUsers object.config cause user other

-- which line a refusal tells: that of the byte at which a fault of the boards' text stands, and else none
abbrev pub TellsWhere : Option (List ℕ) → List ℕ → OpeningFault → Option ℕ → Type 0
TellsWhere given text (Session fault) line = LineIsTold given text (offset_of fault) line
TellsWhere given text (Opening cause) line = line ≡ None

-- ---- for private clauses

-- a session of what opens with is refused, by its first cause; or memory was
abbrev pub RefusesConfig : Config → OpeningFault → Option ℕ → Option NamedUser → Option NamedUser → Type 0
RefusesConfig config (Opening cause) line user other =
    (opening_refusal config ≡ Some cause) × (line ≡ None) × TellsUsers config cause user other
RefusesConfig config (Session OutOfMemory) line user other = (line ≡ None) × (user ≡ None) × (other ≡ None)
RefusesConfig config (Session _) line user other = ⊥
