-- What a session object comes to: the session that it opens, or why it opens none.
use Rattle.std.specs.Prelude.{◌≡◌, ◌⊎◌, ℕ, Bool, true, false, List, Option, None, Some}
use Rattle.session_state.specs.SessionState.{SessionState}
use Rattle.session_opening.specs.Opening.{opening_of}
use Rattle.session_opening.specs.OpeningRefusal.{opening_refusal}
use Rattle.session_opening.specs.declared.opening_refusal.OpeningRefusal.{OpeningRefusal}
use Rattle.session_opening.specs.declared.opening_refusal.OpeningRefusal.TheVariants as refusal
use Rattle.session_object.specs.declared.object.SessionObject.{SessionObject}
use Rattle.session_object.specs.declared.session_fault.SessionFault.{SessionFault}
use Rattle.session_object.specs.declared.session_fault.SessionFault.TheVariants as session
use Rattle.session_object.specs.Reading.{ReadsSession, IsSessionRefused, IsReadAsJson}
use Rattle.opened_session.specs.declared.opening_fault.OpeningFault.{OpeningFault}
use Rattle.opened_session.specs.declared.opening_fault.OpeningFault.TheVariants.{Session, Opening}

-- the text is a session object whose boards are given beside it, or stand in it where none are; nothing refuses the
-- session, and this is its opening
pub record OpensWith (given : Option (List ℕ)) (text : List ℕ) (opening : SessionState) : Type 0 where
  pub object : SessionObject
  pub reads : ReadsSession given text object
  pub allowed : opening_refusal object.config ≡ None
  pub opens : opening ≡ opening_of object.config

-- the text is a session object, and so many visits it gives each call of the solver's
pub record GivesBudget (given : Option (List ℕ)) (text : List ℕ) (budget : ℕ) : Type 0 where
  pub object : SessionObject
  pub reads : ReadsSession given text object
  pub is : budget ≡ object.budget

-- the text is a session object, and this is the first cause not to open its session; or nothing refuses it, and memory
-- was refused
pub record IsNotOpened (given : Option (List ℕ)) (text : List ℕ) (cause : OpeningRefusal) : Type 0 where
  pub object : SessionObject
  pub reads : ReadsSession given text object
  pub refused : (opening_refusal object.config ≡ Some cause)
      ⊎ ((cause ≡ refusal.OutOfMemory) × (opening_refusal object.config ≡ None))

-- the text has this fault as a session object; memory is asked for only where it isn't too long, and a text
pub record IsUnreadObject (given : Option (List ℕ)) (text : List ℕ) (fault : SessionFault) : Type 0 where
  pub refused : IsSessionRefused fault given text
  pub memory : fault ≡ session.OutOfMemory → IsReadAsJson text

-- why the text opens no session: its fault as a session object, else the first cause not to open the session. Want of
-- memory is the last of the one's and of the other's
abbrev pub OpensNoneWith : Option (List ℕ) → OpeningFault → List ℕ → Type 0
OpensNoneWith given (Session fault) text = IsUnreadObject given text fault
OpensNoneWith given (Opening cause) text = IsNotOpened given text cause

-- the fault is want of memory, for the object or for its session
abbrev pub is_want_of_memory : OpeningFault → Bool
is_want_of_memory (Session session.OutOfMemory) = true
is_want_of_memory (Opening refusal.OutOfMemory) = true
is_want_of_memory _ = false
