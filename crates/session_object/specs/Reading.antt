-- What is read from the text of a session object: what a session opens with, or the first fault in this order: the text
-- is too long, it is no JSON object, a member is wrong; then those of the movement, and then those of the boards' text.
use Rattle.std.specs.Prelude.{
  ◌≡◌,
  ◌≢◌,
  ℕ,
  ◌+◌,
  ◌<◌,
  ◌≤◌,
  max,
  List,
  length,
  Option,
  Some,
  None,
  Result,
  Ok,
  Err,
  IsUtf8,
}
use Rattle.std.specs.List.{fold}
use Rattle.std.specs.Option.{unwrap_or}
use Rattle.serde_json.specs.Data.{Data}
use Rattle.small_sets.specs.First.{IsFirst}
use Rattle.mitchell.specs.Mitchell.{MitchellSection}
use Rattle.mitchell.specs.declared.movement_error.MovementError.{MovementError}
use Rattle.mitchell.specs.declared.movement_error.MovementError.TheVariants.{BadTables, BadRounds, BadSets, BadPair}
use Rattle.movement.specs.Listed.{listed_section}
use Rattle.movement.specs.Mitchell.{mitchell_section}
use Rattle.movement.specs.Movement.{Section, boards_of}
use Rattle.movement.specs.declared.row.Row.{Row}
use Rattle.movement.specs.Refusal.{Refuses, RefusesList}
use Rattle.movement.specs.declared.limits.Limits.{Limits}
use Rattle.movement.specs.declared.list_error.ListError.{ListError}
use Rattle.movement.specs.declared.list_error.ListError.TheVariants as list
use Rattle.notices.specs.declared.notices.Notices.{Notices}
use Rattle.named_movements.specs.Named.{named_section, RefusesNamed}
use Rattle.named_movements.specs.declared.movement_word.MovementWord.{MovementWord}
use Rattle.named_movements.specs.declared.named_movement.NamedMovement.{NamedMovement}
use Rattle.pbn_records.specs.Reads as pbn
use Rattle.pbn_records.specs.declared.deals_error.DealsError.{DealsError}
use Rattle.pbn_records.specs.declared.deals_error.DealsError.TheVariants as deals
use Rattle.json_fields.specs.Object.{IsObject}
use Rattle.session_object.specs.declared.asked_movement.AskedMovement.{AskedMovement}
use Rattle.session_object.specs.declared.asked_movement.AskedMovement.TheVariants.{Nothing, Word, Rows}
use Rattle.session_object.specs.declared.object.SessionObject.{SessionObject}
use Rattle.session_object.specs.declared.parts.Parts.{Parts}
use Rattle.session_object.specs.declared.reading.TheConstants.{MOST_BYTES}
use Rattle.session_object.specs.declared.session_fault.SessionFault.{SessionFault}
use Rattle.session_object.specs.declared.session_fault.SessionFault.TheVariants.{
  TooLong,
  Malformed,
  BadField,
  Movement,
  Row as AtRow,
  Deals,
  OutOfMemory,
}
use Rattle.session_object.specs.Session.{Session, IsSession}

-- how many bytes the text of a session object has at most
abbrev pub most_bytes : ℕ
most_bytes = MOST_BYTES

-- ---- the movement

-- the numbers of a Mitchell
abbrev pub mitchell_asked : Session → MitchellSection
mitchell_asked session = record {
  tables = session.tables;
  rounds = session.rounds;
  per_set = session.per_set;
  absent = session.absent;
}

-- the greatest set that a row names
abbrev pub greatest_set : List Row → ℕ
greatest_set rows = fold (λ greatest (row : Row). max greatest row.set) 0 rows

-- in which limits the rows of a list stay: its sets are those up to the greatest that it names, and one table plays a set in a
-- round where nothing else is said
abbrev pub limits_of_list : Session → List Row → Limits
limits_of_list session rows = record {
  rounds = session.rounds;
  tables = session.tables;
  sets = greatest_set rows;
  shared_by = unwrap_or session.shared_by 1;
}

-- the movement of a word, with the session's numbers
abbrev pub with_word : Session → MovementWord → NamedMovement
with_word session word = record {
  word = word;
  tables = session.tables;
  rounds = session.rounds;
  per_set = session.per_set;
  switched = unwrap_or session.switched 0;
  absent = session.absent;
}

-- the section of a movement that is asked for: the Mitchell, that of a word, or that of a list's rows
abbrev pub section_asked : AskedMovement → Session → Section
section_asked Nothing session = mitchell_section (mitchell_asked session)
section_asked (Word word) session = named_section (with_word session word)
section_asked (Rows rows) session =
    listed_section (limits_of_list session rows) session.per_set session.absent rows

-- the section that a session object asks for
abbrev pub section_of : Session → Section
section_of session = section_asked session.movement session

-- the fault of a list's or a word's error: a row is told by its number, from 1
abbrev pub fault_of_list : ListError → SessionFault
fault_of_list list.BadTables = Movement BadTables
fault_of_list list.BadRounds = Movement BadRounds
fault_of_list list.BadSets = Movement BadSets
fault_of_list (list.BadRow misplaced) = AtRow misplaced.fault (misplaced.place + 1)
fault_of_list list.BadPair = Movement BadPair

-- no Mitchell has these numbers
abbrev pub RefusesNumbers : Session → SessionFault → Type 0
RefusesNumbers session fault =
    (error : MovementError) × (fault ≡ Movement error) × Refuses error (mitchell_asked session)

-- the movement of the word hasn't these numbers
abbrev pub RefusesWord : Session → MovementWord → SessionFault → Type 0
RefusesWord session word fault =
    (error : ListError) × (fault ≡ fault_of_list error) × RefusesNamed (with_word session word) error

-- no movement has these rows
abbrev pub RefusesRows : Session → List Row → SessionFault → Type 0
RefusesRows session rows fault =
    (error : ListError) × (fault ≡ fault_of_list error)
    × RefusesList (limits_of_list session rows) session.per_set session.absent rows error

-- there is no such movement
abbrev pub RefusesAsked : AskedMovement → Session → SessionFault → Type 0
RefusesAsked Nothing session fault = RefusesNumbers session fault
RefusesAsked (Word word) session fault = RefusesWord session word fault
RefusesAsked (Rows rows) session fault = RefusesRows session rows fault

-- the movement of a session isn't made
abbrev pub RefusesMovement : Session → SessionFault → Type 0
RefusesMovement session fault = RefusesAsked session.movement session fault

-- the place of a movement's fault in the order
abbrev pub fault_place : SessionFault → ℕ
fault_place (Movement BadTables) = 1
fault_place (Movement BadRounds) = 2
fault_place (Movement BadSets) = 3
fault_place (AtRow fault number) = 4
fault_place (Movement BadPair) = 5
fault_place _ = 0

-- there is such a movement
abbrev pub HasNoMovementFault : Session → Type 0
HasNoMovementFault session = (fault : SessionFault) → ¬ RefusesMovement session fault

-- ---- objects

-- what the session tells its members of itself
abbrev pub notices_of : Session → Notices
notices_of session = record { title = session.title; date = session.date; reasons = session.reasons }

-- what a session opens with, by an object: its edition, its section, the boards that its text gives to it, its users,
-- what it tells of itself, its budget
pub record ReadsObject (given : Option (List ℕ)) (d : Data) (object : SessionObject) : Type 0 where
  pub session : Session
  pub says : IsSession given d session
  pub edition : object.config.edition ≡ session.edition
  pub movement : object.config.movement ≡ section_of session
  pub allowed : HasNoMovementFault session
  pub boards : pbn.Reads session.pbn (boards_of (section_of session)) object.config.boards
  pub users : object.config.users ≡ session.users
  pub notices : object.config.notices ≡ notices_of session
  pub budget : object.budget ≡ session.budget

-- the movement of an object is refused
pub record HasNoMovement (given : Option (List ℕ)) (d : Data) (fault : SessionFault) : Type 0 where
  pub session : Session
  pub says : IsSession given d session
  pub refused : IsFirst fault_place (RefusesMovement session) fault

-- the boards' text of an object is refused
pub record HasNoBoards (given : Option (List ℕ)) (d : Data) (error : DealsError) : Type 0 where
  pub session : Session
  pub says : IsSession given d session
  pub allowed : HasNoMovementFault session
  pub refused : pbn.IsRefused error session.pbn (boards_of (section_of session))

-- why an object is refused
abbrev pub IsRefusedObject : SessionFault → Option (List ℕ) → Data → Type 0
IsRefusedObject TooLong given d = ⊥
IsRefusedObject Malformed given d = ⊥
IsRefusedObject BadField given d = (session : Session) → ¬ IsSession given d session
IsRefusedObject (Movement error) given d = HasNoMovement given d (Movement error)
IsRefusedObject (AtRow fault number) given d = HasNoMovement given d (AtRow fault number)
IsRefusedObject (Deals error) given d = (error ≢ deals.OutOfMemory) × HasNoBoards given d error
IsRefusedObject OutOfMemory given d = Unit {0}

-- ---- texts

-- the text isn't too long, and is this object
pub record IsObjectText (text : List ℕ) (d : Data) : Type 0 where
  pub short : length text ≤ most_bytes
  pub object : IsObject text d

-- what a session opens with, by a text
pub record ReadsSession (given : Option (List ℕ)) (text : List ℕ) (object : SessionObject) : Type 0 where
  pub said : Data
  pub is : IsObjectText text said
  pub reads : ReadsObject given said object

-- bytes that are read as JSON at all, for which memory may be asked: they are not too many, and a text in UTF-8
pub record IsReadAsJson (bytes : List ℕ) : Type 0 where
  pub short : length bytes ≤ most_bytes
  pub utf8 : IsUtf8 bytes

-- a text that isn't too long and is no object
pub record IsNoObject (text : List ℕ) : Type 0 where
  pub short : length text ≤ most_bytes
  pub none : (d : Data) → ¬ IsObject text d

-- a text whose object is refused
pub record IsRefusedText (fault : SessionFault) (given : Option (List ℕ)) (text : List ℕ) : Type 0 where
  pub said : Data
  pub is : IsObjectText text said
  pub refused : IsRefusedObject fault given said

-- why a text is refused
abbrev pub IsSessionRefused : SessionFault → Option (List ℕ) → List ℕ → Type 0
IsSessionRefused TooLong given text = most_bytes < length text
IsSessionRefused Malformed given text = IsNoObject text
IsSessionRefused BadField given text = IsRefusedText BadField given text
IsSessionRefused (Movement error) given text = IsRefusedText (Movement error) given text
IsSessionRefused (AtRow fault number) given text = IsRefusedText (AtRow fault number) given text
IsSessionRefused (Deals error) given text = IsRefusedText (Deals error) given text
IsSessionRefused OutOfMemory given text = Unit {0}

-- ---- for private clauses

-- the session of the parts that were read
abbrev pub session_of_parts : Parts → Session
session_of_parts parts = record {
  absent = parts.absent;
  budget = parts.budget;
  date = parts.date;
  edition = parts.edition;
  movement = parts.movement;
  pbn = parts.pbn.now;
  per_set = parts.per_set;
  reasons = parts.reasons;
  rounds = parts.rounds;
  shared_by = parts.shared_by;
  switched = parts.switched;
  tables = parts.tables;
  title = parts.title;
  users = parts.users;
}

-- where a list's error is about a row, the row is one of these
abbrev pub IsAboutRow : ListError → List Row → Type 0
IsAboutRow (list.BadRow misplaced) rows = misplaced.place < length rows
IsAboutRow _ rows = Unit {0}

-- the fault of a session object whose boards' text is refused
abbrev pub fault_of_deals : DealsError → SessionFault
fault_of_deals deals.OutOfMemory = OutOfMemory
fault_of_deals (deals.BadTag offset) = Deals (deals.BadTag offset)
fault_of_deals (deals.BadDeal offset) = Deals (deals.BadDeal offset)
fault_of_deals (deals.HiddenHand offset) = Deals (deals.HiddenHand offset)
fault_of_deals (deals.BadMark offset) = Deals (deals.BadMark offset)
fault_of_deals (deals.DealConflict offset) = Deals (deals.DealConflict offset)
fault_of_deals (deals.InheritedForm offset) = Deals (deals.InheritedForm offset)
fault_of_deals (deals.MissingBoard board) = Deals (deals.MissingBoard board)

-- a function that answered with the fault found that something isn't as it should be, or memory was refused
abbrev pub FailsPart : {A : Type 0} → SessionFault → Option A → Type 0
FailsPart TooLong read = ⊥
FailsPart Malformed read = ⊥
FailsPart BadField read = read ≡ None
FailsPart (Movement error) read = ⊥
FailsPart (AtRow fault number) read = ⊥
FailsPart (Deals error) read = ⊥
FailsPart OutOfMemory read = Unit {0}

-- what a function answered is what is read, unless memory was refused
abbrev pub GivesPart : {A : Type 0} → Result A SessionFault → Option A → Type 0
GivesPart (Ok x) read = read ≡ Some x
GivesPart (Err fault) read = FailsPart fault read
