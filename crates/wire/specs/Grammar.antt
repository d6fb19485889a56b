-- What a message is, said of its members alone: nothing here knows an order of reading.
use Rattle.std.specs.Prelude.{
  ◌≡◌,
  ◌≢◌,
  ◌⊎◌,
  ℕ,
  ◌<◌,
  ◌≤◌,
  List,
  [],
  ◌∷◌,
  length,
  count_by,
  All,
  true,
  is_some,
  IsSome,
  codes,
  Option,
  Some,
  None,
  option_and_then,
}
use Rattle.serde_json.specs.Data.{Data, Items}
use Rattle.serde_json.specs.Find.{get, as_array}
use Rattle.session_commands.specs.declared.command.Command.{Command}
use Rattle.session_queries.specs.declared.query.Query.{Query}
use Rattle.wire.specs.declared.audit_range.AuditRange.{AuditRange}
use Rattle.wire.specs.declared.request.Request.{Request}
use Rattle.wire.specs.declared.request.RequestBody.{RequestBody}
use Rattle.wire.specs.declared.request.RequestBody.TheVariants as body
use Rattle.wire.specs.declared.request.UserRequest.TheVariants as wanting
use Rattle.session_roles.specs.declared.edition.Edition.{Edition}
use Rattle.wire.specs.declared.dialect.Dialect.{Dialect}
use Rattle.wire.specs.declared.source.Source.{Source}
use Rattle.wire.specs.declared.source.Source.TheVariants.{Script, Connection}
use Rattle.json_fields.specs.declared.request_fault.RequestFault.{RequestFault}
use Rattle.json_fields.specs.declared.request_fault.RequestFault.TheVariants.{
  TooLong,
  Malformed,
  UnknownRequest,
  BadField,
  OutOfMemory,
}
use Rattle.json_fields.specs.Form.{has_only, words, HasForm, HasFormOf, AreEach}
use Rattle.json_fields.specs.Field.{text_at}
use Rattle.json_fields.specs.Message.{since}
use Rattle.json_fields.specs.Object.{IsObject}
use Rattle.command_object.specs.Command.{has_unknown, IsCommand}
use Rattle.wire.specs.Query.{queries, asking}
use Rattle.wire.specs.Request.{most_message_bytes, doing}
use Rattle.wire.specs.Audit.{audit_range, auditing}
use Rattle.wire.specs.Greeting.{greeting, a_greeting}
use Rattle.wire.specs.Source.{said_user}
use Rattle.session_book.specs.Run.{most_commands}

-- the bytes aren't too many for a message, and are this object's text
pub record IsMessage (bytes : List ℕ) (d : Data) : Type 0 where
  pub short : length bytes ≤ most_message_bytes
  pub object : IsObject bytes d

-- how many of the members that make a request are there
abbrev pub request_count : Data → ℕ
request_count d =
    count_by (λ member. is_some member)
    (get (codes "ask") d ∷ get (codes "do") d ∷ get (codes "audit") d ∷ get (codes "hello") d ∷ [])

-- it greets, and in a script
abbrev pub GreetsInScript : Source → Data → Type 0
GreetsInScript source d = (source ≡ Script) × IsSome (get (codes "hello") d)

-- it asks by a text that no query of the edition is called by
abbrev pub AsksAnother : Edition → Data → Type 0
AsksAnother edition d =
    (word : List ℕ) × (text_at (codes "ask") d ≡ Some word) × All (λ other. word ≢ other) (words (queries edition))

-- somewhere in its list a word names no command of the edition
abbrev pub WantsAnother : Edition → Data → Type 0
WantsAnother edition d =
    (elements : Items) × (option_and_then as_array (get (codes "do") d) ≡ Some elements)
    × (has_unknown edition elements ≡ true)

-- not exactly one member makes a request, or it is a greeting in a script, or a word in it names nothing
abbrev pub IsUnknownRequest : Dialect → Data → Type 0
IsUnknownRequest dialect d =
    (request_count d ≢ 1)
    ⊎ (GreetsInScript dialect.source d ⊎ (AsksAnother dialect.edition d ⊎ WantsAnother dialect.edition d))

-- whose it is, by where it comes from
abbrev pub IsOf : Source → Data → Option (List ℕ) → Type 0
IsOf source d user = let whose = said_user source in whose.Is (get whose.name d) user

-- it asks for this, for this user and from this version on, and nothing else stands in it
pub record IsQuery (dialect : Dialect) (d : Data) (name : Option (List ℕ)) (query : Query) (version : ℕ) : Type 0 where
  pub one : request_count d ≡ 1
  pub asked : (word : List ℕ) × (text_at (codes "ask") d ≡ Some word)
      × HasFormOf asking (queries dialect.edition) word d query
  pub user : IsOf dialect.source d name
  pub since : since.Is (get since.name d) version

-- it wants these commands done, for this user, and nothing else stands in it
pub record IsBatch (dialect : Dialect) (d : Data) (name : Option (List ℕ)) (commands : List Command) : Type 0 where
  pub one : request_count d ≡ 1
  pub list : (elements : Items) × (option_and_then as_array (get (codes "do") d) ≡ Some elements)
      × AreEach (IsCommand dialect.edition) elements commands
  pub few : length commands ≤ most_commands
  pub listed : has_only doing d ≡ true
  pub user : IsOf dialect.source d name

-- it asks for these rows of the audit, for this user, and nothing else stands in it
pub record IsAudit (source : Source) (d : Data) (name : Option (List ℕ)) (range : AuditRange) : Type 0 where
  pub one : request_count d ≡ 1
  pub asked : (rows : Data) × (get (codes "audit") d ≡ Some rows) × HasForm [] audit_range rows range
  pub listed : has_only auditing d ≡ true
  pub user : IsOf source d name

-- on a connection it greets with this name and this token, and nothing else stands in it
pub record IsGreeting (source : Source) (d : Data) (user : Option (List ℕ)) (name token : List ℕ) : Type 0 where
  pub one : request_count d ≡ 1
  pub from : source ≡ Connection
  pub form : HasForm [] greeting d (a_greeting name token)
  pub nobody : user ≡ None

-- it is no query, no batch, no audit and no greeting
pub record IsNoRequest (dialect : Dialect) (d : Data) : Type 0 where
  pub no_query : (user : Option (List ℕ)) (query : Query) (version : ℕ) → ¬ IsQuery dialect d user query version
  pub no_batch : (user : Option (List ℕ)) (commands : List Command) → ¬ IsBatch dialect d user commands
  pub no_audit : (user : Option (List ℕ)) (range : AuditRange) → ¬ IsAudit dialect.source d user range
  pub no_greeting : (user : Option (List ℕ)) (name token : List ℕ) → ¬ IsGreeting dialect.source d user name token

-- what its members make of an object, and whose it is
abbrev pub Makes : Dialect → Data → Option (List ℕ) → RequestBody → Type 0
Makes dialect d user (body.OfUser (wanting.Query query version)) = IsQuery dialect d user query version
Makes dialect d user (body.OfUser (wanting.Batch commands)) = IsBatch dialect d user commands
Makes dialect d user (body.OfUser (wanting.Audit range)) = IsAudit dialect.source d user range
Makes dialect d user (body.Hello name token) = IsGreeting dialect.source d user name token

-- the bytes are a message, and its members make it this request
pub record Says (dialect : Dialect) (bytes : List ℕ) (request : Request) : Type 0 where
  pub said : Data
  pub is : IsMessage bytes said
  pub makes : Makes dialect said request.user request.body

-- a message that is an unknown request
pub record SaysUnknown (dialect : Dialect) (bytes : List ℕ) : Type 0 where
  pub said : Data
  pub is : IsMessage bytes said
  pub unknown : IsUnknownRequest dialect said

-- a message that has a bad member, and is no unknown request
pub record SaysBad (dialect : Dialect) (bytes : List ℕ) : Type 0 where
  pub said : Data
  pub is : IsMessage bytes said
  pub known : ¬ IsUnknownRequest dialect said
  pub none : IsNoRequest dialect said

-- why bytes say no request, the first of these in their order; want of memory has no place in it
abbrev pub SaysNone : RequestFault → Dialect → List ℕ → Type 0
SaysNone TooLong dialect bytes = most_message_bytes < length bytes
SaysNone Malformed dialect bytes = (length bytes ≤ most_message_bytes) × ((d : Data) → ¬ IsObject bytes d)
SaysNone UnknownRequest dialect bytes = SaysUnknown dialect bytes
SaysNone BadField dialect bytes = SaysBad dialect bytes
SaysNone OutOfMemory dialect bytes = Unit {0}
