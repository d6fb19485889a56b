-- What a message says, as a JSON object: a query, a batch of commands or an audit, and on a connection also a greeting.
-- own: of the faults the first in this order that applies: it has too many bytes; they are no object's text; it isn't
-- exactly one of these, or a word in it names none; a member is missing, isn't listed, or hasn't the type or the range
-- that it should.
use Rattle.std.specs.Prelude.{
  ℕ,
  Bool,
  ◌&&◌,
  ◌≤◌,
  List,
  [],
  ◌∷◌,
  ◌==◌,
  length,
  is_some,
  IsSome,
  nat_le,
  if◌then◌else◌,
  codes,
  Option,
  Some,
  None,
  Result,
  Ok,
  Err,
}
use Rattle.std.specs.Str.Lossy.{utf8_valid_len}
use Rattle.serde_json.specs.Data.{Data, Items}
use Rattle.serde_json.specs.Read.{read}
use Rattle.serde_json.specs.Find.{get, as_str, as_array, as_object}
use Rattle.session_book.specs.Run.{most_commands}
use Rattle.session_commands.specs.declared.command.Command.{Command}
use Rattle.session_queries.specs.declared.query.Query.{Query}
use Rattle.wire.specs.declared.request.Request.{Request}
use Rattle.wire.specs.declared.request.RequestBody.{RequestBody}
use Rattle.wire.specs.declared.request.UserRequest.{UserRequest}
use Rattle.wire.specs.declared.request.ScriptRequest.{ScriptRequest}
use Rattle.wire.specs.declared.request.RequestBody.TheVariants as body
use Rattle.wire.specs.declared.request.UserRequest.TheVariants as wanting
use Rattle.wire.specs.declared.reading.TheConstants.{MOST_MESSAGE_BYTES}
use Rattle.session_roles.specs.declared.edition.Edition.{Edition}
use Rattle.wire.specs.declared.dialect.Dialect.{Dialect}
use Rattle.wire.specs.declared.source.Source.{Source}
use Rattle.wire.specs.declared.source.Source.TheVariants.{Script, Connection}
use Rattle.json_fields.specs.declared.request_fault.RequestFault.{RequestFault}
use Rattle.json_fields.specs.declared.request_fault.RequestFault.TheVariants.{
  TooLong,
  Malformed,
  UnknownRequest,
  BadField,
}
use Rattle.json_fields.specs.Reading.{wanted}
use Rattle.json_fields.specs.Form.{applied, has_only, formed, is_word_of, item_count}
use Rattle.json_fields.specs.Message.{since}
use Rattle.wire.specs.Query.{queries, query_called}
use Rattle.command_object.specs.Command.{has_unknown, commands_in}
use Rattle.wire.specs.Audit.{audit_of}
use Rattle.wire.specs.Greeting.{greeting}
use Rattle.wire.specs.Dialect.{dialect_of}
use Rattle.wire.specs.Source.{said_user}

-- how many bytes a message has at most, without what ends its line
abbrev pub most_message_bytes : ℕ
most_message_bytes = MOST_MESSAGE_BYTES

-- ---- queries

-- the request for a query, whose it is, and from which version on
abbrev pub a_query : Option (List ℕ) → ℕ → Query → Request
a_query user version query = record { user = user; body = body.OfUser (wanting.Query query version) }

-- the query of a word, its user and its version
unfoldable pub query_of : Dialect → List ℕ → Data → Option Request
query_of dialect word d =
    let whose = said_user dialect.source in
    let name = whose.value (get whose.name d) in
    let version = since.value (get since.name d) in
    applied (applied (applied (Some a_query) name) version) (query_called dialect.edition word d)

-- what is asked for has to be a text; one that names no query comes before all that is wrong elsewhere
abbrev pub query_by : Dialect → Option (List ℕ) → Data → Result Request RequestFault
query_by dialect None d = Err BadField
query_by dialect (Some word) d =
    if is_word_of (queries dialect.edition) word then wanted (query_of dialect word d) else Err UnknownRequest

-- ---- batches

-- the members of a batch
abbrev pub doing : List (List ℕ)
doing = codes "do" ∷ codes "as" ∷ []

-- the commands of a list that isn't too long
abbrev pub few_commands_in : Edition → Items → Option (List Command)
few_commands_in edition ds = if nat_le (item_count ds) most_commands then commands_in edition ds else None

-- the request for a batch, and whose it is
abbrev pub a_batch : Option (List ℕ) → List Command → Request
a_batch user commands = record { user = user; body = body.OfUser (wanting.Batch commands) }

-- a batch and whose it is: these members and no other
unfoldable pub batch_of : Dialect → Items → Data → Option Request
batch_of dialect ds d =
    let whose = said_user dialect.source in
    if has_only doing d
    then applied (applied (Some a_batch) (whose.value (get whose.name d))) (few_commands_in dialect.edition ds)
    else None

-- what is to be done has to be a list; a word in it that names no command comes before all that is wrong elsewhere
abbrev pub batch_by : Dialect → Option Items → Data → Result Request RequestFault
batch_by dialect None d = Err BadField
batch_by dialect (Some ds) d =
    if has_unknown dialect.edition ds then Err UnknownRequest else wanted (batch_of dialect ds d)

-- ---- requests

-- a greeting signs in the user of a connection, and a script has no use for it
abbrev pub greeting_by : Source → Data → Result Request RequestFault
greeting_by Script d = Err UnknownRequest
greeting_by Connection d = wanted (formed [] greeting d)

-- exactly one of `ask`, `do`, `audit` and `hello` is there
abbrev pub one_of : Dialect → Option Data → Option Data → Option Data → Option Data → Data → Result Request RequestFault
one_of dialect (Some ask) None None None d = query_by dialect (as_str ask) d
one_of dialect None (Some list) None None d = batch_by dialect (as_array list) d
one_of dialect None None (Some rows) None d = wanted (audit_of dialect.source rows d)
one_of dialect None None None (Some name) d = greeting_by dialect.source d
one_of dialect ask list rows name d = Err UnknownRequest

-- what an object says
unfoldable pub request_of : Dialect → Data → Result Request RequestFault
request_of dialect d =
    one_of dialect (get (codes "ask") d) (get (codes "do") d) (get (codes "audit") d) (get (codes "hello") d) d

-- what was read has to be an object
abbrev pub object_of : Dialect → Option Data → Result Request RequestFault
object_of dialect None = Err Malformed
object_of dialect (Some d) = if is_some (as_object d) then request_of dialect d else Err Malformed

-- what a text says
unfoldable pub text_meaning : Dialect → List ℕ → Result Request RequestFault
text_meaning dialect text = object_of dialect (read text)

-- what bytes that aren't too many say: they have to be a text, in UTF-8
unfoldable pub bytes_meaning : Dialect → List ℕ → Result Request RequestFault
bytes_meaning dialect bytes =
    if utf8_valid_len bytes == length bytes then text_meaning dialect bytes else Err Malformed

-- what the bytes of a message say
unfoldable pub meaning : Dialect → List ℕ → Result Request RequestFault
meaning dialect bytes =
    if nat_le (length bytes) most_message_bytes then bytes_meaning dialect bytes else Err TooLong

-- whether bytes are read as JSON at all, for which memory may be asked: they are not too many, and a text in UTF-8
abbrev pub is_message_text : List ℕ → Bool
is_message_text bytes = nat_le (length bytes) most_message_bytes && (utf8_valid_len bytes == length bytes)

-- a batch has few commands
abbrev pub HasFew : UserRequest → Type 0
HasFew (wanting.Query query version) = Unit {0}
HasFew (wanting.Batch commands) = length commands ≤ most_commands
HasFew (wanting.Audit range) = Unit {0}

-- so has what a user's message wants
abbrev pub HasFewIn : RequestBody → Type 0
HasFewIn (body.OfUser request) = HasFew request
HasFewIn (body.Hello name token) = Unit {0}

-- it is no greeting
abbrev pub IsNoGreeting : RequestBody → Type 0
IsNoGreeting (body.OfUser request) = Unit {0}
IsNoGreeting (body.Hello name token) = ⊥

-- a request that says its user, and is no greeting
abbrev pub IsSaid : Request → Type 0
IsSaid request = IsSome request.user × IsNoGreeting request.body

-- ---- by where a message comes from

-- what a message of a script wants, and for whom. Each that is a request names its user, and none is a greeting
abbrev pub said_by : Option (List ℕ) → RequestBody → Result ScriptRequest RequestFault
said_by (Some user) (body.OfUser request) = Ok (record { user = user; request = request })
said_by (Some user) (body.Hello name token) = Err UnknownRequest
said_by None wanted = Err UnknownRequest

abbrev pub said_request : Request → Result ScriptRequest RequestFault
said_request request = said_by request.user request.body

abbrev pub said_of : Result Request RequestFault → Result ScriptRequest RequestFault
said_of (Ok request) = said_request request
said_of (Err fault) = Err fault

unfoldable pub script_meaning : Edition → List ℕ → Result ScriptRequest RequestFault
script_meaning edition bytes = said_of (meaning (dialect_of Script edition) bytes)

-- what a message on a connection wants, which names no user
abbrev pub wanted_of : Result Request RequestFault → Result RequestBody RequestFault
wanted_of (Ok request) = Ok request.body
wanted_of (Err fault) = Err fault

unfoldable pub connection_meaning : Edition → List ℕ → Result RequestBody RequestFault
connection_meaning edition bytes = wanted_of (meaning (dialect_of Connection edition) bytes)
