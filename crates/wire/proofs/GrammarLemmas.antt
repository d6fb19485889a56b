-- What is read is what the grammar says.
use Rattle.std.proofs.Common.{
  ◌≡◌,
  ◌∙◌,
  ◌⊎◌,
  ℕ,
  ◌==◌,
  ◌≤◌,
  List,
  length,
  nat_le,
  Bool,
  true,
  false,
  is_some,
  Option,
  Some,
  None,
  Result,
  Ok,
  Err,
  IfOk,
  IfErr,
  refl,
  sym,
  ap,
  subst,
  inl,
  inr,
  arith,
}
use Rattle.std.specs.Str.Lossy.{utf8_valid_len}
use Rattle.serde_json.specs.Data.{Data}
use Rattle.serde_json.specs.Read.{read}
use Rattle.serde_json.specs.Find.{as_object}
use Rattle.json_fields.specs.declared.request_fault.RequestFault.{RequestFault}
use Rattle.json_fields.specs.declared.request_fault.RequestFault.TheVariants.{
  TooLong,
  Malformed,
  UnknownRequest,
  BadField,
  OutOfMemory,
}
use Rattle.json_fields.specs.Reading.{Fails, Gives}
use Rattle.json_fields.proofs.FormLemmas.{is_most}
use Rattle.wire.specs.declared.request.Request.{Request}
use Rattle.wire.specs.declared.request.RequestBody.{RequestBody}
use Rattle.wire.specs.declared.request.RequestBody.TheVariants as body
use Rattle.wire.specs.declared.request.UserRequest.TheVariants as wanting
use Rattle.wire.specs.declared.request.ScriptRequest.{ScriptRequest}
use Rattle.session_roles.specs.declared.edition.Edition.{Edition}
use Rattle.wire.specs.declared.dialect.Dialect.{Dialect}
use Rattle.wire.specs.declared.source.Source.TheVariants.{Script, Connection}
use Rattle.wire.specs.Dialect.{dialect_of}
use Rattle.wire.specs.Request.{
  most_message_bytes,
  meaning,
  said_request,
  said_of,
  script_meaning,
  wanted_of,
  connection_meaning,
}
use Rattle.wire.specs.Grammar.{IsMessage, Makes, Says, SaysNone}
use Rattle.wire.proofs.LineLemmas.{
  long_line,
  malformed_line,
  too_long_line,
  unknown_line,
  bad_line,
  query_line,
  batch_line,
  audit_line,
  greeting_line,
}

-- the bytes are a message, or else nothing of them is read
abbrev IsMessageOrNone : Dialect → List ℕ → Type 0
IsMessageOrNone dialect line =
    ((d : Data) × IsMessage line d) ⊎ ((meaning dialect line ≡ Err TooLong) ⊎ (meaning dialect line ≡ Err Malformed))

message_or_none : (dialect : Dialect) (line : List ℕ) → IsMessageOrNone dialect line
message_or_none dialect line = by_length (nat_le (length line) most_message_bytes) refl
  where
    by_members : (d : Data) (members : Bool) → length line ≤ most_message_bytes
        → (utf8_valid_len line == length line) ≡ true → read line ≡ Some d → is_some (as_object d) ≡ members
        → IsMessageOrNone dialect line
    by_members d true short utf8 reads is =
        inl (d, record { short = short; object = record { utf8 = utf8; reads = reads; members = is } })
    by_members d false short utf8 reads is = inr (inr ((malformed_line dialect line).1
        (short, λ other object. let same = object.reads in let has = object.members in absurd (cc))))

    by_reading : (found : Option Data) → length line ≤ most_message_bytes
        → (utf8_valid_len line == length line) ≡ true → read line ≡ found → IsMessageOrNone dialect line
    by_reading (Some d) short utf8 reads = by_members d (is_some (as_object d)) short utf8 reads refl
    by_reading None short utf8 reads =
        inr (inr ((malformed_line dialect line).1 (short, λ other object. let same = object.reads in absurd (cc))))

    by_text : (utf8 : Bool) → length line ≤ most_message_bytes → (utf8_valid_len line == length line) ≡ utf8
        → IsMessageOrNone dialect line
    by_text true short is = by_reading (read line) short is refl
    by_text false short is =
        inr (inr ((malformed_line dialect line).1 (short, λ other object. let same = object.utf8 in absurd (cc))))

    by_length : (short : Bool) → nat_le (length line) most_message_bytes ≡ short → IsMessageOrNone dialect line
    by_length true is = by_text (utf8_valid_len line == length line) (is_most (length line) most_message_bytes is) refl
    by_length false is = inr (inl (long_line dialect line (grind (arith, is))))

-- a request that a message is, is made by its members
makes : (dialect : Dialect) (line : List ℕ) (d : Data) → IsMessage line d → (user : Option (List ℕ)) (b : RequestBody)
    → meaning dialect line ≡ Ok (record { user = user; body = b }) → Makes dialect d user b
makes dialect line d message user (body.OfUser (wanting.Query query since)) is =
    (query_line dialect line d message user query since).0 is
makes dialect line d message user (body.OfUser (wanting.Batch commands)) is =
    (batch_line dialect line d message user commands).0 is
makes dialect line d message user (body.OfUser (wanting.Audit range)) is =
    (audit_line dialect line d message user range).0 is
makes dialect line d message user (body.Hello name token) is = (greeting_line dialect line d message user name token).0 is

says : (dialect : Dialect) (line : List ℕ) (y : Request) → meaning dialect line ≡ Ok y → IsMessageOrNone dialect line
    → Says dialect line y
says dialect line y is (inl message) =
    record { said = message.0; is = message.1; makes = makes dialect line message.0 message.1 y.user y.body is }
says dialect line y is (inr (inl long)) = absurd (cc)
says dialect line y is (inr (inr malformed)) = absurd (cc)

says_none : (dialect : Dialect) (line : List ℕ) (fault : RequestFault) → meaning dialect line ≡ Err fault
    → IsMessageOrNone dialect line → SaysNone fault dialect line
says_none dialect line TooLong is found = (too_long_line dialect line).0 is
says_none dialect line Malformed is found = (malformed_line dialect line).0 is
says_none dialect line UnknownRequest is (inl message) = record {
  said = message.0;
  is = message.1;
  unknown = (unknown_line dialect line message.0 message.1).0 is;
}
says_none dialect line UnknownRequest is (inr (inl long)) = absurd (cc)
says_none dialect line UnknownRequest is (inr (inr malformed)) = absurd (cc)
says_none dialect line BadField is (inl message) =
    let bad = (bad_line dialect line message.0 message.1).0 is in
    record { said = message.0; is = message.1; known = bad.0; none = bad.1 }
says_none dialect line BadField is (inr (inl long)) = absurd (cc)
says_none dialect line BadField is (inr (inr malformed)) = absurd (cc)
says_none dialect line OutOfMemory is found = tt

-- a request that is read is the one that the message's members make it
pub said : (dialect : Dialect) (line : List ℕ) (answer : Result Request RequestFault) → Gives answer (meaning dialect line)
    → IfOk answer (Says dialect line)
said dialect line (Ok y) is = says dialect line y is (message_or_none dialect line)
said dialect line (Err fault) given = tt

-- and where none is read, this fault is the first that applies
pub said_none : (dialect : Dialect) (line : List ℕ) (answer : Result Request RequestFault)
    → Gives answer (meaning dialect line) → IfErr answer (λ fault. SaysNone fault dialect line)
said_none dialect line (Ok y) is = tt
said_none dialect line (Err fault) given = by fault given
  where
    by : (fault : RequestFault) → Fails fault (meaning dialect line) → SaysNone fault dialect line
    by TooLong is = says_none dialect line TooLong is (message_or_none dialect line)
    by Malformed is = says_none dialect line Malformed is (message_or_none dialect line)
    by UnknownRequest is = says_none dialect line UnknownRequest is (message_or_none dialect line)
    by BadField is = says_none dialect line BadField is (message_or_none dialect line)
    by OutOfMemory given = tt

-- ---- what is said, is said once

-- what an object's members make it, is read of it
meant : (dialect : Dialect) (line : List ℕ) (d : Data) → IsMessage line d → (user : Option (List ℕ)) (b : RequestBody)
    → Makes dialect d user b → meaning dialect line ≡ Ok (record { user = user; body = b })
meant dialect line d message user (body.OfUser (wanting.Query query since)) made =
    (query_line dialect line d message user query since).1 made
meant dialect line d message user (body.OfUser (wanting.Batch commands)) made =
    (batch_line dialect line d message user commands).1 made
meant dialect line d message user (body.OfUser (wanting.Audit range)) made =
    (audit_line dialect line d message user range).1 made
meant dialect line d message user (body.Hello name token) made = (greeting_line dialect line d message user name token).1
    made

read_as : (dialect : Dialect) (line : List ℕ) (y : Request) → Says dialect line y → meaning dialect line ≡ Ok y
read_as dialect line y says = meant dialect line says.said says.is y.user y.body says.makes

pub one_said : (dialect : Dialect) (line : List ℕ) (one other : Request) → Says dialect line one → Says dialect line other
    → one ≡ other
one_said dialect line one other first second =
    let is : meaning dialect line ≡ Ok one = read_as dialect line one first in
    let also : meaning dialect line ≡ Ok other = read_as dialect line other second in
    cc

-- and a fault that the grammar tells is told of it, but for want of memory
refused_as : (dialect : Dialect) (line : List ℕ) (fault : RequestFault) → SaysNone fault dialect line
    → Fails fault (meaning dialect line)
refused_as dialect line TooLong none = (too_long_line dialect line).1 none
refused_as dialect line Malformed none = (malformed_line dialect line).1 none
refused_as dialect line UnknownRequest none = (unknown_line dialect line none.said none.is).1 none.unknown
refused_as dialect line BadField none = (bad_line dialect line none.said none.is).1 (none.known, none.none)
refused_as dialect line OutOfMemory none = tt

-- the same of what comes of a request
passed_on : {A : Type 0} (then : Result Request RequestFault → Result A RequestFault)
    → ((fault : RequestFault) → then (Err fault) ≡ Err fault) → (fault : RequestFault)
    (meant : Result Request RequestFault)
    → Fails fault meant → Fails fault (then meant)
passed_on then passes TooLong meant is = ap then is ∙ passes TooLong
passed_on then passes Malformed meant is = ap then is ∙ passes Malformed
passed_on then passes UnknownRequest meant is = ap then is ∙ passes UnknownRequest
passed_on then passes BadField meant is = ap then is ∙ passes BadField
passed_on then passes OutOfMemory meant is = tt

module _ (edition : Edition) (line : List ℕ) where
  -- where a script's message comes from, and one on a connection
  abbrev script : Dialect
  script = dialect_of Script edition

  abbrev connection : Dialect
  connection = dialect_of Connection edition

  pub script_said : (y : Request) (answer : Result ScriptRequest RequestFault) → Says script line y
      → Gives answer (said_request y) → Gives answer (script_meaning edition line)
  unfolding script_meaning
  script_said y answer says given = subst (Gives answer) (sym (ap said_of (read_as script line y says))) given

  pub script_none : (fault : RequestFault) → SaysNone fault script line → Fails fault (script_meaning edition line)
  unfolding script_meaning
  script_none fault none =
      passed_on said_of (λ fault. refl) fault (meaning script line) (refused_as script line fault none)

  pub connection_said : (y : Request) → Says connection line y → connection_meaning edition line ≡ Ok y.body
  unfolding connection_meaning
  connection_said y says = ap wanted_of (read_as connection line y says)

  pub connection_none : (fault : RequestFault) → SaysNone fault connection line
      → Fails fault (connection_meaning edition line)
  unfolding connection_meaning
  connection_none fault none =
      passed_on wanted_of (λ fault. refl) fault (meaning connection line) (refused_as connection line fault none)

pub not_refused : (dialect : Dialect) (line : List ℕ) (y : Request) (fault : RequestFault) → Says dialect line y
    → SaysNone fault dialect line → fault ≡ OutOfMemory
not_refused dialect line y TooLong says none =
    let is : meaning dialect line ≡ Ok y = read_as dialect line y says in
    let not : meaning dialect line ≡ Err TooLong = (too_long_line dialect line).1 none in
    absurd (cc)
not_refused dialect line y Malformed says none =
    let is : meaning dialect line ≡ Ok y = read_as dialect line y says in
    let not : meaning dialect line ≡ Err Malformed = (malformed_line dialect line).1 none in
    absurd (cc)
not_refused dialect line y UnknownRequest says none =
    let is : meaning dialect line ≡ Ok y = read_as dialect line y says in
    let not : meaning dialect line ≡ Err UnknownRequest = (unknown_line dialect line none.said none.is).1 none.unknown in
    absurd (cc)
not_refused dialect line y BadField says none =
    let is : meaning dialect line ≡ Ok y = read_as dialect line y says in
    let not : meaning dialect line ≡ Err BadField = (bad_line dialect line none.said none.is).1 (none.known, none.none) in
    absurd (cc)
not_refused dialect line y OutOfMemory says none = refl
