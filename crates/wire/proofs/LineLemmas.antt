-- What a message says, by the text and by the object that it is.
use Rattle.std.proofs.Common.{
  ◌≡◌,
  ◌≢◌,
  ◌↔◌,
  ℕ,
  ◌+◌,
  ◌≤◌,
  ◌<◌,
  List,
  take,
  ◌==◌,
  nat_le,
  length,
  Bool,
  true,
  false,
  cond,
  ◌&&◌,
  is_some,
  Option,
  Some,
  None,
  Result,
  Ok,
  Err,
  IfOk,
  IfErr,
  IsUtf8,
  refl,
  subst,
  sym,
  ap,
  ◌∙◌,
  arith,
}
use Rattle.std.specs.Str.Lossy.{utf8_valid_len}
use Rattle.std.proofs.lemmas.List.{take_all, length-take-le}
use Rattle.std.proofs.lemmas.Str.{utf8_valid_len-IsUtf8}
use Rattle.serde_json.specs.Data.{Data}
use Rattle.serde_json.specs.Read.{read}
use Rattle.serde_json.specs.Find.{as_object}
use Rattle.session_commands.specs.declared.command.Command.{Command}
use Rattle.session_queries.specs.declared.query.Query.{Query}
use Rattle.json_fields.proofs.FormLemmas.{is_most, most_is}
use Rattle.wire.specs.declared.audit_range.AuditRange.{AuditRange}
use Rattle.wire.specs.declared.request.Request.{Request}
use Rattle.wire.specs.declared.request.RequestBody.{RequestBody}
use Rattle.wire.specs.declared.request.RequestBody.TheVariants as body
use Rattle.wire.specs.declared.request.ScriptRequest.{ScriptRequest}
use Rattle.wire.specs.declared.request.UserRequest.TheVariants as wanting
use Rattle.session_roles.specs.declared.edition.Edition.{Edition}
use Rattle.wire.specs.declared.dialect.Dialect.{Dialect}
use Rattle.wire.specs.declared.source.Source.TheVariants.{Script, Connection}
use Rattle.json_fields.specs.declared.request_fault.RequestFault.{RequestFault}
use Rattle.json_fields.specs.declared.request_fault.RequestFault.TheVariants.{
  TooLong,
  Malformed,
  UnknownRequest,
  BadField,
  OutOfMemory,
}
use Rattle.json_fields.specs.Reading.{Gives}
use Rattle.wire.specs.Audit.{an_audit}
use Rattle.wire.specs.Dialect.{dialect_of}
use Rattle.wire.specs.Request.{
  most_message_bytes,
  is_message_text,
  a_query,
  a_batch,
  request_of,
  object_of,
  text_meaning,
  bytes_meaning,
  meaning,
  said_of,
  script_meaning,
  wanted_of,
  connection_meaning,
  HasFewIn,
  IsSaid,
}
use Rattle.json_fields.specs.Object.{IsObject}
use Rattle.wire.specs.Grammar.{IsMessage, IsUnknownRequest, IsQuery, IsBatch, IsAudit, IsGreeting, IsNoRequest}
use Rattle.wire.proofs.RequestLemmas.{
  query_object,
  batch_object,
  audit_object,
  greeting_object,
  few_in_request,
  user_in_script,
  no_user_on_connection,
  object_fault,
  unknown_object,
}

same_number : (m n : ℕ) → m ≡ n → (m == n) ≡ true
same_number m n h = grind arith

text_line : (dialect : Dialect) (line : List ℕ) → IsUtf8 line → text_meaning dialect line ≡ bytes_meaning dialect line
unfolding bytes_meaning
text_line dialect line utf8 =
    sym (ap (λ b. cond b (text_meaning dialect line) (Err Malformed))
    (same_number _ _ (utf8_valid_len-IsUtf8 line utf8)))

pub gives_line : (dialect : Dialect) (line text : List ℕ) (answer : Result Request RequestFault) → text ≡ line
    → IsUtf8 line → Gives answer (text_meaning dialect text) → Gives answer (bytes_meaning dialect line)
gives_line dialect line text answer same utf8 given =
    subst (Gives answer) (ap (text_meaning dialect) same ∙ text_line dialect line utf8) given

-- ---- bytes that aren't too many, and others

short_line : (dialect : Dialect) (line : List ℕ) → length line ≤ most_message_bytes
    → meaning dialect line ≡ bytes_meaning dialect line
unfolding meaning
short_line dialect line short =
    ap (λ b. cond b (bytes_meaning dialect line) (Err TooLong)) (most_is (length line) most_message_bytes short)

not_most : (m n : ℕ) → n < m → nat_le m n ≡ false
not_most m n h = grind arith

pub long_line : (dialect : Dialect) (line : List ℕ) → most_message_bytes < length line → meaning dialect line ≡ Err TooLong
unfolding meaning
long_line dialect line long =
    ap (λ b. cond b (bytes_meaning dialect line) (Err TooLong)) (not_most (length line) most_message_bytes long)

pub gives_short : (dialect : Dialect) (line : List ℕ) (answer : Result Request RequestFault)
    → length line ≤ most_message_bytes → Gives answer (bytes_meaning dialect line) → Gives answer (meaning dialect line)
gives_short dialect line answer short given = subst (Gives answer) (sym (short_line dialect line short)) given

-- ---- bytes for which memory is asked

pub memory_for : {A : Type 0} {P : Type 0} (answer : Result A RequestFault) → P → IfErr answer
    (λ fault. fault ≡ OutOfMemory → P)
memory_for (Ok x) holds = tt
memory_for (Err fault) holds = λ same. holds

pub memory_never : {A : Type 0} (P : Type 0) (answer : Result A RequestFault) → IfErr answer
    (λ fault. fault ≢ OutOfMemory)
    → IfErr answer (λ fault. fault ≡ OutOfMemory → P)
memory_never P (Ok x) never = tt
memory_never P (Err fault) never = λ same. absurd (never same)

pub utf8_number : (line : List ℕ) → IsUtf8 line → utf8_valid_len line ≡ length line
utf8_number line utf8 = utf8_valid_len-IsUtf8 line utf8

pub memory_for_text : {A : Type 0} (answer : Result A RequestFault) (line : List ℕ) → length line ≤ most_message_bytes
    → IfErr answer (λ fault. fault ≡ OutOfMemory → utf8_valid_len line ≡ length line)
    → IfErr answer (λ fault. fault ≡ OutOfMemory → is_message_text line ≡ true)
memory_for_text (Ok x) line short text = tt
memory_for_text (Err fault) line short text =
    λ same. ap (λ b. b && (utf8_valid_len line == length line)) (most_is (length line) most_message_bytes short)
    ∙ same_number _ _ (text same)

-- a request was read of a text
text_of_request : (dialect : Dialect) (line : List ℕ) (short utf8 : Bool) (y : Request)
    → cond short (cond utf8 (text_meaning dialect line) (Err Malformed)) (Err TooLong) ≡ Ok y → (short && utf8) ≡ true
text_of_request dialect line true true y h = refl
text_of_request dialect line true false y h = absurd (cc)
text_of_request dialect line false utf8 y h = absurd (cc)

request_is_text : (dialect : Dialect) (line : List ℕ) (y : Request) → meaning dialect line ≡ Ok y → is_message_text line ≡
    true
unfolding meaning bytes_meaning
request_is_text dialect line y h =
    text_of_request dialect line (nat_le (length line) most_message_bytes) (utf8_valid_len line == length line) y h

module _ (edition : Edition) (line : List ℕ) where
  text_of_said : (meant : Result Request RequestFault) (said : ScriptRequest)
      → meaning (dialect_of Script edition) line ≡ meant → said_of meant ≡ Ok said → is_message_text line ≡ true
  text_of_said (Ok y) said is h = request_is_text (dialect_of Script edition) line y is
  text_of_said (Err fault) said is h = absurd (cc)

  pub said_is_text : (said : ScriptRequest) → script_meaning edition line ≡ Ok said → is_message_text line ≡ true
  unfolding script_meaning
  said_is_text said h = text_of_said (meaning (dialect_of Script edition) line) said refl h

  text_of_wanted : (meant : Result Request RequestFault) (wanted : RequestBody)
      → meaning (dialect_of Connection edition) line ≡ meant → wanted_of meant ≡ Ok wanted → is_message_text line ≡ true
  text_of_wanted (Ok y) wanted is h = request_is_text (dialect_of Connection edition) line y is
  text_of_wanted (Err fault) wanted is h = absurd (cc)

  pub wanted_is_text : (wanted : RequestBody) → connection_meaning edition line ≡ Ok wanted
      → is_message_text line ≡ true
  unfolding connection_meaning
  wanted_is_text wanted h = text_of_wanted (meaning (dialect_of Connection edition) line) wanted refl h

-- ---- what is read, is read of an object

-- what holds of all requests that objects are, holds of all requests that messages are
module _ (dialect : Dialect) (P : Request → Type 0) (all : (d : Data) (y : Request) → request_of dialect d ≡ Ok y → P y)
  where
    holds_in_object : (d : Data) (is_object : Bool) (y : Request)
        → cond is_object (request_of dialect d) (Err Malformed) ≡ Ok y → P y
    holds_in_object d true y h = all d y h
    holds_in_object d false y h = absurd (cc)

    holds_in_text : (is_text : Bool) (found : Option Data) (y : Request)
        → cond is_text (object_of dialect found) (Err Malformed) ≡ Ok y → P y
    holds_in_text true (Some d) y h = holds_in_object d (is_some (as_object d)) y h
    holds_in_text true None y h = absurd (cc)
    holds_in_text false found y h = absurd (cc)

    holds_in_bytes : (line : List ℕ) (is_short : Bool) (y : Request)
        → cond is_short (bytes_meaning dialect line) (Err TooLong) ≡ Ok y → P y
    unfolding bytes_meaning text_meaning
    holds_in_bytes line true y h = holds_in_text (utf8_valid_len line == length line) (read line) y h
    holds_in_bytes line false y h = absurd (cc)

    holds_in_line : (line : List ℕ) (y : Request) → meaning dialect line ≡ Ok y → P y
    unfolding meaning
    holds_in_line line y h = holds_in_bytes line (nat_le (length line) most_message_bytes) y h

-- a batch that is read has at most 64 commands
pub few_given : (dialect : Dialect) (line : List ℕ) (answer : Result Request RequestFault) → Gives answer
    (meaning dialect line)
    → IfOk answer (λ request. HasFewIn request.body)
few_given dialect line (Ok y) given = holds_in_line dialect (λ request. HasFewIn request.body) (few_in_request dialect)
    line y given
few_given dialect line (Err fault) given = tt

pub said_line : (edition : Edition) (line : List ℕ) (y : Request) → meaning (dialect_of Script edition) line ≡ Ok y
    → IsSaid y
said_line edition line y h = holds_in_line (dialect_of Script edition) IsSaid (user_in_script edition) line y h

pub unsaid_line : (edition : Edition) (line : List ℕ) (y : Request)
    → meaning (dialect_of Connection edition) line ≡ Ok y → y.user ≡ None
unsaid_line edition line y h =
    holds_in_line (dialect_of Connection edition) (λ request. request.user ≡ None) (no_user_on_connection edition) line y
    h

-- ---- laws

of_object : (dialect : Dialect) (line : List ℕ) (d : Data) → IsObject line d → bytes_meaning dialect line ≡ request_of
    dialect d
unfolding bytes_meaning text_meaning
of_object dialect line d object =
    ap (λ b. cond b (object_of dialect (read line)) (Err Malformed)) object.utf8
    ∙ ap (object_of dialect) object.reads
    ∙ ap (λ b. cond b (request_of dialect d) (Err Malformed)) object.members

of_message : (dialect : Dialect) (line : List ℕ) (d : Data) → IsMessage line d → meaning dialect line ≡ request_of dialect d
of_message dialect line d message = short_line dialect line message.short ∙ of_object dialect line d message.object

-- the bytes of no message
module _ (dialect : Dialect) where
  no_members : (line : List ℕ) (d : Data) (is_object : Bool) → (utf8_valid_len line == length line) ≡ true
      → read line ≡ Some d → is_some (as_object d) ≡ is_object
      → ((d : Data) → ¬ IsObject line d) → cond is_object (request_of dialect d) (Err Malformed) ≡ Err Malformed
  no_members line d true utf8 reads members none =
      absurd (none d (record { utf8 = utf8; reads = reads; members = members }))
  no_members line d false utf8 reads members none = refl

  no_object : (line : List ℕ) (utf8 : Bool) (found : Option Data) → (utf8_valid_len line == length line) ≡ utf8
      → read line ≡ found
      → ((d : Data) → ¬ IsObject line d) → cond utf8 (object_of dialect found) (Err Malformed) ≡ Err Malformed
  no_object line false found is_text reads none = refl
  no_object line true None is_text reads none = refl
  no_object line true (Some d) is_text reads none = no_members line d (is_some (as_object d)) is_text reads refl none

  malformed_bytes : (line : List ℕ) → ((d : Data) → ¬ IsObject line d) → bytes_meaning dialect line ≡ Err Malformed
  unfolding bytes_meaning text_meaning
  malformed_bytes line none = no_object line (utf8_valid_len line == length line) (read line) refl refl none

  -- bytes that aren't read aren't too many
  never_long : (line : List ℕ) → bytes_meaning dialect line ≡ Err TooLong → ⊥
  unfolding bytes_meaning text_meaning
  never_long line h = in_text (utf8_valid_len line == length line) (read line) h
    where
      in_object : (d : Data) (is_object : Bool) → cond is_object (request_of dialect d) (Err Malformed) ≡ Err TooLong → ⊥
      in_object d true h = (object_fault dialect d TooLong h).not_long refl
      in_object d false h = absurd (cc)

      in_text : (is_text : Bool) (found : Option Data) → cond is_text (object_of dialect found) (Err Malformed) ≡ Err
          TooLong → ⊥
      in_text true (Some d) h = in_object d (is_some (as_object d)) h
      in_text true None h = absurd (cc)
      in_text false found h = absurd (cc)

  is_long : (line : List ℕ) (is_short : Bool) → nat_le (length line) most_message_bytes ≡ is_short
      → cond is_short (bytes_meaning dialect line) (Err TooLong) ≡ Err TooLong → most_message_bytes < length line
  is_long line true is h = absurd (never_long line h)
  is_long line false is h = grind (arith, is)

  pub too_long_line : (line : List ℕ) → (meaning dialect line ≡ Err TooLong) ↔ (most_message_bytes < length line)
  unfolding meaning
  too_long_line line = (
    λ h. is_long line (nat_le (length line) most_message_bytes) refl h,
    long_line dialect line,
  )

  is_short : (line : List ℕ) (short : Bool) → nat_le (length line) most_message_bytes ≡ short
      → cond short (bytes_meaning dialect line) (Err TooLong) ≡ Err Malformed → length line ≤ most_message_bytes
  is_short line true is h = is_most (length line) most_message_bytes is
  is_short line false is h = absurd (cc)

  malformed_short : (line : List ℕ) → meaning dialect line ≡ Err Malformed → length line ≤ most_message_bytes
  unfolding meaning
  malformed_short line h = is_short line (nat_le (length line) most_message_bytes) refl h

  pub malformed_line : (line : List ℕ)
      → (meaning dialect line ≡ Err Malformed) ↔ ((length line ≤ most_message_bytes) × ((d : Data) → ¬ IsObject line d))
  malformed_line line = (
    λ h.
        let short = malformed_short line h in (
          short,
          λ d object. (object_fault dialect d Malformed (sym (of_object dialect line d object)
              ∙ sym (short_line dialect line short) ∙ h)).read_well refl,
        ),
    λ both. short_line dialect line both.0 ∙ malformed_bytes line both.1,
  )

module _ (dialect : Dialect) (line : List ℕ) (d : Data) (message : IsMessage line d) where
  pub unknown_line : (meaning dialect line ≡ Err UnknownRequest) ↔ IsUnknownRequest dialect d
  unknown_line =
      subst (λ said. (said ≡ Err UnknownRequest) ↔ IsUnknownRequest dialect d) (sym (of_message dialect line d message))
      (unknown_object dialect d)

  pub query_line : (user : Option (List ℕ)) (query : Query) (since : ℕ)
      → (meaning dialect line ≡ Ok (a_query user since query)) ↔ IsQuery dialect d user query since
  query_line user query since =
      subst (λ said. (said ≡ Ok (a_query user since query)) ↔ IsQuery dialect d user query since)
      (sym (of_message dialect line d message)) (query_object dialect d user query since)

  pub batch_line : (user : Option (List ℕ)) (commands : List Command)
      → (meaning dialect line ≡ Ok (a_batch user commands)) ↔ IsBatch dialect d user commands
  batch_line user commands =
      subst (λ said. (said ≡ Ok (a_batch user commands)) ↔ IsBatch dialect d user commands)
      (sym (of_message dialect line d message)) (batch_object dialect d user commands)

  pub audit_line : (user : Option (List ℕ)) (range : AuditRange)
      → (meaning dialect line ≡ Ok (an_audit user range)) ↔ IsAudit dialect.source d user range
  audit_line user range =
      subst (λ said. (said ≡ Ok (an_audit user range)) ↔ IsAudit dialect.source d user range)
      (sym (of_message dialect line d message)) (audit_object dialect d user range)

  pub greeting_line : (user : Option (List ℕ)) (name token : List ℕ)
      → (meaning dialect line ≡ Ok (record { user = user; body = body.Hello name token }))
      ↔ IsGreeting dialect.source d user name token
  greeting_line user name token =
      subst (λ said. (said ≡ Ok (record { user = user; body = body.Hello name token }))
      ↔ IsGreeting dialect.source d user name token)
      (sym (of_message dialect line d message)) (greeting_object dialect d user name token)

  no_body : (user : Option (List ℕ)) (b : RequestBody) → meaning dialect line ≡ Ok (record { user = user; body = b })
      → IsNoRequest dialect d → ⊥
  no_body user (body.OfUser (wanting.Query query since)) is none = none.no_query user query since
      ((query_line user query since).0 is)
  no_body user (body.OfUser (wanting.Batch commands)) is none = none.no_batch user commands
      ((batch_line user commands).0 is)
  no_body user (body.OfUser (wanting.Audit range)) is none = none.no_audit user range ((audit_line user range).0 is)
  no_body user (body.Hello name token) is none = none.no_greeting user name token ((greeting_line user name token).0 is)

  only_bad : (said : Result Request RequestFault) → meaning dialect line ≡ said → ¬ IsUnknownRequest dialect d
      → IsNoRequest dialect d → said ≡ Err BadField
  only_bad (Ok y) is known none = absurd (no_body y.user y.body is none)
  only_bad (Err TooLong) is known none =
      absurd ((object_fault dialect d TooLong (sym (of_message dialect line d message) ∙ is)).not_long refl)
  only_bad (Err Malformed) is known none =
      absurd ((object_fault dialect d Malformed (sym (of_message dialect line d message) ∙ is)).read_well refl)
  only_bad (Err UnknownRequest) is known none = absurd (known (unknown_line.0 is))
  only_bad (Err BadField) is known none = refl
  only_bad (Err OutOfMemory) is known none =
      absurd ((object_fault dialect d OutOfMemory (sym (of_message dialect line d message) ∙ is)).in_memory refl)

  pub bad_line : (meaning dialect line ≡ Err BadField) ↔ (¬ IsUnknownRequest dialect d × IsNoRequest dialect d)
  bad_line = (
    λ bad. (
      λ unknown. let h : meaning dialect line ≡ Err UnknownRequest = unknown_line.1 unknown in cc,
      record {
        no_query = λ user query since q. let h : meaning dialect line ≡ Ok (a_query user since query) =
            (query_line user query since).1 q in cc;
        no_batch = λ user commands b. let h : meaning dialect line ≡ Ok (a_batch user commands) =
            (batch_line user commands).1 b in cc;
        no_audit = λ user range a. let h : meaning dialect line ≡ Ok (an_audit user range) = (audit_line user range).1 a
            in cc;
        no_greeting = λ user name token g. let h : meaning dialect line ≡ Ok
            (record { user = user; body = body.Hello name token }) = (greeting_line user name token).1 g in cc;
      },
    ),
    λ both. only_bad (meaning dialect line) refl both.0 both.1,
  )

-- ---- the first bytes tell

pub first_bytes_tell : (dialect : Dialect) (line : List ℕ)
    → meaning dialect (take (most_message_bytes + 1) line) ≡ meaning dialect line
first_bytes_tell dialect line = by (nat_le (length line) most_message_bytes) refl
  where
    by : (short : Bool) → nat_le (length line) most_message_bytes ≡ short
        → meaning dialect (take (most_message_bytes + 1) line) ≡ meaning dialect line
    by true is =
        let short = is_most (length line) most_message_bytes is in
        ap (meaning dialect) (take_all (most_message_bytes + 1) line (omega (arith, short)))
    by false is =
        let long : most_message_bytes < length line = grind (arith, is) in
        let many = length-take-le (most_message_bytes + 1) line (omega (arith, long)) in
        long_line dialect (take (most_message_bytes + 1) line) (omega (arith, many)) ∙ sym (long_line dialect line long)

-- and tell whether they are a message's text
pub first_bytes_are_text : (line : List ℕ) → is_message_text (take (most_message_bytes + 1) line) ≡ is_message_text line
first_bytes_are_text line = by (nat_le (length line) most_message_bytes) refl
  where
    too_long : (line : List ℕ) → most_message_bytes < length line → is_message_text line ≡ false
    too_long line long =
        ap (λ b. b && (utf8_valid_len line == length line)) (not_most (length line) most_message_bytes long)

    by : (short : Bool) → nat_le (length line) most_message_bytes ≡ short
        → is_message_text (take (most_message_bytes + 1) line) ≡ is_message_text line
    by true is =
        let short = is_most (length line) most_message_bytes is in
        ap is_message_text (take_all (most_message_bytes + 1) line (omega (arith, short)))
    by false is =
        let long : most_message_bytes < length line = grind (arith, is) in
        let many = length-take-le (most_message_bytes + 1) line (omega (arith, long)) in
        too_long (take (most_message_bytes + 1) line) (omega (arith, many)) ∙ sym (too_long line long)
