-- A query, a batch, an audit and a greeting are read from their members, and what has such members is read as they are.
use Rattle.std.proofs.Common.{
  ◌≡◌,
  ◌≢◌,
  ◌⊎◌,
  ◌↔◌,
  ℕ,
  ◌≤◌,
  List,
  [],
  ◌∷◌,
  length,
  nat_le,
  Bool,
  true,
  false,
  cond,
  is_some,
  IsSome,
  All,
  codes,
  Option,
  Some,
  None,
  option_and_then,
  Ok,
  Err,
  refl,
  sym,
  ap,
  subst,
  ◌∙◌,
  inl,
  inr,
  arith,
}
use Rattle.std.specs.Prelude.{count_by}
use Rattle.serde_json.specs.Data.{Data, Items}
use Rattle.serde_json.specs.Find.{get, as_str, as_array}
use Rattle.session_commands.specs.declared.command.Command.{Command}
use Rattle.session_queries.specs.declared.query.Query.{Query}
use Rattle.wire.specs.declared.request.Request.{Request}
use Rattle.wire.specs.declared.request.RequestBody.{RequestBody}
use Rattle.wire.specs.declared.request.RequestBody.TheVariants as body
use Rattle.wire.specs.declared.request.UserRequest.TheVariants as wanting
use Rattle.session_roles.specs.declared.edition.Edition.{Edition}
use Rattle.wire.specs.declared.dialect.Dialect.{Dialect}
use Rattle.wire.specs.declared.source.Source.{Source}
use Rattle.wire.specs.declared.source.Source.TheVariants.{Script, Connection}
use Rattle.json_fields.specs.declared.request_fault.RequestFault.{RequestFault}
use Rattle.json_fields.specs.declared.request_fault.RequestFault.TheVariants.{
  TooLong,
  Malformed,
  UnknownRequest,
  BadField,
  OutOfMemory,
}
use Rattle.json_fields.specs.Reading.{wanted}
use Rattle.wire.specs.declared.audit_range.AuditRange.{AuditRange}
use Rattle.json_fields.specs.Form.{applied, has_only, words, formed, HasForm, HasFormOf, item_count, AreEach}
use Rattle.json_fields.specs.Field.{text}
use Rattle.json_fields.specs.Message.{since}
use Rattle.command_object.specs.Command.{command_of, has_unknown, commands_in, IsCommand}
use Rattle.wire.specs.Query.{queries, asking, query_called}
use Rattle.wire.specs.Audit.{audit_range, auditing, an_audit, audit_of}
use Rattle.wire.specs.Greeting.{a_greeting, greeting}
use Rattle.wire.specs.Request.{
  a_query,
  query_of,
  query_by,
  doing,
  few_commands_in,
  a_batch,
  batch_of,
  batch_by,
  greeting_by,
  one_of,
  request_of,
  HasFewIn,
  IsNoGreeting,
  IsSaid,
}
use Rattle.session_book.specs.Run.{most_commands}
use Rattle.wire.specs.Dialect.{dialect_of}
use Rattle.wire.specs.Source.{said_user}
use Rattle.wire.specs.Grammar.{IsOf, IsUnknownRequest, IsQuery, IsBatch, IsAudit, IsGreeting}
use Rattle.wire.proofs.AuditLemmas.{audits, audited}
use Rattle.wire.proofs.SourceLemmas.{said_agrees, said_in_script, unsaid_on_connection}
use Rattle.json_fields.proofs.FormLemmas.{
  AgreesForm,
  form_agrees,
  with_agrees,
  called_agrees,
  written_agrees,
  formed_read,
  formed_reads,
  kept,
  is_most,
  most_is,
  each_read,
  each_reads,
  each_count,
}
use Rattle.json_fields.proofs.MemberLemmas.{since_agrees}
use Rattle.json_fields.proofs.TableLemmas.{is_among, is_word, none_among, among_none, by_word_read, by_word_reads}
use Rattle.command_object.proofs.TableLemmas.{command_read, command_reads, all_known}
use Rattle.wire.proofs.TableLemmas.{queries_agree, queries_apart}

wanted_read : {A : Type 0} (o : Option A) (y : A) → wanted o ≡ Ok y → o ≡ Some y
wanted_read None y h = absurd (cc)
wanted_read (Some x) y h = cc

wanted_fails : {A : Type 0} (o : Option A) (fault : RequestFault) → wanted o ≡ Err fault → fault ≡ BadField
wanted_fails None fault h = cc
wanted_fails (Some x) fault h = absurd (cc)

-- what is read where a test passes
read_where : {A : Type 0} (b : Bool) (o : Option A) (fault : RequestFault) (y : A)
    → cond b (wanted o) (Err fault) ≡ Ok y → (b ≡ true) × (o ≡ Some y)
read_where true o fault y h = (refl, wanted_read o y h)
read_where false o fault y h = absurd (cc)

-- and where it doesn't
read_unless : {A : Type 0} (b : Bool) (o : Option A) (fault : RequestFault) (y : A)
    → cond b (Err fault) (wanted o) ≡ Ok y → (b ≡ false) × (o ≡ Some y)
read_unless true o fault y h = absurd (cc)
read_unless false o fault y h = (refl, wanted_read o y h)

-- the parts of a value of which all parts are there
two : {A B C : Type 0} (make : A → B → C) (a : Option A) (b : Option B) (y : C)
    → applied (applied (Some make) a) b ≡ Some y
    → (x : A) × (z : B) × (a ≡ Some x) × (b ≡ Some z) × (make x z ≡ y)
two make None b y h = absurd (cc)
two make (Some x) None y h = absurd (cc)
two make (Some x) (Some z) y h = (x, z, refl, refl, cc)

three : {A B C D : Type 0} (make : A → B → C → D) (a : Option A) (b : Option B) (c : Option C) (y : D)
    → applied (applied (applied (Some make) a) b) c ≡ Some y
    → (x : A) × (z : B) × (w : C) × (a ≡ Some x) × (b ≡ Some z) × (c ≡ Some w) × (make x z w ≡ y)
three make None b c y h = absurd (cc)
three make (Some x) None c y h = absurd (cc)
three make (Some x) (Some z) None y h = absurd (cc)
three make (Some x) (Some z) (Some w) y h = (x, z, w, refl, refl, refl, cc)

-- whose a message is, as it is read
abbrev whose_of : Source → Data → Option (Option (List ℕ))
whose_of source d = let whose = said_user source in whose.value (get whose.name d)

-- ---- queries

-- the parts of a query
record Asks (dialect : Dialect) (word : List ℕ) (d : Data) (y : Request) : Type 0 where
  name : Option (List ℕ)
  query : Query
  version : ℕ
  makes : a_query name version query ≡ y
  asked : HasFormOf asking (queries dialect.edition) word d query
  named : IsOf dialect.source d name
  from : since.Is (get since.name d) version

asks : (dialect : Dialect) (word : List ℕ) (d : Data) (y : Request) → query_of dialect word d ≡ Some y
    → Asks dialect word d y
unfolding query_of
asks dialect word d y h =
    let edition = dialect.edition in
    let parts = three a_query (whose_of dialect.source d) (since.value (get since.name d)) (query_called edition word d) y
    h in
    record {
      name = parts.0;
      query = parts.2;
      version = parts.1;
      makes = parts.6;
      asked = by_word_read asking (queries edition) (queries_agree edition) word d parts.2 parts.5;
      named = (said_agrees dialect.source).read _ parts.0 parts.3;
      from = since_agrees.read (get since.name d) parts.1 parts.4;
    }

asked : (dialect : Dialect) (word : List ℕ) (d : Data) (name : Option (List ℕ)) (query : Query) (version : ℕ)
    → HasFormOf asking (queries dialect.edition) word d query → IsOf dialect.source d name
    → since.Is (get since.name d) version → query_of dialect word d ≡ Some (a_query name version query)
unfolding query_of
asked dialect word d name query version has named from =
    let edition = dialect.edition in
    ap (λ o. applied (applied (applied (Some a_query) o) (since.value (get since.name d))) (query_called edition word d))
    ((said_agrees dialect.source).reads _ name named)
    ∙ ap (λ o. applied (applied (Some (a_query name)) o) (query_called edition word d))
    (since_agrees.reads (get since.name d) version from)
    ∙ ap (applied (Some (a_query name version)))
    (by_word_reads asking (queries edition) (queries_agree edition) (queries_apart edition) word d query has)

-- ---- batches

-- the parts of a batch
record Wants (dialect : Dialect) (ds : Items) (d : Data) (y : Request) : Type 0 where
  name : Option (List ℕ)
  list : List Command
  makes : a_batch name list ≡ y
  listed : has_only doing d ≡ true
  named : IsOf dialect.source d name
  each : AreEach (IsCommand dialect.edition) ds list
  few : length list ≤ most_commands

wants : (dialect : Dialect) (ds : Items) (d : Data) (y : Request) → batch_of dialect ds d ≡ Some y → Wants dialect ds d y
unfolding batch_of
wants dialect ds d y h =
    let edition = dialect.edition in
    let whose = whose_of dialect.source d in
    let few = few_commands_in edition ds in
    let listed = kept (has_only doing d) (applied (applied (Some a_batch) whose) few) y h in
    let parts = two a_batch whose few y listed.1 in
    let counted = kept (nat_le (item_count ds) most_commands) (commands_in edition ds) parts.1 parts.3 in
    let all = each_read (command_of edition) (IsCommand edition) (command_read edition) ds parts.1 counted.1 in
    record {
      name = parts.0;
      list = parts.1;
      makes = parts.4;
      listed = listed.0;
      named = (said_agrees dialect.source).read _ parts.0 parts.2;
      each = all;
      few = subst (λ n. n ≤ most_commands) (each_count (IsCommand edition) ds parts.1 all)
          (is_most (item_count ds) most_commands counted.0);
    }

wanted_batch : (dialect : Dialect) (ds : Items) (d : Data) (name : Option (List ℕ)) (list : List Command)
    → has_only doing d ≡ true → IsOf dialect.source d name → AreEach (IsCommand dialect.edition) ds list
    → length list ≤ most_commands → batch_of dialect ds d ≡ Some (a_batch name list)
unfolding batch_of
wanted_batch dialect ds d name list listed named all few =
    let edition = dialect.edition in
    ap (λ b. cond b (applied (applied (Some a_batch) (whose_of dialect.source d)) (few_commands_in edition ds)) None)
    listed
    ∙ ap (λ o. applied (applied (Some a_batch) o) (few_commands_in edition ds))
    ((said_agrees dialect.source).reads _ name named)
    ∙ ap (λ b. applied (Some (a_batch name)) (cond b (commands_in edition ds) None))
    (most_is (item_count ds) most_commands
    (subst (λ n. n ≤ most_commands) (sym (each_count (IsCommand edition) ds list all)) few))
    ∙ ap (applied (Some (a_batch name)))
    (each_reads (command_of edition) (IsCommand edition) (command_reads edition) ds list all)

-- ---- greetings

greeting_agrees : AgreesForm greeting
greeting_agrees = with_agrees _ _ (with_agrees _ _ (form_agrees _ _) (called_agrees _)) (written_agrees _)

-- a greeting is that of its name and its token
greets : (d : Data) (y : Request) → HasForm [] greeting d y
    → (name : List ℕ) × (token : List ℕ) × (a_greeting name token ≡ y)
greets d y has =
    let outer = has.made in
    let inner = outer.2 in
    (inner.1, outer.1, ap (λ make. make inner.1 outer.1) inner.2 ∙ ap (λ make. make outer.1) inner.4 ∙ outer.4)

is_there : (o : Option Data) (bytes : List ℕ) → text o ≡ Some bytes → IsSome o
is_there None bytes h = absurd (cc)
is_there (Some d) bytes h = refl

greeter_is_there : (d : Data) (y : Request) → HasForm [] greeting d y → IsSome (get (codes "hello") d)
greeter_is_there d y has = let name = has.made.2.3 in is_there (get (codes "hello") d) _ name.is

-- ---- what was read

-- what makes a message the request that it is
abbrev Makes : Dialect → (ask list audit hello : Option Data) → Data → Option (List ℕ) → RequestBody → Type 0
Makes dialect ask list audit hello d user (body.OfUser (wanting.Query query version)) =
    (count_by (λ member. is_some member) (ask ∷ list ∷ audit ∷ hello ∷ []) ≡ 1)
    × ((word : List ℕ) × (option_and_then as_str ask ≡ Some word) × HasFormOf asking (queries dialect.edition) word d query)
    × IsOf dialect.source d user × since.Is (get since.name d) version
Makes dialect ask list audit hello d user (body.OfUser (wanting.Batch xs)) =
    (count_by (λ member. is_some member) (ask ∷ list ∷ audit ∷ hello ∷ []) ≡ 1)
    × ((elements : Items) × (option_and_then as_array list ≡ Some elements)
    × AreEach (IsCommand dialect.edition) elements xs)
    × (length xs ≤ most_commands) × (has_only doing d ≡ true) × IsOf dialect.source d user
Makes dialect ask list audit hello d user (body.OfUser (wanting.Audit range)) =
    (count_by (λ member. is_some member) (ask ∷ list ∷ audit ∷ hello ∷ []) ≡ 1)
    × ((rows : Data) × (audit ≡ Some rows) × HasForm [] audit_range rows range)
    × (has_only auditing d ≡ true) × IsOf dialect.source d user
Makes dialect ask list audit hello d user (body.Hello name token) =
    (count_by (λ member. is_some member) (ask ∷ list ∷ audit ∷ hello ∷ []) ≡ 1)
    × IsSome hello × (dialect.source ≡ Connection) × HasForm [] greeting d (a_greeting name token) × (user ≡ None)

abbrev MakesRequest : Dialect → (ask list audit hello : Option Data) → Data → Request → Type 0
MakesRequest dialect ask list audit hello d y = Makes dialect ask list audit hello d y.user y.body

query_made : (dialect : Dialect) (ask : Data) (o : Option (List ℕ)) (d : Data) (y : Request) → as_str ask ≡ o
    → query_by dialect o d ≡ Ok y → MakesRequest dialect (Some ask) None None None d y
query_made dialect ask None d y is h = absurd (cc)
query_made dialect ask (Some word) d y is h =
    let read = read_where (is_among (words (queries dialect.edition)) word) (query_of dialect word d) UnknownRequest y h in
    let parts = asks dialect word d y read.1 in
    subst (MakesRequest dialect (Some ask) None None None d) parts.makes (
      refl,
      (word, is, parts.asked),
      parts.named,
      parts.from,
    )

batch_made : (dialect : Dialect) (list : Data) (o : Option Items) (d : Data) (y : Request) → as_array list ≡ o
    → batch_by dialect o d ≡ Ok y → MakesRequest dialect None (Some list) None None d y
batch_made dialect list None d y is h = absurd (cc)
batch_made dialect list (Some ds) d y is h =
    let read = read_unless (has_unknown dialect.edition ds) (batch_of dialect ds d) UnknownRequest y h in
    let parts = wants dialect ds d y read.1 in
    subst (MakesRequest dialect None (Some list) None None d) parts.makes (
      refl,
      (ds, is, parts.each),
      parts.few,
      parts.listed,
      parts.named,
    )

audit_made : (dialect : Dialect) (rows d : Data) (y : Request) → wanted (audit_of dialect.source rows d) ≡ Ok y
    → MakesRequest dialect None None (Some rows) None d y
audit_made dialect rows d y h =
    let parts = audits dialect.source rows d y (wanted_read (audit_of dialect.source rows d) y h) in
    subst (MakesRequest dialect None None (Some rows) None d) parts.makes (
      refl,
      (rows, refl, parts.has),
      parts.listed,
      parts.named,
    )

greeting_made : (dialect : Dialect) (hello d : Data) (y : Request) → greeting_by dialect.source d ≡ Ok y
    → MakesRequest dialect None None None (Some hello) d y
greeting_made dialect hello d y h = by_source dialect.source refl h
  where
    by_source : (source : Source) → dialect.source ≡ source → greeting_by source d ≡ Ok y
        → MakesRequest dialect None None None (Some hello) d y
    by_source Script is h = absurd (cc)
    by_source Connection is h =
        let has = formed_read [] greeting greeting_agrees d y (wanted_read (formed [] greeting d) y h) in
        let parts = greets d y has in
        subst (MakesRequest dialect None None None (Some hello) d) parts.2
        (refl, refl, is, subst (HasForm [] greeting d) (sym parts.2) has, refl)

made : (dialect : Dialect) (ask list audit hello : Option Data) (d : Data) (y : Request)
    → one_of dialect ask list audit hello d ≡ Ok y → MakesRequest dialect ask list audit hello d y
made dialect (Some ask) (Some list) audit hello d y h = absurd (cc)
made dialect (Some ask) None (Some rows) hello d y h = absurd (cc)
made dialect (Some ask) None None (Some name) d y h = absurd (cc)
made dialect (Some ask) None None None d y h = query_made dialect ask (as_str ask) d y refl h
made dialect None (Some list) (Some rows) hello d y h = absurd (cc)
made dialect None (Some list) None (Some name) d y h = absurd (cc)
made dialect None (Some list) None None d y h = batch_made dialect list (as_array list) d y refl h
made dialect None None (Some rows) (Some name) d y h = absurd (cc)
made dialect None None (Some rows) None d y h = audit_made dialect rows d y h
made dialect None None None (Some name) d y h = greeting_made dialect name d y h
made dialect None None None None d y h = absurd (cc)

query_says : (dialect : Dialect) (ask : Data) (d : Data) (name : Option (List ℕ)) (query : Query) (version : ℕ)
    → Makes dialect (Some ask) None None None d name (body.OfUser (wanting.Query query version))
    → query_by dialect (as_str ask) d ≡ Ok (a_query name version query)
query_says dialect ask d name query version (one, (word, is, has), named, from) =
    ap (λ o. query_by dialect o d) is
    ∙ ap (λ b. cond b (wanted (query_of dialect word d)) (Err UnknownRequest))
    (is_word asking (queries dialect.edition) word d query has)
    ∙ ap wanted (asked dialect word d name query version has named from)

batch_says : (dialect : Dialect) (list : Data) (d : Data) (name : Option (List ℕ)) (xs : List Command)
    → Makes dialect None (Some list) None None d name (body.OfUser (wanting.Batch xs))
    → batch_by dialect (as_array list) d ≡ Ok (a_batch name xs)
batch_says dialect list d name xs (one, (elements, is, all), few, listed, named) =
    ap (λ o. batch_by dialect o d) is
    ∙ ap (λ b. cond b (Err UnknownRequest) (wanted (batch_of dialect elements d)))
    (all_known dialect.edition elements xs all)
    ∙ ap wanted (wanted_batch dialect elements d name xs listed named all few)

audit_says : (dialect : Dialect) (rows d : Data) (name : Option (List ℕ)) (range : AuditRange)
    → Makes dialect None None (Some rows) None d name (body.OfUser (wanting.Audit range))
    → wanted (audit_of dialect.source rows d) ≡ Ok (an_audit name range)
audit_says dialect rows d name range (one, (asked, is, has), listed, named) =
    let same : asked ≡ rows = cc in
    ap wanted (audited dialect.source rows d name range (subst (λ r. HasForm [] audit_range r range) same has) listed
    named)

greeting_says : (dialect : Dialect) (hello d : Data) (user : Option (List ℕ)) (name token : List ℕ)
    → Makes dialect None None None (Some hello) d user (body.Hello name token)
    → greeting_by dialect.source d ≡ Ok (record { user = user; body = body.Hello name token })
greeting_says dialect hello d user name token (one, is, from, has, nobody) =
    ap (λ s. greeting_by s d) from
    ∙ ap wanted (formed_reads [] greeting greeting_agrees d (a_greeting name token) has)
    ∙ (λ i. Ok (record { user = sym nobody i; body = body.Hello name token }))

query_said : (dialect : Dialect) (ask list audit hello : Option Data) (d : Data) (name : Option (List ℕ)) (query : Query)
    (version : ℕ) → Makes dialect ask list audit hello d name (body.OfUser (wanting.Query query version))
    → one_of dialect ask list audit hello d ≡ Ok (a_query name version query)
query_said dialect None list audit hello d name query version m = let none = m.1.1 in absurd (cc)
query_said dialect (Some ask) (Some list) audit hello d name query version m = absurd (omega (arith, m.0))
query_said dialect (Some ask) None (Some x) hello d name query version m = absurd (omega (arith, m.0))
query_said dialect (Some ask) None None (Some x) d name query version m = absurd (omega (arith, m.0))
query_said dialect (Some ask) None None None d name query version m = query_says dialect ask d name query version m

batch_said : (dialect : Dialect) (ask list audit hello : Option Data) (d : Data) (name : Option (List ℕ))
    (xs : List Command) → Makes dialect ask list audit hello d name (body.OfUser (wanting.Batch xs))
    → one_of dialect ask list audit hello d ≡ Ok (a_batch name xs)
batch_said dialect ask None audit hello d name xs m = let none = m.1.1 in absurd (cc)
batch_said dialect (Some ask) (Some list) audit hello d name xs m = absurd (omega (arith, m.0))
batch_said dialect None (Some list) (Some x) hello d name xs m = absurd (omega (arith, m.0))
batch_said dialect None (Some list) None (Some x) d name xs m = absurd (omega (arith, m.0))
batch_said dialect None (Some list) None None d name xs m = batch_says dialect list d name xs m

audit_said : (dialect : Dialect) (ask list audit hello : Option Data) (d : Data) (name : Option (List ℕ))
    (range : AuditRange) → Makes dialect ask list audit hello d name (body.OfUser (wanting.Audit range))
    → one_of dialect ask list audit hello d ≡ Ok (an_audit name range)
audit_said dialect ask list None hello d name range m = let none = m.1.1 in absurd (cc)
audit_said dialect (Some ask) (Some list) (Some rows) hello d name range m = absurd (omega (arith, m.0))
audit_said dialect (Some ask) None (Some rows) hello d name range m = absurd (omega (arith, m.0))
audit_said dialect None (Some list) (Some rows) hello d name range m = absurd (omega (arith, m.0))
audit_said dialect None None (Some rows) (Some x) d name range m = absurd (omega (arith, m.0))
audit_said dialect None None (Some rows) None d name range m = audit_says dialect rows d name range m

greeting_said : (dialect : Dialect) (ask list audit hello : Option Data) (d : Data) (user : Option (List ℕ))
    (name token : List ℕ) → Makes dialect ask list audit hello d user (body.Hello name token)
    → one_of dialect ask list audit hello d ≡ Ok (record { user = user; body = body.Hello name token })
greeting_said dialect ask list audit None d user name token m = let none = m.1 in absurd (cc)
greeting_said dialect (Some ask) (Some list) audit (Some x) d user name token m = absurd (omega (arith, m.0))
greeting_said dialect (Some ask) None (Some rows) (Some x) d user name token m = absurd (omega (arith, m.0))
greeting_said dialect (Some ask) None None (Some x) d user name token m = absurd (omega (arith, m.0))
greeting_said dialect None (Some list) (Some rows) (Some x) d user name token m = absurd (omega (arith, m.0))
greeting_said dialect None (Some list) None (Some x) d user name token m = absurd (omega (arith, m.0))
greeting_said dialect None None (Some rows) (Some x) d user name token m = absurd (omega (arith, m.0))
greeting_said dialect None None None (Some x) d user name token m = greeting_says dialect x d user name token m

module _ (dialect : Dialect) (d : Data) where
  abbrev ask_member : Option Data
  ask_member = get (codes "ask") d

  abbrev do_member : Option Data
  do_member = get (codes "do") d

  abbrev audit_member : Option Data
  audit_member = get (codes "audit") d

  abbrev hello_member : Option Data
  hello_member = get (codes "hello") d

  pub query_object : (name : Option (List ℕ)) (query : Query) (version : ℕ)
      → (request_of dialect d ≡ Ok (a_query name version query)) ↔ IsQuery dialect d name query version
  unfolding request_of
  query_object name query version = (
    λ h. let m = made dialect ask_member do_member audit_member hello_member d (a_query name version query) h in
        record { one = m.0; asked = m.1; user = m.2; since = m.3 },
    λ q. query_said dialect ask_member do_member audit_member hello_member d name query version (
      q.one,
      q.asked,
      q.user,
      q.since,
    ),
  )

  pub batch_object : (name : Option (List ℕ)) (xs : List Command)
      → (request_of dialect d ≡ Ok (a_batch name xs)) ↔ IsBatch dialect d name xs
  unfolding request_of
  batch_object name xs = (
    λ h. let m = made dialect ask_member do_member audit_member hello_member d (a_batch name xs) h in
        record { one = m.0; list = m.1; few = m.2; listed = m.3; user = m.4 },
    λ b. batch_said dialect ask_member do_member audit_member hello_member d name xs (
      b.one,
      b.list,
      b.few,
      b.listed,
      b.user,
    ),
  )

  pub audit_object : (name : Option (List ℕ)) (range : AuditRange)
      → (request_of dialect d ≡ Ok (an_audit name range)) ↔ IsAudit dialect.source d name range
  unfolding request_of
  audit_object name range = (
    λ h. let m = made dialect ask_member do_member audit_member hello_member d (an_audit name range) h in
        record { one = m.0; asked = m.1; listed = m.2; user = m.3 },
    λ a. audit_said dialect ask_member do_member audit_member hello_member d name range (
      a.one,
      a.asked,
      a.listed,
      a.user,
    ),
  )

  pub greeting_object : (user : Option (List ℕ)) (name token : List ℕ)
      → (request_of dialect d ≡ Ok (record { user = user; body = body.Hello name token }))
      ↔ IsGreeting dialect.source d user name token
  unfolding request_of
  greeting_object user name token = (
    λ h. let m = made dialect ask_member do_member audit_member hello_member d
        (record { user = user; body = body.Hello name token }) h in record {
          one = m.0;
          from = m.2;
          form = m.3;
          nobody =
              m.4;
        },
    λ g. greeting_said dialect ask_member do_member audit_member hello_member d user name token
        (g.one, greeter_is_there d _ g.form, g.from, g.form, g.nobody),
  )

  few_in_body : (user : Option (List ℕ)) (b : RequestBody) → request_of dialect d ≡ Ok
      (record { user = user; body = b }) → HasFewIn b
  few_in_body user (body.OfUser (wanting.Query query version)) h = tt
  few_in_body user (body.OfUser (wanting.Batch xs)) h = ((batch_object user xs).0 h).few
  few_in_body user (body.OfUser (wanting.Audit range)) h = tt
  few_in_body user (body.Hello name token) h = tt

  pub few_in_request : (y : Request) → request_of dialect d ≡ Ok y → HasFewIn y.body
  few_in_request y h = few_in_body y.user y.body h

-- ---- whose it is

module _ (edition : Edition) (d : Data) where
  abbrev script : Dialect
  script = dialect_of Script edition

  abbrev connection : Dialect
  connection = dialect_of Connection edition

  said_by : (user : Option (List ℕ)) (b : RequestBody) → request_of script d ≡ Ok (record { user = user; body = b })
      → IsSome user × IsNoGreeting b
  said_by user (body.OfUser (wanting.Query query version)) h =
      (said_in_script _ user ((query_object script d user query version).0 h).user, tt)
  said_by user (body.OfUser (wanting.Batch xs)) h =
      (said_in_script _ user ((batch_object script d user xs).0 h).user, tt)
  said_by user (body.OfUser (wanting.Audit range)) h =
      (said_in_script _ user ((audit_object script d user range).0 h).user, tt)
  said_by user (body.Hello name token) h =
      let from = ((greeting_object script d user name token).0 h).from in absurd (cc)

  unsaid_by : (user : Option (List ℕ)) (b : RequestBody)
      → request_of connection d ≡ Ok (record { user = user; body = b }) → user ≡ None
  unsaid_by user (body.OfUser (wanting.Query query version)) h =
      unsaid_on_connection _ user ((query_object connection d user query version).0 h).user
  unsaid_by user (body.OfUser (wanting.Batch xs)) h =
      unsaid_on_connection _ user ((batch_object connection d user xs).0 h).user
  unsaid_by user (body.OfUser (wanting.Audit range)) h =
      unsaid_on_connection _ user ((audit_object connection d user range).0 h).user
  unsaid_by user (body.Hello name token) h = ((greeting_object connection d user name token).0 h).nobody

  pub user_in_script : (y : Request) → request_of script d ≡ Ok y → IsSaid y
  user_in_script y h = said_by y.user y.body h

  pub no_user_on_connection : (y : Request) → request_of connection d ≡ Ok y → y.user ≡ None
  no_user_on_connection y h = unsaid_by y.user y.body h

-- ---- faults

-- a request of an object fails as an unknown request or by a member
pub record IsFaultOfObject (fault : RequestFault) : Type 0 where
  pub not_long : fault ≢ TooLong
  pub read_well : fault ≢ Malformed
  pub in_memory : fault ≢ OutOfMemory

unknown_fault : (fault : RequestFault) → UnknownRequest ≡ fault → IsFaultOfObject fault
unknown_fault fault is = record { not_long = λ e. cc; read_well = λ e. cc; in_memory = λ e. cc }

member_fault : (fault : RequestFault) → fault ≡ BadField → IsFaultOfObject fault
member_fault fault is = record { not_long = λ e. cc; read_well = λ e. cc; in_memory = λ e. cc }

query_at : (b : Bool) (o : Option Request) (fault : RequestFault) → cond b (wanted o) (Err UnknownRequest) ≡ Err fault
    → IsFaultOfObject fault
query_at true o fault h = member_fault fault (wanted_fails o fault h)
query_at false o fault h = unknown_fault fault (cc)

batch_at : (b : Bool) (o : Option Request) (fault : RequestFault) → cond b (Err UnknownRequest) (wanted o) ≡ Err fault
    → IsFaultOfObject fault
batch_at true o fault h = unknown_fault fault (cc)
batch_at false o fault h = member_fault fault (wanted_fails o fault h)

query_fault : (dialect : Dialect) (o : Option (List ℕ)) (d : Data) (fault : RequestFault)
    → query_by dialect o d ≡ Err fault → IsFaultOfObject fault
query_fault dialect None d fault h = member_fault fault (cc)
query_fault dialect (Some word) d fault h =
    query_at (is_among (words (queries dialect.edition)) word) (query_of dialect word d) fault h

batch_fault : (dialect : Dialect) (o : Option Items) (d : Data) (fault : RequestFault)
    → batch_by dialect o d ≡ Err fault → IsFaultOfObject fault
batch_fault dialect None d fault h = member_fault fault (cc)
batch_fault dialect (Some ds) d fault h = batch_at (has_unknown dialect.edition ds) (batch_of dialect ds d) fault h

greeting_fault : (source : Source) (d : Data) (fault : RequestFault) → greeting_by source d ≡ Err fault
    → IsFaultOfObject fault
greeting_fault Script d fault h = unknown_fault fault (cc)
greeting_fault Connection d fault h = member_fault fault (wanted_fails (formed [] greeting d) fault h)

said_fault : (dialect : Dialect) (ask list audit hello : Option Data) (d : Data) (fault : RequestFault)
    → one_of dialect ask list audit hello d ≡ Err fault → IsFaultOfObject fault
said_fault dialect (Some ask) (Some list) audit hello d fault h = unknown_fault fault (cc)
said_fault dialect (Some ask) None (Some rows) hello d fault h = unknown_fault fault (cc)
said_fault dialect (Some ask) None None (Some name) d fault h = unknown_fault fault (cc)
said_fault dialect (Some ask) None None None d fault h = query_fault dialect (as_str ask) d fault h
said_fault dialect None (Some list) (Some rows) hello d fault h = unknown_fault fault (cc)
said_fault dialect None (Some list) None (Some name) d fault h = unknown_fault fault (cc)
said_fault dialect None (Some list) None None d fault h = batch_fault dialect (as_array list) d fault h
said_fault dialect None None (Some rows) (Some name) d fault h = unknown_fault fault (cc)
said_fault dialect None None (Some rows) None d fault h =
    member_fault fault (wanted_fails (audit_of dialect.source rows d) fault h)
said_fault dialect None None None (Some name) d fault h = greeting_fault dialect.source d fault h
said_fault dialect None None None None d fault h = unknown_fault fault (cc)

pub object_fault : (dialect : Dialect) (d : Data) (fault : RequestFault) → request_of dialect d ≡ Err fault →
    IsFaultOfObject fault
unfolding request_of
object_fault dialect d fault h =
    said_fault dialect (get (codes "ask") d) (get (codes "do") d) (get (codes "audit") d) (get (codes "hello") d) d fault
    h

-- ---- unknown requests

-- when a message is unknown, by the four members
abbrev AsksOther : Edition → Option Data → Type 0
AsksOther edition ask =
    (word : List ℕ) × (option_and_then as_str ask ≡ Some word) × All (λ other. word ≢ other) (words (queries edition))

abbrev WantsOther : Edition → Option Data → Type 0
WantsOther edition list =
    (elements : Items) × (option_and_then as_array list ≡ Some elements) × (has_unknown edition elements ≡ true)

abbrev IsOther : Dialect → Option Data → Option Data → Option Data → Option Data → Type 0
IsOther dialect ask list audit hello =
    (count_by (λ member. is_some member) (ask ∷ list ∷ audit ∷ hello ∷ []) ≢ 1)
    ⊎ (((dialect.source ≡ Script) × IsSome hello) ⊎ (AsksOther dialect.edition ask ⊎ WantsOther dialect.edition list))

other_where : {A : Type 0} (b : Bool) (o : Option A) → cond b (wanted o) (Err UnknownRequest) ≡ Err UnknownRequest
    → b ≡ false
other_where true o h = let bad = wanted_fails o UnknownRequest h in absurd (cc)
other_where false o h = refl

other_unless : {A : Type 0} (b : Bool) (o : Option A) → cond b (Err UnknownRequest) (wanted o) ≡ Err UnknownRequest
    → b ≡ true
other_unless true o h = refl
other_unless false o h = let bad = wanted_fails o UnknownRequest h in absurd (cc)

asks_other : (dialect : Dialect) (o : Option (List ℕ)) (d : Data) → query_by dialect o d ≡ Err UnknownRequest
    → (word : List ℕ) × (o ≡ Some word) × All (λ other. word ≢ other) (words (queries dialect.edition))
asks_other dialect None d h = absurd (cc)
asks_other dialect (Some word) d h =
    let all = words (queries dialect.edition) in
    (word, refl, none_among all word (other_where (is_among all word) (query_of dialect word d) h))

wants_other : (dialect : Dialect) (o : Option Items) (d : Data) → batch_by dialect o d ≡ Err UnknownRequest
    → (elements : Items) × (o ≡ Some elements) × (has_unknown dialect.edition elements ≡ true)
wants_other dialect None d h = absurd (cc)
wants_other dialect (Some ds) d h = (ds, refl, other_unless (has_unknown dialect.edition ds) (batch_of dialect ds d) h)

greets_other : (source : Source) (d : Data) → greeting_by source d ≡ Err UnknownRequest → source ≡ Script
greets_other Script d h = refl
greets_other Connection d h = let bad = wanted_fails (formed [] greeting d) UnknownRequest h in absurd (cc)

other_is : (dialect : Dialect) (ask list audit hello : Option Data) (d : Data)
    → one_of dialect ask list audit hello d ≡ Err UnknownRequest → IsOther dialect ask list audit hello
other_is dialect (Some ask) (Some list) audit hello d h = inl (λ same. omega (arith, same))
other_is dialect (Some ask) None (Some rows) hello d h = inl (λ same. omega (arith, same))
other_is dialect (Some ask) None None (Some name) d h = inl (λ same. omega (arith, same))
other_is dialect (Some ask) None None None d h = inr (inr (inl (asks_other dialect (as_str ask) d h)))
other_is dialect None (Some list) (Some rows) hello d h = inl (λ same. omega (arith, same))
other_is dialect None (Some list) None (Some name) d h = inl (λ same. omega (arith, same))
other_is dialect None (Some list) None None d h = inr (inr (inr (wants_other dialect (as_array list) d h)))
other_is dialect None None (Some rows) (Some name) d h = inl (λ same. omega (arith, same))
other_is dialect None None (Some rows) None d h =
    let bad = wanted_fails (audit_of dialect.source rows d) UnknownRequest h in absurd (cc)
other_is dialect None None None (Some name) d h = inr (inl (greets_other dialect.source d h, refl))
other_is dialect None None None None d h = inl (λ same. omega (arith, same))

one_asks : (dialect : Dialect) (ask : Data) (d : Data) → IsOther dialect (Some ask) None None None
    → query_by dialect (as_str ask) d ≡ Err UnknownRequest
one_asks dialect ask d (inl count) = absurd (count refl)
one_asks dialect ask d (inr (inl greets)) = let none = greets.1 in absurd (cc)
one_asks dialect ask d (inr (inr (inl other))) =
    ap (λ o. query_by dialect o d) other.1
    ∙ ap (λ b. cond b (wanted (query_of dialect other.0 d)) (Err UnknownRequest))
    (among_none (words (queries dialect.edition)) other.0 other.2)
one_asks dialect ask d (inr (inr (inr other))) = let none = other.1 in absurd (cc)

one_wants : (dialect : Dialect) (list : Data) (d : Data) → IsOther dialect None (Some list) None None
    → batch_by dialect (as_array list) d ≡ Err UnknownRequest
one_wants dialect list d (inl count) = absurd (count refl)
one_wants dialect list d (inr (inl greets)) = let none = greets.1 in absurd (cc)
one_wants dialect list d (inr (inr (inl other))) = let none = other.1 in absurd (cc)
one_wants dialect list d (inr (inr (inr other))) =
    ap (λ o. batch_by dialect o d) other.1 ∙ ap (λ b. cond b (Err UnknownRequest) (wanted (batch_of dialect other.0 d)))
    other.2

one_audits : (dialect : Dialect) (rows d : Data) → IsOther dialect None None (Some rows) None
    → wanted (audit_of dialect.source rows d) ≡ Err UnknownRequest
one_audits dialect rows d (inl count) = absurd (count refl)
one_audits dialect rows d (inr (inl greets)) = let none = greets.1 in absurd (cc)
one_audits dialect rows d (inr (inr (inl other))) = let none = other.1 in absurd (cc)
one_audits dialect rows d (inr (inr (inr other))) = let none = other.1 in absurd (cc)

one_greets : (dialect : Dialect) (hello d : Data) → IsOther dialect None None None (Some hello)
    → greeting_by dialect.source d ≡ Err UnknownRequest
one_greets dialect hello d (inl count) = absurd (count refl)
one_greets dialect hello d (inr (inl greets)) = ap (λ s. greeting_by s d) greets.0
one_greets dialect hello d (inr (inr (inl other))) = let none = other.1 in absurd (cc)
one_greets dialect hello d (inr (inr (inr other))) = let none = other.1 in absurd (cc)

other_said : (dialect : Dialect) (ask list audit hello : Option Data) (d : Data) → IsOther dialect ask list audit hello
    → one_of dialect ask list audit hello d ≡ Err UnknownRequest
other_said dialect (Some ask) (Some list) audit hello d h = refl
other_said dialect (Some ask) None (Some rows) hello d h = refl
other_said dialect (Some ask) None None (Some name) d h = refl
other_said dialect (Some ask) None None None d h = one_asks dialect ask d h
other_said dialect None (Some list) (Some rows) hello d h = refl
other_said dialect None (Some list) None (Some name) d h = refl
other_said dialect None (Some list) None None d h = one_wants dialect list d h
other_said dialect None None (Some rows) (Some name) d h = refl
other_said dialect None None (Some rows) None d h = one_audits dialect rows d h
other_said dialect None None None (Some name) d h = one_greets dialect name d h
other_said dialect None None None None d h = refl

pub unknown_object : (dialect : Dialect) (d : Data)
    → (request_of dialect d ≡ Err UnknownRequest) ↔ IsUnknownRequest dialect d
unfolding request_of
unknown_object dialect d =
    let ask = get (codes "ask") d in
    let list = get (codes "do") d in
    let audit = get (codes "audit") d in
    let hello = get (codes "hello") d in
    (other_is dialect ask list audit hello d, other_said dialect ask list audit hello d)
