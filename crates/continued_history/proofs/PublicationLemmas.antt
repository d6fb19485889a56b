-- What the steps of a history publish.
use Rattle.std.proofs.Common.{
  ◌≡◌,
  ◌⊎◌,
  inl,
  inr,
  ℕ,
  ◌+◌,
  ◌<◌,
  max,
  Bool,
  true,
  false,
  nat_lt,
  List,
  [],
  ◌∷◌,
  ◌++◌,
  length,
  drop,
  fold,
  Contains,
  refl,
  sym,
  ◌∙◌,
  ap,
  subst,
  arith,
  append_assoc,
  append-nil,
  length-append,
}
use Rattle.std.specs.Prelude.{Option, Some, None, All, reverse, if◌then◌else◌}
use Rattle.std.proofs.Math.Seq.{drop-append_seam}
use Rattle.std.proofs.lemmas.Bool.Decides.{nat_tests}
use Rattle.std.proofs.lemmas.List.{map-append, reverse-append}
use Rattle.std.proofs.lemmas.List.Elements.{All-append, All-cons, All-nil}
use Rattle.session_state.specs.SessionState.{SessionState}
use Rattle.session_commands.specs.declared.actor.Actor.TheVariants.{User, Solver}
use Rattle.session_commands.specs.declared.command.Command.{Command}
use Rattle.session_commands.specs.declared.entry.Entry.{Entry}
use Rattle.session_commands.specs.declared.refusal.Refusal.{Refusal}
use Rattle.session_book.specs.declared.answer.Answer.{Answer}
use Rattle.session_book.specs.declared.answer.Answer.TheVariants.{Accepted, Refused}
use Rattle.session_book.specs.Journal.{IsAccepted, refusal_after}
use Rattle.session_book.specs.Run.{Progress, answered, after_command, run, Runs, IsTried}
use Rattle.history.specs.Prefixes.{entries_of}
use Rattle.published_view.specs.World.{
  World,
  Step,
  Submit,
  Solve,
  Learn,
  Read,
  Moment,
  Happens,
  IsHistory,
  now,
  with_journal,
  with_seen,
  book_with,
}
use Rattle.published_view.proofs.HistoryLemmas.{may_go_on}
use Rattle.published_view.proofs.ElementLemmas.{contains_first, contains_later}
use Rattle.continued_history.specs.Publications.{
  entries_by,
  AreOfOneStep,
  as_publication,
  publications_of,
  versions_from,
  versions_of,
  MayBeEntered,
}

-- ---- the entries that join the journal with a step

-- some of a user's commands were accepted, and stand behind a journal
abbrev IsJoinedBy : List ℕ → List Entry → List Entry → Type 0
IsJoinedBy name before after = (commands : List Command) × (after ≡ before ++ entries_by name commands)

module _ (opening : SessionState) (name : List ℕ) where
  joined_answered : (so_far : Progress) (command : Command) (found : Option Refusal) → IsJoinedBy name so_far.journal
      (answered so_far name command found).journal
  joined_answered so_far command None = (command ∷ [], refl)
  joined_answered so_far command (Some cause) = ([], sym (append-nil so_far.journal))

  joined_fold : (batch : List Command) (so_far : Progress) → IsJoinedBy name so_far.journal
      (fold (after_command opening name) so_far batch).journal
  joined_fold [] so_far = ([], sym (append-nil so_far.journal))
  joined_fold (command ∷ batch) so_far =
      let first = joined_answered so_far command (refusal_after opening so_far.journal (User name) command) in
      let rest = joined_fold batch (after_command opening name so_far command) in (
        first.0 ++ rest.0,
        rest.1
            ∙ (ap (λ (l : List Entry). l ++ entries_by name rest.0) first.1
            ∙ (append_assoc so_far.journal (entries_by name first.0) (entries_by name rest.0)
            ∙ ap (λ (l : List Entry). so_far.journal ++ l)
            (sym (map-append (λ (command : Command). record { actor = User name; command = command }) first.0
            rest.0)))),
      )

  joined_run : (before : List Entry) (batch : List Command) → IsJoinedBy name before
      (run opening before name batch).journal
  unfolding run
  joined_run before batch = joined_fold batch (record { journal = before; answers = [] })

  joined_runs : (stopped : Bool) (before : List Entry) (batch : List Command) (after : Progress) → Runs stopped opening
      before name batch after → IsJoinedBy name before after.journal
  joined_runs false before batch after ran =
      subst (λ (p : Progress). IsJoinedBy name before p.journal) (sym ran) (joined_run before batch)
  joined_runs true before batch after ran =
      subst (IsJoinedBy name before) (sym ran.journal) (joined_run before ran.tried)

-- what joins the journal with a step is a publication of one step, or nothing
pub record Adds (before after : World) : Type 0 where
  pub more : List Entry
  pub journal : after.journal ≡ before.journal ++ more
  pub published : after.published ≡ (with_journal before (before.journal ++ more)).published
  pub step : (more ≡ []) ⊎ AreOfOneStep more

adds_journal : (before : World) (journal more : List Entry) → journal ≡ before.journal ++ more →
    (more ≡ []) ⊎ AreOfOneStep more → Adds before (with_journal before journal)
adds_journal before journal more is step = record {
  more = more;
  journal = is;
  published = ap (λ (l : List Entry). (with_journal before l).published) is;
  step = step;
}

by_user : (name : List ℕ) (commands : List Command) → (entries_by name commands ≡ []) ⊎ AreOfOneStep
    (entries_by name commands)
by_user name [] = inl refl
by_user name (command ∷ commands) = inr (record {
  some = omega arith;
  by = inl (record { name = name; commands = command ∷ commands; are = refl });
})

pub found_joins : (opening : SessionState) (before after : List Entry) (command : Command) (answer : Answer) →
    IsTried (book_with opening before) Solver command answer (book_with opening after) →
    (more : List Entry) × (after ≡ before ++ more) × ((more ≡ []) ⊎ AreOfOneStep more)
found_joins opening before after command Accepted tried = (
  record { actor = Solver; command = command } ∷ [],
  tried.1,
  inr (record { some = omega arith; by = inr (record { command = command; are = refl }) }),
)
found_joins opening before after command (Refused cause) tried =
    ([], tried.1 ∙ sym (append-nil before), inl refl)

pub batch_joins : (stopped : Bool) (opening : SessionState) (before : List Entry) (actor : List ℕ)
    (batch : List Command) (progress : Progress) → Runs stopped opening before actor batch progress →
    (more : List Entry) × (progress.journal ≡ before ++ more) × ((more ≡ []) ⊎ AreOfOneStep more)
batch_joins stopped opening before actor batch progress ran =
    let joined = joined_runs opening actor stopped before batch progress ran in
    (entries_by actor joined.0, joined.1, by_user actor joined.0)

nothing_added : (before : World) (display version : ℕ) → Adds before (with_seen before display version)
nothing_added before display version = record {
  more = [];
  journal = sym (append-nil before.journal);
  published =
      let same : nat_lt (length before.journal) (length (before.journal ++ [])) ≡ false =
      grind (arith, nat_tests, ap length (append-nil before.journal)) in
      sym (ap (λ test. if test then length (before.journal ++ []) ∷ before.published else before.published) same);
  step = inl refl;
}

pub step_adds : (opening : SessionState) (before : World) (step : Step) (after : World) →
    Happens opening before step after → Adds before after
step_adds opening before (Submit actor batch) after happens =
    let joined = batch_joins happens.stopped opening before.journal actor batch happens.progress happens.ran in
    subst (Adds before) (sym happens.leaves) (adds_journal before happens.progress.journal joined.0 joined.1 joined.2)
step_adds opening before (Solve command) after happens =
    let joined = found_joins opening before.journal happens.journal command happens.answer happens.tried in
    subst (Adds before) (sym happens.leaves) (adds_journal before happens.journal joined.0 joined.1 joined.2)
step_adds opening before (Learn display version) after happens =
    subst (Adds before) (sym happens.leaves) (nothing_added before display (max (before.seen display) version))
step_adds opening before (Read reading) after happens =
    subst (Adds before) (sym happens.leaves) (nothing_added before reading.display reading.version)

-- ---- publications and versions with one more

pub entries_of_more : (publications : List (List Entry)) (more : List Entry) → entries_of (publications ++ more ∷ []) ≡
    entries_of publications ++ more
entries_of_more [] more = append-nil more
entries_of_more (first ∷ later) more =
    ap (λ (l : List Entry). first ++ l) (entries_of_more later more)
    ∙ sym (append_assoc first (entries_of later) more)

versions_from_more : (count : ℕ) (publications : List (List Entry)) (more : List Entry) → versions_from count
    (publications ++ more ∷ []) ≡ versions_from count publications
    ++ (count + length (entries_of publications) + length more) ∷ []
versions_from_more count [] more =
    let whole : count + length more ≡ count + 0 + length more = omega arith in
    ap (λ n. count ∷ n ∷ []) whole
versions_from_more count (first ∷ later) more =
    let whole : count + length first + length (entries_of later) + length more
    ≡ count + length (first ++ entries_of later) + length more =
    omega (arith, length-append first (entries_of later)) in
    ap (λ versions. count ∷ versions) (versions_from_more (count + length first) later more)
    ∙ ap (λ n. count ∷ (versions_from (count + length first) later ++ n ∷ [])) whole

versions_of_more : (publications : List (List Entry)) (more : List Entry) → versions_of (publications ++ more ∷ []) ≡
    (length (entries_of publications) + length more) ∷ versions_of publications
versions_of_more publications more =
    let whole : 0 + length (entries_of publications) + length more ≡ length (entries_of publications) + length more =
    omega arith in
    ap reverse (versions_from_more 0 publications more)
    ∙ (reverse-append (versions_from 0 publications) ((0 + length (entries_of publications) + length more) ∷ [])
    ∙ ap (λ n. n ∷ versions_of publications) whole)

-- a publication with an entry is a version more
pub version_more : (world : World) (entries : List Entry) → 0 < length entries →
    (with_journal world (world.journal ++ entries)).published
    ≡ (length world.journal + length entries) ∷ world.published
version_more world entries some =
    let long = length-append world.journal entries in
    let grown : nat_lt (length world.journal) (length (world.journal ++ entries)) ≡ true =
    grind (arith, nat_tests, long) in
    ap (λ test. if test then length (world.journal ++ entries) ∷ world.published else world.published) grown
    ∙ ap (λ n. n ∷ world.published) long

pub as_one : (entries : List Entry) → 0 < length entries → as_publication entries ≡ entries ∷ []
as_one [] some = absurd (omega (arith, some))
as_one (entry ∷ more) some = refl

-- what a step publishes
pub published_by : (earlier : List Moment) (moment : Moment) (adds : Adds (now earlier) moment.after) → publications_of
    (moment ∷ earlier) ≡ publications_of earlier ++ as_publication adds.more
published_by earlier moment adds =
    let behind : drop (length (now earlier).journal) moment.after.journal ≡ adds.more =
    ap (drop (length (now earlier).journal)) adds.journal ∙ drop-append_seam (now earlier).journal adds.more in
    ap (λ entries. publications_of earlier ++ as_publication entries) behind

-- ---- what the publications of a history tell

pub record Tells (history : List Moment) : Type 0 where
  pub entries : entries_of (publications_of history) ≡ (now history).journal
  pub versions : (now history).published ≡ versions_of (publications_of history)
  pub steps : All AreOfOneStep (publications_of history)

tells_nothing_more : (earlier : List Moment) (moment : Moment) (adds : Adds (now earlier) moment.after) →
    adds.more ≡ [] → Tells earlier → Tells (moment ∷ earlier)
tells_nothing_more earlier moment adds none tells =
    let same : publications_of (moment ∷ earlier) ≡ publications_of earlier =
    published_by earlier moment adds ∙ (ap (λ entries. publications_of earlier ++ as_publication entries) none
    ∙ append-nil (publications_of earlier)) in
    let journal : moment.after.journal ≡ (now earlier).journal =
    adds.journal ∙ (ap (λ (l : List Entry). (now earlier).journal ++ l) none ∙ append-nil (now earlier).journal) in
    let long : nat_lt (length (now earlier).journal) (length ((now earlier).journal ++ adds.more)) ≡ false =
    grind (arith, nat_tests, ap length (sym adds.journal ∙ journal)) in
    let published : moment.after.published ≡ (now earlier).published =
    adds.published ∙ ap (λ test. if test then length ((now earlier).journal ++ adds.more) ∷ (now earlier).published
    else (now earlier).published) long in
    record {
      entries = ap entries_of same ∙ (tells.entries ∙ sym journal);
      versions = published ∙ (tells.versions ∙ sym (ap versions_of same));
      steps = subst (All AreOfOneStep) (sym same) tells.steps;
    }

tells_one_more : (earlier : List Moment) (moment : Moment) (adds : Adds (now earlier) moment.after) →
    AreOfOneStep adds.more → Tells earlier → Tells (moment ∷ earlier)
tells_one_more earlier moment adds one tells =
    let grown : publications_of (moment ∷ earlier) ≡ publications_of earlier ++ adds.more ∷ [] =
    published_by earlier moment adds
    ∙ ap (λ publications. publications_of earlier ++ publications) (as_one adds.more one.some) in
    record {
      entries = ap entries_of grown ∙ (entries_of_more (publications_of earlier) adds.more
          ∙ (ap (λ (l : List Entry). l ++ adds.more) tells.entries ∙ sym adds.journal));
      versions = adds.published ∙ (version_more (now earlier) adds.more one.some
          ∙ (ap (λ versions. (length (now earlier).journal + length adds.more) ∷ versions) tells.versions
          ∙ (ap (λ (l : List Entry). (length l + length adds.more) ∷ versions_of (publications_of earlier))
          (sym tells.entries)
          ∙ (sym (versions_of_more (publications_of earlier) adds.more) ∙ sym (ap versions_of grown)))));
      steps = subst (All AreOfOneStep) (sym grown)
          (All-append AreOfOneStep (publications_of earlier) (adds.more ∷ []) tells.steps
          (All-cons AreOfOneStep adds.more [] one (All-nil AreOfOneStep)));
    }

pub tell : (opening : SessionState) (history : List Moment) → IsHistory opening history → Tells history
tell opening [] is = record { entries = refl; versions = refl; steps = All-nil AreOfOneStep }
tell opening (moment ∷ earlier) (happens, is) =
    let adds = step_adds opening (now earlier) moment.step moment.after happens in
    elim adds.step [
      | inl none ↦ tells_nothing_more earlier moment adds none (tell opening earlier is)
      | inr one ↦ tells_one_more earlier moment adds one (tell opening earlier is)
    ]

-- with a publication more that follows, they may be entered again too
pub enterable_more : (opening : SessionState) (history : List Moment) (more : List Entry) → IsHistory opening history →
    AreOfOneStep more → IsAccepted opening ((now history).journal ++ more) →
    MayBeEntered opening (publications_of history ++ more ∷ [])
enterable_more opening history more is one accepted =
    let tells = tell opening history is in
    let entries : entries_of (publications_of history ++ more ∷ []) ≡ (now history).journal ++ more =
    entries_of_more (publications_of history) more ∙ ap (λ (l : List Entry). l ++ more) tells.entries in
    record {
      accepted = subst (IsAccepted opening) (sym entries) accepted;
      steps = All-append AreOfOneStep (publications_of history) (more ∷ []) tells.steps
          (All-cons AreOfOneStep more [] one (All-nil AreOfOneStep));
    }

pub enterable : (opening : SessionState) (history : List Moment) → IsHistory opening history → MayBeEntered opening
    (publications_of history)
enterable opening history is =
    let tells = tell opening history is in
    record {
      accepted = subst (IsAccepted opening) (sym tells.entries) (may_go_on opening history is).0;
      steps = tells.steps;
    }

-- ---- what is published stays so

still_published : (test : Bool) (newer version : ℕ) (versions : List ℕ) → Contains versions version →
    Contains (if test then newer ∷ versions else versions) version
still_published true newer version versions there = contains_later newer versions version there
still_published false newer version versions there = there

published_after : (opening : SessionState) (before : World) (step : Step) (after : World) (version : ℕ) →
    Happens opening before step after → Contains before.published version → Contains after.published version
published_after opening before step after version happens there =
    let adds = step_adds opening before step after happens in
    subst (λ versions. Contains versions version) (sym adds.published)
    (still_published (nat_lt (length before.journal) (length (before.journal ++ adds.more)))
    (length (before.journal ++ adds.more)) version before.published there)

pub stays_published : (opening : SessionState) (later earlier : List Moment) (version : ℕ) →
    IsHistory opening (later ++ earlier) → Contains (now earlier).published version →
    Contains (now (later ++ earlier)).published version
stays_published opening [] earlier version is there = there
stays_published opening (moment ∷ later) earlier version (happens, is) there =
    published_after opening (now (later ++ earlier)) moment.step moment.after version happens
    (stays_published opening later earlier version is there)

newest_by : (before after : World) (adds : Adds before after) →
    Contains before.published (length before.journal) → Contains after.published (length after.journal)
newest_by before after adds there =
    elim adds.step [
      | inl none ↦
          let same : after.journal ≡ before.journal =
          adds.journal ∙ (ap (λ (l : List Entry). before.journal ++ l) none ∙ append-nil before.journal) in
          subst (λ (l : List Entry). Contains after.published (length l)) (sym same)
          (subst (λ versions. Contains versions (length before.journal)) (sym adds.published)
          (still_published (nat_lt (length before.journal) (length (before.journal ++ adds.more)))
          (length (before.journal ++ adds.more)) (length before.journal) before.published there))
      | inr one ↦
          let long : length before.journal + length adds.more ≡ length after.journal =
          omega (arith, ap length adds.journal, length-append before.journal adds.more) in
          subst (λ versions. Contains versions (length after.journal))
          (sym (adds.published ∙ version_more before adds.more one.some))
          (subst (Contains ((length before.journal + length adds.more) ∷ before.published)) long
          (contains_first (length before.journal + length adds.more) before.published))
    ]

-- the version of the whole journal is published
pub newest_published : (opening : SessionState) (history : List Moment) → IsHistory opening history →
    Contains (now history).published (length (now history).journal)
newest_published opening [] is = contains_first 0 []
newest_published opening (moment ∷ earlier) (happens, is) =
    newest_by (now earlier) moment.after (step_adds opening (now earlier) moment.step moment.after happens)
    (newest_published opening earlier is)
