-- A run, and behind it the steps of a later one.
use Rattle.std.proofs.Common.{
  ◌≡◌,
  inl,
  inr,
  ℕ,
  ◌+◌,
  ◌-◌,
  ◌≤◌,
  max,
  Bool,
  true,
  false,
  nat_lt,
  nat_eq,
  List,
  [],
  ◌∷◌,
  ◌++◌,
  length,
  drop,
  refl,
  sym,
  ◌∙◌,
  ap,
  subst,
  arith,
  append_assoc,
}
use Rattle.std.specs.Prelude.{All, if◌then◌else◌}
use Rattle.std.proofs.lemmas.Bool.Decides.{nat_tests}
use Rattle.std.proofs.lemmas.List.{map-append}
use Rattle.std.proofs.lemmas.List.Elements.{Contains-append_right}
use Rattle.session_state.specs.SessionState.{SessionState}
use Rattle.session_commands.specs.declared.entry.Entry.{Entry}
use Rattle.session_book.specs.Journal.{Follow}
use Rattle.session_queries.specs.declared.reply.Reply.{Reply}
use Rattle.history.specs.Prefixes.{entries_of}
use Rattle.published_view.specs.History.{IsGivenIn}
use Rattle.published_view.specs.World.{
  World,
  Reading,
  Step,
  Submit,
  Solve,
  Learn,
  Read,
  Moment,
  Happens,
  IsHistory,
  now,
  with_seen,
}
use Rattle.continued_history.specs.Publications.{
  AreOfOneStep,
  as_publication,
  publications_of,
  versions_of,
  MayBeEntered,
}
use Rattle.continued_history.specs.Restart.{
  NoneFrom,
  IsLeft,
  IsRestart,
  IsFoundAs,
  later_reading,
  later_step,
  beside,
  later_moments,
  IsOfBoth,
}
use Rattle.continued_history.proofs.PublicationLemmas.{entries_of_more, tell, enterable}
use Rattle.continued_history.proofs.EntryLemmas.{follow_parts, enter_behind}

-- ---- what the start found, as a history

-- all of a list with one more behind it
last_of_all : (P : List Entry → Type 0) (publications : List (List Entry)) (more : List Entry) →
    All P (publications ++ more ∷ []) → P more
last_of_all P publications more all =
    let there = Contains-append_right publications (more ∷ []) more (0, omega arith, refl) in
    subst P there.2 (all there.0 more there.1)

-- a run as it was found: a history with the publications that were found, of which its displays had seen no more
pub record EndedAs (opening : SessionState) (run : List Moment) (found : List (List Entry)) : Type 0 where
  pub ended : List Moment
  pub found_as : IsFoundAs run ended
  pub is : IsHistory opening ended
  pub published : publications_of ended ≡ found
  pub seen : (display : ℕ) → (now ended).seen display ≡ (now run).seen display

pub ended_as : (opening : SessionState) (run : List Moment) (found : List (List Entry)) → IsHistory opening run →
    IsLeft (publications_of run) found → MayBeEntered opening found → EndedAs opening run found
ended_as opening run found is (inl same) may = record {
  ended = run;
  found_as = inl refl;
  is = is;
  published = sym same;
  seen = λ display. refl;
}
ended_as opening run found is (inr (more, one_more)) may =
    let entries : entries_of found ≡ (now run).journal ++ more =
    ap entries_of one_more ∙ (entries_of_more (publications_of run) more
    ∙ ap (λ (l : List Entry). l ++ more) (tell opening run is).entries) in
    let follow : Follow opening (now run).journal more =
    (follow_parts opening [] (now run).journal more (subst (Follow opening []) entries may.accepted)).1 in
    let one : AreOfOneStep more =
    last_of_all AreOfOneStep (publications_of run) more (subst (All AreOfOneStep) one_more may.steps) in
    let entered = enter_behind opening run more one follow in
    record {
      ended = entered.moment ∷ run;
      found_as = inr (entered.moment, entered.enters, refl);
      is = (entered.happens, is);
      published = entered.published ∙ sym one_more;
      seen = λ display. ap (λ (world : World). world.seen display) entered.after;
    }

-- ---- steps of the later run, beside what displays of the earlier one have seen

choose : (low same same_too : Bool) (a v b : ℕ) → (low ≡ true → same_too ≡ false) → (low ≡ false → same ≡ same_too) →
    (if low then a else (if same then v else b)) ≡ (if same_too then v else (if low then a else b))
choose true same same_too a v b one two = ap (λ e. if e then v else a) (sym (one refl))
choose false same same_too a v b one two = ap (λ e. if e then v else b) (two refl)

choose_later : (low : Bool) (a b c : ℕ) → low ≡ false → b ≡ c → (if low then a else b) ≡ c
choose_later low a b c is same = ap (λ l. if l then a else b) is ∙ same

choose_ended : (low : Bool) (a b : ℕ) → (low ≡ false → b ≡ a) → (if low then a else b) ≡ a
choose_ended true a b same = refl
choose_ended false a b same = same refl

low_other : (other displays display : ℕ) → nat_lt other displays ≡ true → nat_eq other (displays + display) ≡ false
low_other other displays display low = grind (arith, nat_tests)

high_same : (other displays display : ℕ) → nat_lt other displays ≡ false →
    nat_eq (other - displays) display ≡ nat_eq other (displays + display)
high_same other displays display high = grind (arith, nat_tests)

module _ (displays : ℕ) (ended : World) where
  -- what a display of the later run has seen
  seen_later : (world : World) (display : ℕ) →
      (beside displays ended world).seen (displays + display) ≡ world.seen display
  seen_later world display =
      let high : nat_lt (displays + display) displays ≡ false = grind (arith, nat_tests) in
      let own : displays + display - displays ≡ display = omega arith in
      choose_later (nat_lt (displays + display) displays) (ended.seen (displays + display))
      (world.seen (displays + display - displays)) (world.seen display) high (ap world.seen own)

  seen_with : (world : World) (display version other : ℕ) →
      (beside displays ended (with_seen world display version)).seen other
      ≡ (with_seen (beside displays ended world) (displays + display) version).seen other
  seen_with world display version other =
      choose (nat_lt other displays) (nat_eq (other - displays) display) (nat_eq other (displays + display))
      (ended.seen other) version (world.seen (other - displays))
      (low_other other displays display) (high_same other displays display)

  beside_with_seen : (world : World) (display version : ℕ) → beside displays ended (with_seen world display version)
      ≡ with_seen (beside displays ended world) (displays + display) version
  beside_with_seen world display version = λ i. record {
    journal = world.journal;
    published = world.published;
    seen = λ other. seen_with world display version other i;
  }

  -- a step of the later run is one in the history of both
  step_goes_on : (opening : SessionState) (before after : World) (step : Step) → Happens opening before step after →
      Happens opening (beside displays ended before) (later_step displays step) (beside displays ended after)
  step_goes_on opening before after (Submit actor batch) happens = record {
    stopped = happens.stopped;
    progress = happens.progress;
    ran = happens.ran;
    leaves = ap (beside displays ended) happens.leaves;
  }
  step_goes_on opening before after (Solve command) happens = record {
    answer = happens.answer;
    journal = happens.journal;
    tried = happens.tried;
    leaves = ap (beside displays ended) happens.leaves;
  }
  step_goes_on opening before after (Learn display version) happens = record {
    published = happens.published;
    leaves = ap (beside displays ended) happens.leaves
        ∙ (beside_with_seen before display (max (before.seen display) version)
        ∙ ap (λ seen. with_seen (beside displays ended before) (displays + display) (max seen version))
        (sym (seen_later before display)));
  }
  step_goes_on opening before after (Read reading) happens = record {
    published = happens.published;
    not_older = subst (λ seen. seen ≤ reading.version) (sym (seen_later before reading.display)) happens.not_older;
    reply = happens.reply;
    leaves = ap (beside displays ended) happens.leaves
        ∙ beside_with_seen before reading.display reading.version;
  }

  -- where the later run begins
  beside_begins : (start : World) → NoneFrom displays ended → NoneFrom 0 start → start.journal ≡ ended.journal →
      start.published ≡ ended.published → beside displays ended start ≡ ended
  beside_begins start none unseen journal published = λ i. record {
    journal = journal i;
    published = published i;
    seen = λ display. begins display i;
  }
    where
      begins : (display : ℕ) → (beside displays ended start).seen display ≡ ended.seen display
      begins display = choose_ended (nat_lt display displays) (ended.seen display) (start.seen (display - displays))
          (λ high. unseen (display - displays) (omega arith) ∙ sym (none display (grind (arith, nat_tests))))

-- ---- both runs

module _ (opening : SessionState) (displays : ℕ) (ended again : List Moment) (is : IsHistory opening ended)
    (begins : beside displays (now ended) (now again) ≡ now ended) where
  -- what the session is after both is what it is in the later one
  pub now_both : (later : List Moment) → now (later_moments displays (now ended) later ++ ended)
      ≡ beside displays (now ended) (now (later ++ again))
  now_both [] = sym begins
  now_both (moment ∷ later) = refl

  -- and so are the publications
  pub publications_both : publications_of ended ≡ publications_of again → (later : List Moment) →
      publications_of (later_moments displays (now ended) later ++ ended) ≡ publications_of (later ++ again)
  publications_both same [] = same
  publications_both same (moment ∷ later) =
      ap (λ publications. publications ++ as_publication
      (drop (length (now (later_moments displays (now ended) later ++ ended)).journal) moment.after.journal))
      (publications_both same later)
      ∙ ap (λ (world : World). publications_of (later ++ again)
      ++ as_publication (drop (length world.journal) moment.after.journal)) (now_both later)

  pub goes_on : (later : List Moment) → IsHistory opening (later ++ again) →
      IsHistory opening (later_moments displays (now ended) later ++ ended)
  goes_on [] history = is
  goes_on (moment ∷ later) (happens, history) = (
    subst (λ world. Happens opening world (later_step displays moment.step)
        (beside displays (now ended) moment.after)) (sym (now_both later))
        (step_goes_on displays (now ended) opening (now (later ++ again)) moment.after moment.step happens),
    goes_on later history,
  )

-- ---- replies

-- what is given in a run is given in one that begins with it
pub given_in_more : (more run : List Moment) (reading : Reading) (reply : Reply) → IsGivenIn run reading reply →
    IsGivenIn (more ++ run) reading reply
given_in_more more run reading reply given = record {
  earlier = given.earlier;
  after = given.after;
  later = more ++ given.later;
  split = ap (λ (moments : List Moment). more ++ moments) given.split
      ∙ sym (append_assoc more given.later (record { step = Read reading; after = given.after } ∷ given.earlier));
  given = given.given;
}

-- what is given since some moments is given in the whole history
pub given_since : (later again : List Moment) (reading : Reading) (reply : Reply) → IsGivenIn later reading reply →
    IsGivenIn (later ++ again) reading reply
given_since later again reading reply given = record {
  earlier = given.earlier ++ again;
  after = given.after;
  later = given.later;
  split = ap (λ (moments : List Moment). moments ++ again) given.split
      ∙ append_assoc given.later (record { step = Read reading; after = given.after } ∷ given.earlier) again;
  given = given.given;
}

-- what is given in the later run is given by its display's number in both
pub given_later : (displays : ℕ) (ended : World) (later : List Moment) (reading : Reading) (reply : Reply) →
    IsGivenIn later reading reply →
    IsGivenIn (later_moments displays ended later) (later_reading displays reading) reply
given_later displays ended later reading reply given = record {
  earlier = later_moments displays ended given.earlier;
  after = beside displays ended given.after;
  later = later_moments displays ended given.later;
  split = ap (later_moments displays ended) given.split
      ∙ map-append (λ (moment : Moment). record {
        step = later_step displays moment.step;
        after = beside displays ended moment.after;
      }) given.later (record { step = Read reading; after = given.after } ∷ given.earlier);
  given = given.given;
}

-- what was given in a run is given in it as it was found
pub given_as_found : (run ended : List Moment) (reading : Reading) (reply : Reply) → IsFoundAs run ended →
    IsGivenIn run reading reply → IsGivenIn ended reading reply
given_as_found run ended reading reply (inl same) given =
    subst (λ moments. IsGivenIn moments reading reply) (sym same) given
given_as_found run ended reading reply (inr (moment, enters, one_more)) given =
    subst (λ moments. IsGivenIn moments reading reply) (sym one_more)
    (given_in_more (moment ∷ []) run reading reply given)

-- ---- a restart

module _ (opening : SessionState) where
  pub history_before : (later earlier : List Moment) → IsHistory opening (later ++ earlier) → IsHistory opening earlier
  history_before [] earlier is = is
  history_before (moment ∷ later) earlier is = history_before later earlier is.1

module _ (opening : SessionState) (run later : List Moment) (restart : IsRestart opening run later) where
  was_again : IsHistory opening restart.again
  was_again = history_before opening later restart.again restart.goes_on

  pub ended_in : EndedAs opening run (publications_of restart.again)
  ended_in = ended_as opening run (publications_of restart.again) restart.happened restart.found
      (enterable opening restart.again was_again)

  abbrev ended : List Moment
  ended = ended_in.ended

  -- the start entered again what the run, as it was found, had come to
  same_journal : (now restart.again).journal ≡ (now ended).journal
  same_journal = sym (tell opening restart.again was_again).entries
      ∙ (ap entries_of (sym ended_in.published) ∙ (tell opening ended ended_in.is).entries)

  same_published : (now restart.again).published ≡ (now ended).published
  same_published = (tell opening restart.again was_again).versions
      ∙ (ap versions_of (sym ended_in.published) ∙ sym (tell opening ended ended_in.is).versions)

  begins : beside restart.displays (now ended) (now restart.again) ≡ now ended
  begins = beside_begins restart.displays (now ended) (now restart.again)
      (λ display high. ended_in.seen display ∙ restart.none display high) restart.unseen same_journal same_published

  abbrev pub both : List Moment
  both = later_moments restart.displays (now ended) later ++ ended

  pub both_now : now both ≡ beside restart.displays (now ended) (now (later ++ restart.again))
  both_now = now_both opening restart.displays ended restart.again ended_in.is begins later

  -- of its displays, those of the later run stand above those of the earlier one
  pub both_seen : (display : ℕ) → restart.displays ≤ display →
      (now both).seen display ≡ (now (later ++ restart.again)).seen (display - restart.displays)
  both_seen display high =
      let above : nat_lt display restart.displays ≡ false = grind (arith, nat_tests, high) in
      ap (λ (world : World). world.seen display) both_now
      ∙ ap (λ test. if test then (now ended).seen display
      else (now (later ++ restart.again)).seen (display - restart.displays)) above

  pub both_happened : IsHistory opening both
  both_happened = goes_on opening restart.displays ended restart.again ended_in.is begins later restart.goes_on

  pub of_both : IsOfBoth restart both
  of_both = record {
    ended = ended;
    found_as = ended_in.found_as;
    both = refl;
    journal = ap (λ (world : World). world.journal) both_now;
    published = publications_both opening restart.displays ended restart.again ended_in.is begins ended_in.published
        later;
    earlier_replies = λ reading reply given.
        given_in_more (later_moments restart.displays (now ended) later) ended reading reply
        (given_as_found run ended reading reply ended_in.found_as given);
    later_replies = λ reading reply given.
        given_since (later_moments restart.displays (now ended) later) ended
        (later_reading restart.displays reading) reply
        (given_later restart.displays (now ended) later reading reply given);
  }

  pub later_goes_on : (history : List Moment) × IsHistory opening history × IsOfBoth restart history
  later_goes_on = (both, both_happened, of_both)
