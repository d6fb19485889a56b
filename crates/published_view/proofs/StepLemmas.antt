-- What one step leaves of a session: its journal only grows and stays accepted, and what displays have seen was
-- published.
use Rattle.std.proofs.Common.{
  ◌≡◌,
  ℕ,
  ◌≤◌,
  ◌⊎◌,
  Bool,
  true,
  false,
  max,
  nat_lt,
  nat_eq,
  List,
  [],
  ◌∷◌,
  ◌++◌,
  length,
  Contains,
  refl,
  sym,
  ap,
  subst,
  ◌∙◌,
  inl,
  inr,
  append_assoc,
  arith,
}
use Rattle.std.specs.Prelude.{Option, Some, None, if◌then◌else◌}
use Rattle.std.specs.List.{fold}
use Rattle.std.proofs.lemmas.Bool.{cases_eq}
use Rattle.std.proofs.lemmas.List.{length-append}
use Rattle.session_state.specs.SessionState.{SessionState}
use Rattle.session_commands.specs.declared.actor.Actor.TheVariants.{User, Solver}
use Rattle.session_commands.specs.declared.command.Command.{Command}
use Rattle.session_commands.specs.declared.entry.Entry.{Entry}
use Rattle.session_commands.specs.declared.refusal.Refusal.{Refusal}
use Rattle.session_book.specs.declared.answer.Answer.{Answer}
use Rattle.session_book.specs.declared.answer.Answer.TheVariants.{Accepted, Refused}
use Rattle.session_book.specs.Journal.{IsAccepted, refusal_after}
use Rattle.session_book.specs.Run.{Progress, answered, after_command, run, Runs, IsTried}
use Rattle.session_book.proofs.JournalLemmas.{accepted_more}
use Rattle.published_view.proofs.ElementLemmas.{contains_first, contains_later, contains_cases}
use Rattle.published_view.specs.World.{
  World,
  with_journal,
  with_seen,
  book_with,
  Step,
  Submit,
  Solve,
  Learn,
  Read,
  Happens,
}

-- a list with others after it
abbrev pub Extends : List Entry → List Entry → Type 0
Extends before after = (more : List Entry) × (after ≡ before ++ more)

nothing_more : (xs : List Entry) → xs ≡ xs ++ []
nothing_more [] = refl
nothing_more (x ∷ xs) = ap (λ ys. x ∷ ys) (nothing_more xs)

pub same_extends : (before : List Entry) → Extends before before
same_extends before = ([], nothing_more before)

pub more_extends : (before middle after : List Entry) → Extends before middle → Extends middle after →
    Extends before after
more_extends before middle after first second =
    (first.0 ++ second.0, second.1 ∙ (ap (λ es. es ++ second.0) first.1 ∙ append_assoc before first.0 second.0))

-- a journal after commands that were answered: a longer one, accepted where the one before is
record Goes (opening : SessionState) (before after : List Entry) : Type 0 where
  more : Extends before after
  accepted : IsAccepted opening before → IsAccepted opening after

goes_nowhere : (opening : SessionState) (before : List Entry) → Goes opening before before
goes_nowhere opening before = record { more = same_extends before; accepted = λ accepted. accepted }

goes_on : (opening : SessionState) (before middle after : List Entry) → Goes opening before middle →
    Goes opening middle after → Goes opening before after
goes_on opening before middle after first second = record {
  more = more_extends before middle after first.more second.more;
  accepted = λ accepted. second.accepted (first.accepted accepted);
}

goes_with : (opening : SessionState) (before : List Entry) (entry : Entry) → refusal_after opening before entry.actor
    entry.command ≡ None → Goes opening before (before ++ entry ∷ [])
goes_with opening before entry may = record {
  more = (entry ∷ [], refl);
  accepted = λ accepted. accepted_more opening before entry accepted may;
}

module _ (opening : SessionState) (actor : List ℕ) where
  goes_answered : (so_far : Progress) (command : Command) (found : Option Refusal) → refusal_after opening
      so_far.journal (User actor) command ≡ found →
      Goes opening so_far.journal (answered so_far actor command found).journal
  goes_answered so_far command None may = goes_with opening so_far.journal
      (record { actor = User actor; command = command }) may
  goes_answered so_far command (Some cause) refused = goes_nowhere opening so_far.journal

  goes_fold : (batch : List Command) (so_far : Progress) → Goes opening so_far.journal
      (fold (after_command opening actor) so_far batch).journal
  goes_fold [] so_far = goes_nowhere opening so_far.journal
  goes_fold (command ∷ batch) so_far =
      goes_on opening so_far.journal (after_command opening actor so_far command).journal
      (fold (after_command opening actor) (after_command opening actor so_far command) batch).journal
      (goes_answered so_far command (refusal_after opening so_far.journal (User actor) command) refl)
      (goes_fold batch (after_command opening actor so_far command))

  goes_run : (before : List Entry) (batch : List Command) → Goes opening before (run opening before actor batch).journal
  unfolding run
  goes_run before batch = goes_fold batch (record { journal = before; answers = [] })

  goes_runs : (stopped : Bool) (before : List Entry) (batch : List Command) (after : Progress) → Runs stopped opening
      before actor batch after → Goes opening before after.journal
  goes_runs false before batch after ran = subst (λ (p : Progress). Goes opening before p.journal) (sym ran)
      (goes_run before batch)
  goes_runs true before batch after ran = subst (Goes opening before) (sym ran.journal) (goes_run before ran.tried)

goes_tried : (opening : SessionState) (before after : List Entry) (command : Command) (answer : Answer) →
    IsTried (book_with opening before) Solver command answer (book_with opening after) → Goes opening before after
goes_tried opening before after command Accepted tried =
    subst (Goes opening before) (sym tried.1) (goes_with opening before (record { actor = Solver; command = command })
    tried.0)
goes_tried opening before after command (Refused cause) tried = subst (Goes opening before) (sym tried.1)
    (goes_nowhere opening before)

-- what a step leaves
pub record Leaves (opening : SessionState) (before after : World) : Type 0 where
  pub more : Extends before.journal after.journal
  pub accepted : IsAccepted opening before.journal → IsAccepted opening after.journal
  pub published : (version : ℕ) → Contains after.published version → Contains before.published version ⊎
      (version ≡ length after.journal)
  pub newest : Contains before.published (length before.journal) → Contains after.published (length after.journal)
  pub seen : ((display : ℕ) → Contains before.published (before.seen display)) → (display : ℕ) →
      Contains after.published (after.seen display)

module _ (opening : SessionState) (before : World) where
  -- versions that are published with one more, if something is new
  either_published : (b : Bool) (n version : ℕ) → Contains (if b then n ∷ before.published else before.published)
      version →
      Contains before.published version ⊎ (version ≡ n)
  either_published true n version there =
      elim (contains_cases n before.published version there) [
        | inl is ↦ inr (sym is)
        | inr old ↦ inl old
      ]
  either_published false n version there = inl there

  still_published : (b : Bool) (n version : ℕ) → Contains before.published version →
      Contains (if b then n ∷ before.published else before.published) version
  still_published true n version there = contains_later n before.published version there
  still_published false n version there = there

  newest_published : (b : Bool) (n : ℕ) → nat_lt (length before.journal) n ≡ b → length before.journal ≤ n →
      Contains before.published (length before.journal) →
      Contains (if b then n ∷ before.published else before.published) n
  newest_published true n is within there = contains_first n before.published
  newest_published false n is within there =
      let same : length before.journal ≡ n = grind (arith, is, within) in
      subst (Contains before.published) same there

  leaves_journal : (journal : List Entry) → Goes opening before.journal journal → Leaves opening before
      (with_journal before journal)
  leaves_journal journal goes =
      let within : length before.journal ≤ length journal =
      omega (arith, ap length goes.more.1, length-append before.journal goes.more.0) in
      record {
        more = goes.more;
        accepted = goes.accepted;
        published = either_published (nat_lt (length before.journal) (length journal)) (length journal);
        newest = newest_published (nat_lt (length before.journal) (length journal)) (length journal) refl within;
        seen = λ all display. still_published (nat_lt (length before.journal) (length journal)) (length journal)
            (before.seen display) (all display);
      }

  seen_cases : (b : Bool) (version : ℕ) (other : ℕ) → Contains before.published version → Contains before.published
      other → Contains before.published (if b then version else other)
  seen_cases true version other there still = there
  seen_cases false version other there still = still

  leaves_seen : (display version : ℕ) → (((other : ℕ) → Contains before.published (before.seen other)) →
      Contains before.published version) →
      Leaves opening before (with_seen before display version)
  leaves_seen display version there = record {
    more = same_extends before.journal;
    accepted = λ accepted. accepted;
    published = λ other at. inl at;
    newest = λ at. at;
    seen = λ all other. seen_cases (nat_eq other display) version (before.seen other) (there all) (all other);
  }

  newer : (a b : ℕ) → Contains before.published a → Contains before.published b → Contains before.published (max a b)
  newer a b at_a at_b =
      elim (cases_eq (max a b) a) [
        | inl is ↦ subst (Contains before.published) (sym is) at_a
        | inr other ↦ subst (Contains before.published) (omega (arith, other)) at_b
      ]

  pub step_leaves : (step : Step) (after : World) → Happens opening before step after → Leaves opening before after
  step_leaves (Submit actor batch) after happens =
      subst (Leaves opening before) (sym happens.leaves)
      (leaves_journal happens.progress.journal (goes_runs opening actor happens.stopped before.journal batch
      happens.progress happens.ran))
  step_leaves (Solve command) after happens =
      subst (Leaves opening before) (sym happens.leaves)
      (leaves_journal happens.journal (goes_tried opening before.journal happens.journal command happens.answer
      happens.tried))
  step_leaves (Learn display version) after happens =
      subst (Leaves opening before) (sym happens.leaves)
      (leaves_seen display (max (before.seen display) version) (λ all. newer (before.seen display) version (all display)
      happens.published))
  step_leaves (Read reading) after happens =
      subst (Leaves opening before) (sym happens.leaves) (leaves_seen reading.display reading.version
      (λ all. happens.published))
