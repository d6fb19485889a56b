-- A journal only grows, and a view follows it entry by entry.
use Rattle.std.proofs.Common.{
  ◌≡◌,
  ℕ,
  zero,
  suc,
  ◌+◌,
  ◌≤◌,
  ◌<◌,
  Bool,
  true,
  false,
  List,
  [],
  ◌∷◌,
  ◌++◌,
  take,
  length,
  slice_get,
  refl,
  sym,
  ap,
  subst,
  ◌∙◌,
  append_assoc,
  arith,
}
use Rattle.std.specs.Prelude.{Option, Some, None, min}
use Rattle.std.specs.List.{fold}
use Rattle.std.proofs.Math.Seq.{take-append_seam, take-suc}
use Rattle.std.proofs.lemmas.List.{length-append}
use Rattle.std.proofs.lemmas.Option.{slice_get_within, get_or_from_slice_get}
use Rattle.session_commands.specs.declared.actor.Actor.TheVariants.{User}
use Rattle.session_commands.specs.declared.command.Command.{Command}
use Rattle.session_commands.specs.declared.entry.Entry.{Entry}
use Rattle.session_commands.specs.declared.refusal.Refusal.{Refusal}
use Rattle.session_state.specs.SessionState.{SessionState}
use Rattle.session_book.specs.Journal.{Ledger, entry_of, refusal_after, IsAccepted}
use Rattle.session_book.specs.Run.{Progress, answered, after_command, run, Runs, IsTried}
use Rattle.session_book.specs.declared.answer.Answer.{Answer}
use Rattle.session_book.specs.declared.answer.Answer.TheVariants.{Accepted, Refused}
use Rattle.session_commands.specs.declared.actor.Actor.{Actor}
use Rattle.session_book.specs.Replay.{replay}
use Rattle.session_book.proofs.JournalLemmas.{replayed_more, accepted_length}
use Rattle.session_state.specs.Apply.{apply}
use Rattle.session_state.specs.Refusal.{most_entries}
use Rattle.published_view.specs.View.{Seen, StandsFor, seen_after, most_versions, version_of}
use Rattle.session_keeper.specs.PlainKeeping.{IsBehind}

-- a list with others after it
abbrev pub Extends : List Entry → List Entry → Type 0
Extends before after = (more : List Entry) × (after ≡ before ++ more)

same_extends : (before : List Entry) → Extends before before
same_extends [] = ([], refl)
same_extends (entry ∷ entries) =
    let rest = same_extends entries in (rest.0, ap (λ es. entry ∷ es) rest.1)

more_extends : (before middle after : List Entry) → Extends before middle → Extends middle after → Extends before after
more_extends before middle after first then =
    (first.0 ++ then.0, then.1 ∙ ap (λ es. es ++ then.0) first.1 ∙ append_assoc before first.0 then.0)

answered_extends : (so_far : Progress) (actor : List ℕ) (command : Command) (found : Option Refusal) →
    Extends so_far.journal (answered so_far actor command found).journal
answered_extends so_far actor command None = (record { actor = User actor; command = command } ∷ [], refl)
answered_extends so_far actor command (Some cause) = same_extends so_far.journal

fold_extends : (opening : SessionState) (actor : List ℕ) (batch : List Command) (so_far : Progress) →
    Extends so_far.journal (fold (after_command opening actor) so_far batch).journal
fold_extends opening actor [] so_far = same_extends so_far.journal
fold_extends opening actor (command ∷ batch) so_far =
    more_extends so_far.journal (after_command opening actor so_far command).journal
    (fold (after_command opening actor) (after_command opening actor so_far command) batch).journal
    (answered_extends so_far actor command (refusal_after opening so_far.journal (User actor) command))
    (fold_extends opening actor batch (after_command opening actor so_far command))

run_extends : (opening : SessionState) (before : List Entry) (actor : List ℕ) (batch : List Command) →
    Extends before (run opening before actor batch).journal
unfolding run
run_extends opening before actor batch = fold_extends opening actor batch (record { journal = before; answers = [] })

-- a batch adds to the journal
pub runs_extend : (stopped : Bool) (opening : SessionState) (before : List Entry) (actor : List ℕ)
    (batch : List Command) (after : Progress) →
    Runs stopped opening before actor batch after → Extends before after.journal
runs_extend false opening before actor batch after ran =
    subst (λ (p : Progress). Extends before p.journal) (sym ran) (run_extends opening before actor batch)
runs_extend true opening before actor batch after ran =
    subst (Extends before) (sym ran.journal) (run_extends opening before actor ran.tried)

behind_by : (before after : List Entry) → Extends before after → (take (length before) after ≡ before) ×
    (length before ≤ length after)
behind_by before after (more, is) = (
  ap (take (length before)) is ∙ take-append_seam before more,
  omega (arith, ap length is, length-append before more),
)

-- so does what is tried by itself
pub tried_extends : (before after : Ledger) (actor : Actor) (command : Command) (answer : Answer) →
    IsTried before actor command answer after → Extends before.journal after.journal
tried_extends before after actor command Accepted tried = (record { actor = actor; command = command } ∷ [], tried.1)
tried_extends before after actor command (Refused cause) tried =
    subst (Extends before.journal) (sym tried.1) (same_extends before.journal)

-- the version of an accepted journal is how many entries it has
pub exact_version : (opening : SessionState) (journal : List Entry) → IsAccepted opening journal →
    version_of journal ≡ length journal
exact_version opening journal accepted =
    let few = accepted_length opening journal accepted in
    omega (arith, few)

-- a view of a journal has taken in the first entries of each journal that begins with it
pub behind_extends : (opening : SessionState) (before after : List Entry) (seen : Seen) → Extends before after →
    StandsFor opening before seen → IsAccepted opening before → IsBehind opening after seen
behind_extends opening before after seen extends stands accepted =
    let both = behind_by before after extends in
    let version : seen.version ≡ length before = stands.version ∙ exact_version opening before accepted in
    record {
      within = subst (λ n. n ≤ length after) (sym version) both.1;
      state = stands.state ∙ ap (replay opening) (sym both.0 ∙ ap (λ n. take n after) (sym version));
    }

take_more : (journal : List Entry) (number : ℕ) (entry : Entry) → slice_get journal number ≡ Some entry →
    take (number + 1) journal ≡ take number journal ++ entry ∷ []
take_more journal number entry found =
    let next : number + 1 ≡ suc number = omega arith in
    ap (λ n. take n journal) next
    ∙ take-suc journal number entry (slice_get_within journal number entry found)
    ∙ ap (λ e. take number journal ++ e ∷ []) (get_or_from_slice_get journal number entry entry found)

-- an entry more of those that a journal has
pub one_more : (opening : SessionState) (journal : List Entry) (seen : Seen) (entry : Entry) (number : ℕ) →
    seen.version ≡ number → length journal ≤ most_entries →
    slice_get journal number ≡ Some entry → IsBehind opening journal seen → IsBehind opening journal
    (seen_after seen entry)
one_more opening journal seen entry number at few found behind =
    let below = slice_get_within journal number entry found in
    let next : min (seen.version + 1) most_versions ≡ number + 1 = omega (arith, at) in
    record {
      within = omega (arith, at);
      state =
          ap (λ s. apply s entry) behind.state
          ∙ sym (replayed_more opening (take seen.version journal) entry)
          ∙ ap (replay opening) (ap (λ n. take n journal ++ entry ∷ []) at ∙ sym (take_more journal number entry found)
          ∙ ap (λ n. take n journal) (sym next));
    }

-- the entry after so many
pub entry_after : (journal : List Entry) (number : ℕ) → entry_of journal (number + 1) ≡ slice_get journal number
entry_after journal number = let next : number + 1 ≡ suc number = omega arith in ap (entry_of journal) next

-- it is there where there are more than so many
pub entry_there : (journal : List Entry) (number : ℕ) → None ≡ slice_get journal number → ¬ (number < length journal)
entry_there [] number none more = absurd (omega (arith, more))
entry_there (entry ∷ journal) zero none more = absurd (cc)
entry_there (entry ∷ journal) (suc number) none more = entry_there journal number none (omega (arith, more))
