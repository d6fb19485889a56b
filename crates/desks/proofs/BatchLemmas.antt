-- What a batch publishes.
use Rattle.std.proofs.Common.{
  ◌≡◌,
  ◌⊎◌,
  ℕ,
  Bool,
  false,
  ◌+◌,
  ◌<◌,
  List,
  [],
  ◌∷◌,
  ◌++◌,
  append-nil,
  length-append,
  length,
  ap,
  sym,
  subst,
  ◌∙◌,
  arith,
  take,
}
use Rattle.std.proofs.lemmas.Bool.Decides.{nat_tests}
use Rattle.std.proofs.Math.Seq.{take-append_seam}
use Rattle.session_commands.specs.declared.entry.Entry.{Entry}
use Rattle.std.specs.Prelude.{Some, None, ◌||◌}
use Rattle.session_state.specs.SessionState.{SessionState}
use Rattle.session_commands.specs.declared.actor.Actor.TheVariants.{User}
use Rattle.session_commands.specs.declared.command.Command.{Command}
use Rattle.session_commands.specs.declared.refusal.Refusal.{Refusal}
use Rattle.session_commands.specs.declared.refusal.Refusal.TheVariants.{OutOfMemory}
use Rattle.session_book.specs.declared.answer.Answer.{Answer}
use Rattle.session_book.specs.declared.answer.Answer.TheVariants.{Accepted, Refused}
use Rattle.session_book.specs.Journal.{Ledger, refusal_at}
use Rattle.session_book.specs.Run.{Runs, IsTried, stops, first_number, last_number}
use Rattle.published_view.specs.World.{book_with}
use Rattle.session_commands.specs.declared.actor.Actor.{Actor}
use Rattle.session_book.proofs.RunLemmas.{runs_accepted, runs_refused}
use Rattle.history.specs.Prefixes.{entries_of}
use Rattle.displays.proofs.PublishingLemmas.{entries_of_more}
use Rattle.displays.specs.Publishing.{Outgoing}
use Rattle.desks.specs.Batch.{with_publication, after_showing, only_published}

pub entries_of_with_publication : (bs : List (List Entry)) (more : List Entry) → entries_of (with_publication bs more) ≡
    entries_of bs ++ more
entries_of_with_publication bs [] = sym (append-nil (entries_of bs))
entries_of_with_publication bs (e ∷ es) = entries_of_more bs (e ∷ es)

-- once what is pending is published, the entries of what is published are the journal, and nothing is pending
pub shows_journal : (before after : Outgoing) (journal : List Entry) → after ≡ after_showing before →
    journal ≡ entries_of before.published ++ before.pending →
    (entries_of after.published ≡ journal) × (after.pending ≡ [])
shows_journal before after journal line is = (
  ap (λ (l : Outgoing). entries_of l.published) line
      ∙ (entries_of_with_publication before.published before.pending ∙ sym is),
  ap (λ (l : Outgoing). l.pending) line,
)

-- once it is dropped, all is as before, and so is the book that was taken back
pub drops_pending : (old before after : Outgoing) → before.published ≡ old.published → old.pending ≡ [] →
    after ≡ only_published before → after ≡ old
drops_pending old before after same none is = is ∙ (λ i. record { published = same i; pending = sym none i })

-- a book and a publisher of one entry more
pub one_entered : (old appended : Outgoing) (entry : Entry) (before checked after : List Entry) →
    entries_of old.published ≡ before → old.pending ≡ [] →
    appended ≡ record { published = old.published; pending = old.pending ++ entry ∷ [] } → checked ≡ before →
    after ≡ checked ++ entry ∷ [] → after ≡ entries_of appended.published ++ appended.pending
one_entered old appended entry before checked after all none is same more =
    more ∙ (ap (λ (l : List Entry). l ++ entry ∷ []) (same ∙ sym all)
    ∙ (sym (ap (λ (l : List Entry). entries_of old.published ++ (l ++ entry ∷ [])) none)
    ∙ sym (ap (λ (o : Outgoing). entries_of o.published ++ o.pending) is)))

pub goes_back : (old : Outgoing) (before : Outgoing) (journal now back : List Entry) (version : ℕ) →
    entries_of old.published ≡ journal → before.published ≡ old.published →
    now ≡ entries_of before.published ++ before.pending → version ≡ length journal → back ≡ take version now →
    back ≡ journal
goes_back old before journal now back version all same is count taken =
    let whole : now ≡ journal ++ before.pending =
    is ∙ ap (λ (l : List Entry). l ++ before.pending) (ap (λ (l : List (List Entry)). entries_of l) same ∙ all) in
    taken ∙ (ap (λ (n : ℕ). take n now) count ∙ (ap (λ (l : List Entry). take (length journal) l) whole
    ∙ take-append_seam journal before.pending))

-- the numbers of a publication that is not empty
pub first_grown : (m n : ℕ) → m < n → first_number m n ≡ m + 1
first_grown m n less = grind (arith, nat_tests)

pub last_grown : (m n : ℕ) → m < n → last_number m n ≡ n
last_grown m n less = grind (arith, nat_tests)

pub entries_of_grows : (bs : List (List Entry)) (more : List Entry) → 0 < length more → length (entries_of bs) < length
    (entries_of (bs ++ more ∷ []))
entries_of_grows bs more some = omega (
  arith,
  ap (λ (l : List Entry). length l) (entries_of_more bs more),
  length-append
      (entries_of bs) more,
  some,
)

-- what the book's answer to one command makes of a batch, in a session that opened so
module _ (opening : SessionState) (book : Ledger) (before : List Entry) (actor : List ℕ) (tried : List Command)
    (command : Command) (answers : List Answer) (stopped : Bool) where
  pub accepted_here : (after : List Entry) → book.opening ≡ opening → stopped ≡ false → refusal_at book (User actor)
      command ≡ None →
      after ≡ book.journal ++ record { actor = User actor; command = command } ∷ [] →
      Runs stopped opening before actor tried (record { journal = book.journal; answers = answers }) →
      Runs (stopped || stops None) opening before actor (tried ++ command ∷ [])
      (record { journal = after; answers = answers ++ Accepted ∷ [] })
  accepted_here after opened goes_on accepted more ran =
      runs_accepted opening before actor tried command book.journal answers stopped after goes_on
      (subst (λ (o : SessionState). refusal_at (record { opening = o; journal = book.journal; spare = book.spare })
      (User actor) command ≡ None) opened accepted) more ran

  pub refused_here : (after : List Entry) (cause : Refusal) → book.opening ≡ opening → stopped ≡ false →
      after ≡ book.journal →
      (refusal_at book (User actor) command ≡ Some cause) ⊎
      ((cause ≡ OutOfMemory) × (refusal_at book (User actor) command ≡ None)) →
      Runs stopped opening before actor tried (record { journal = book.journal; answers = answers }) →
      Runs (stopped || stops (Some cause)) opening before actor (tried ++ command ∷ [])
      (record { journal = after; answers = answers ++ Refused cause ∷ [] })
  refused_here after cause opened goes_on same err ran =
      runs_refused opening before actor tried command book.journal answers stopped after cause goes_on same
      (subst (λ (o : SessionState). (refusal_at (record { opening = o; journal = book.journal; spare = book.spare })
      (User actor) command ≡ Some cause) ⊎
      ((cause ≡ OutOfMemory) × (refusal_at (record { opening = o; journal = book.journal; spare = book.spare })
      (User actor) command ≡ None))) opened err) ran

-- what a book is told, by its opening and its journal alone
pub tried_so : (before after : Ledger) (actor : Actor) (command : Command) (answer : Answer) (opening : SessionState)
    (journal : List Entry) → before.opening ≡ opening → after.journal ≡ journal →
    IsTried before actor command answer after → IsTried (book_with opening before.journal) actor command answer
    (book_with opening journal)
tried_so before after actor command Accepted opening journal opened same tried = (
  subst (λ (o : SessionState). refusal_at (book_with o before.journal) actor command ≡ None) opened tried.0,
  sym same
      ∙ tried.1,
)
tried_so before after actor command (Refused cause) opening journal opened same tried = (
  subst (λ (o : SessionState). (refusal_at (book_with o before.journal) actor command ≡ Some cause) ⊎
      ((cause ≡ OutOfMemory) × (refusal_at (book_with o before.journal) actor command ≡ None))) opened tried.0,
  sym same ∙ tried.1,
)
