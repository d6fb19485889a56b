-- Why a query of the journal's fails, or an open of its files, and what is left of them.
use Rattle.std.proofs.Common.{◌≡◌, ◌⊎◌, inl, inr, ℕ, true, List, [], length, Option, None, Some, IfSome, MatchOption, IsSome, IsTrue, Ok, Err, Result, IfErr, Vec, refl, sym, ap, subst, ◌∙◌, ◌≤◌, arith}
use Rattle.sqlite_disk.specs.Disk.{MoreFaults}
use Rattle.sqlite_disk.specs.declared.Disk.{Ghosts}
use Rattle.sqlite_disk.specs.declared.Files.{Files}
use Rattle.sqlite_store.specs.Report.{named as kind_of}
use Rattle.sqlite.specs.WalReads.{tally_of_files}
use Rattle.sqlite.specs.Recovery.{Image}
use Rattle.sqlite.specs.Tree.{Trees}
use Rattle.sqlite.specs.Opening.{FailsAs}
use Rattle.sqlite.specs.Files.{image_of, faults_of, faults_left, tally_left, HoldsDatabase, IsNothing, IsFullLeft, FailsToOpenFiles}
use Rattle.sqlite.specs.declared.file.Leftover.{Leftover}
use Rattle.sqlite.specs.declared.error.Error.TheVariants.{SqliteFailure}
use Rattle.sqlite.specs.declared.error.ErrorCode.TheVariants as code
use Rattle.sqlite_trees.specs.declared.error.StoreError.{StoreError}
use Rattle.sqlite_trees.specs.declared.error.StoreError.TheVariants as store
use Rattle.sqlite_typing.specs.Types.{accepts_program}
use Rattle.sqlite_resolve.specs.declared.compiled.Compiled.{Compiled}
use Rattle.std.specs.declared.alloc.Global.{Global}
use Rattle.sqlite.specs.declared.types.Value.{Value}
use Rattle.sqlite.specs.Command.TheVariants.{Select}
use Rattle.sqlite.specs.Order.{Row}
use Rattle.sqlite.specs.Clock.{timed}
use Rattle.sqlite.specs.Effect.{Database, RefusesToRead}
use Rattle.sqlite.specs.Listing.{understood, reads_listing, IsSourceOf}
use Rattle.sqlite.specs.State.{State, Fails, HasCause, FailsToQuery, FailsToShow, IsNoStatement, IsNotRun, IsStatement, IsUnchanged, store_error}
use Rattle.sqlite.specs.declared.error.Error.{Error}
use Rattle.sqlite.proofs.Callers.{IsPlain, command_of}
use Rattle.journal_store.specs.Tables.{journal_schema}
use Rattle.journal_store.specs.Faults.{ComesOf, Excuses, HoldsNone, IsExcused, LeavesFor, fault_named, is_unopened}
use Rattle.journal_store.specs.Taken.{IsIdle}
use Rattle.journal_store.specs.declared.take_fault.TakeFault.{TakeFault}
use Rattle.journal_store.specs.declared.take_fault.TakeFault.TheVariants.{Busy, Damaged, Unread, OutOfMemory, NotAJournal, OtherSession, Misnumbered}
use Rattle.journal_store.specs.Reading.{MayBeAsked}
use Rattle.journal_store.proofs.SelectLemmas.{Asks, IsWhole, query}

more_is_some : (old new : ℕ) → MoreFaults old new → 1 ≤ new
more_is_some old new more = omega (arith, more)

-- where the store fails and nothing is too big, memory was refused or the disk has failed
pub store_excused : (old new : State) (e : Error) → IsTrue old.is_open → Fails old new ⊥ e → IsExcused new e
store_excused old new e is_open fails = (fails.0, fails.1, caused fails.0 fails.2)
  where
    caused : (cause : StoreError) → HasCause old new ⊥ cause → Excuses new cause
    caused store.OutOfMemory cause = tt
    caused store.Io cause = more_is_some old.faults new.faults cause
    caused store.Corrupt cause = more_is_some old.faults new.faults cause
    caused store.Full cause = more_is_some old.faults new.faults cause
    caused store.Broken cause = absurd cc
    caused store.Unstorable cause = cause

comes_of : (s : State) (cause : StoreError) → Excuses s cause → ComesOf s (fault_named (store_error cause))
comes_of s store.OutOfMemory excuse = tt
comes_of s store.Io excuse = excuse
comes_of s store.Corrupt excuse = excuse
comes_of s store.Full excuse = excuse
comes_of s store.Broken excuse = absurd excuse
comes_of s store.Unstorable excuse = absurd excuse

-- the same of the fault by which such an error is called
pub excused_comes_of : (s : State) (e : Error) (fault : TakeFault) → fault ≡ fault_named e → IsExcused s e → ComesOf s fault
excused_comes_of s e fault named (cause, is, excuse) =
    subst (ComesOf s) (sym (named ∙ ap fault_named is)) (comes_of s cause excuse)

-- an open connection without a limit, with the journal's schema
pub asked : (s : State) → IsIdle s → s.now.schema ≡ journal_schema → s.step_limit ≡ None → MayBeAsked s
asked s idle journal unlimited = record { is_open = idle.is_open; journal = journal; unlimited = unlimited }

-- the same, after a query that changed nothing
pub asked_again : (old new : State) → MayBeAsked old → IsUnchanged old new → new.step_limit ≡ old.step_limit → MayBeAsked new
asked_again old new may same limit = record {
  is_open = same.0.is_open;
  journal = ap (λ (d : Database). d.schema) same.0.now_is ∙ may.journal;
  unlimited = limit ∙ may.unlimited;
}

module _ (text : List ℕ) (tree : ℕ) (shown : Row → Row) (asks : Asks text tree shown) (old new : State)
    (may : MayBeAsked old) where
  is_statement : (e : Error) → IsNoStatement old text [] e → ⊥
  is_statement e (inl none) =
      let known : understood journal_schema text ≡ Err none.0 = sym (ap (λ s. understood s text) may.journal) ∙ none.1 in
      subst (IsWhole text) known asks.whole
  is_statement e (inr it) =
      let known : understood journal_schema text ≡ Ok it.0 = sym (ap (λ s. understood s text) may.journal) ∙ it.1 in
      let whole = subst (IsWhole text) known asks.whole in
      let plain = subst IsPlain known asks.plain in
      elim it.2 [
        | inl cut ↦ cut.0 whole.0
        | inr other ↦ elim other [
          | inl counted ↦ counted.0 (sym (ap length whole.1))
          | inr timed ↦ timed.0 plain.1
        ]
      ]

  -- a query of two columns' order sums nothing, and no limit stops it
  is_answered : (e : Error) (db : Database) → db ≡ old.now
      → RefusesToRead old.step_limit (Select (record { lets = []; body = query tree asks.project }) asks.names) db [] e → ⊥
  is_answered e db is (inl mistyped) =
      let typed = subst (λ s. accepts_program s [] (query tree asks.project) [] ≡ true)
      (sym (ap (λ (d : Database). d.schema) is ∙ may.journal)) asks.typed in
      let both = sym typed ∙ mistyped.1 in cc
  is_answered e db is (inr (inl (fault, over))) = elim over [ inl none ↦ none | inr some ↦ some.4 ]
  is_answered e db is (inr (inr stops)) = let some = subst IsSome may.unlimited stops.1 in absurd cc

  is_shown : (e : Error) (c : Compiled) (it : IsStatement old text [] c)
      → FailsToShow old new text c (timed [] c.formats it.now) e c.returning → ⊥
  is_shown e c it fails =
      let known = sym it.is ∙ ap (λ s. understood s text) may.journal in
      let bare = subst IsPlain (sym known) asks.plain in
      let refused = rw (bare.0, bare.1) at fails in
      let db : refused.0 ≡ old.now = subst (λ b. IsSourceOf b old.now refused.0)
      (ap (λ s. reads_listing s text) may.journal ∙ asks.unlisted) refused.1 in
      is_answered e refused.0 db (subst (λ k. RefusesToRead old.step_limit k refused.0 [] e)
      (ap command_of known ∙ asks.is) refused.2)

  -- such a query fails for want of memory or since the disk has failed
  query_excused : (e : Error) → FailsToQuery text [] old new e → IsExcused new e
  unfolding FailsToQuery IsNotRun
  query_excused e (inl (inl none)) = absurd (is_statement e none.0)
  query_excused e (inl (inr fails)) = store_excused old new e may.is_open fails
  query_excused e (inr (c, it, fails)) = absurd (is_shown e c it fails)

  pub read_excused : (r : Result (Vec (List Value) Global) Error) → IfErr r (FailsToQuery text [] old new)
      → IfErr r (IsExcused new)
  read_excused (Ok rows) h = tt
  read_excused (Err e) h = query_excused e h

-- ---- two files that are left

pub either_left : {A : Type 0} {P : Type 0} {Q R : A → Type 0} (o : Option A) → (o ≡ None → P) → ((x : A) → Q x → R x)
    → IfSome o Q → MatchOption o P R
either_left None none some it = none refl
either_left (Some x) none some it = some x it

module _ {D : Type 0} {g : Ghosts D} (image : Image) (left : Leftover D g) where
  -- what is left after a fault of a database that was open
  pub left_of_state : (s : State) (fault : TakeFault) → s.faults ≤ faults_left left → ComesOf s fault
      → LeavesFor image left fault
  left_of_state s Busy more comes = comes
  left_of_state s Damaged more comes = inl (omega (arith, more, comes))
  left_of_state s Unread more comes = inl (omega (arith, more, comes))
  left_of_state s OutOfMemory more comes = tt
  left_of_state s NotAJournal more comes = tt
  left_of_state s OtherSession more comes = tt
  left_of_state s Misnumbered more comes = tt

  by_name : (e other : Error) → e ≡ other → LeavesFor image left (fault_named other) → LeavesFor image left (fault_named e)
  by_name e other is leaves = subst (λ e. LeavesFor image left (fault_named e)) (sym is) leaves

  failing : (kind : StoreError) → 1 ≤ faults_left left → LeavesFor image left (fault_named (store_error kind))
  failing store.OutOfMemory failed = tt
  failing store.Io failed = inl failed
  failing store.Corrupt failed = inl failed
  failing store.Full failed = inl failed
  failing store.Broken failed = inl failed
  failing store.Unstorable failed = inl failed

  fails_as : (kind : StoreError) (old : ℕ) (e : Error)
      → FailsAs kind old (faults_left left) (IsFullLeft left) (((db : Trees) × HoldsDatabase image db) ⊎ IsNothing image) e
      → LeavesFor image left (fault_named e)
  fails_as kind old e fails = elim fails [
    | inl memory ↦ by_name e _ memory tt
    | inr other ↦ elim other [
      | inl none ↦
          let holds : HoldsNone image = (λ held. none.1 (inl held), λ nothing. none.1 (inr nothing)) in
          elim none.0 [ inl foreign ↦ by_name e _ foreign (inr holds) | inr corrupt ↦ by_name e _ corrupt (inr holds) ]
      | inr rest ↦ elim rest [
        | inl failed ↦ by_name e _ failed.0 (failing kind (more_is_some old (faults_left left) failed.1))
        | inr full ↦ by_name e _ full.0 (inr full.1)
      ]
    ]
  ]

  -- what is left after an open that failed
  pub left_of_open : (files : Files D) (e : Error) (fault : TakeFault) → fault ≡ fault_named e → image_of g files ≡ image
      → FailsToOpenFiles files left e → LeavesFor image left fault
  left_of_open files e fault named same fails =
      let kind = kind_of (tally_of_files g (files.log, files.db)) (tally_left left) in
      subst (LeavesFor image left) (sym named) (fails_as kind (faults_of g files) e
      (subst (λ i. FailsAs kind (faults_of g files) (faults_left left) (IsFullLeft left)
      (((db : Trees) × HoldsDatabase i db) ⊎ IsNothing i) e) same fails))

-- what an open that failed is called where the files weren't opened
pub named_unopened : (e : Error) (fault : TakeFault) → fault ≡ fault_named e
    → (e ≡ SqliteFailure code.CannotOpen) ⊎ ((e ≡ SqliteFailure code.OutOfMemory) ⊎ (e ≡ SqliteFailure code.DatabaseBusy))
    → is_unopened fault ≡ true
named_unopened e fault named why =
    let by : (other : Error) → e ≡ other → fault ≡ fault_named other = λ other is. named ∙ ap fault_named is in
    elim why [
      | inl cannot ↦ ap is_unopened (by _ cannot)
      | inr other ↦ elim other [
        | inl memory ↦ ap is_unopened (by _ memory)
        | inr busy ↦ ap is_unopened (by _ busy)
      ]
    ]
