-- What the statements of the journal mean.
use Rattle.std.specs.List.{AllByRecursion}
use Rattle.std.proofs.lemmas.List.{map-append}
use Rattle.std.proofs.lemmas.List.Elements.{All-from_recursion}
use Rattle.std.proofs.lemmas.List.Sorted.{All-permutation, IsPermutation-sym, IsPermutation-append_left}
use Rattle.std.proofs.Common.{sym, map, All, IsPermutation, IsTrue, ◌≡◌, ◌⊎◌, inl, inr, ℕ, suc, ◌+◌, ◌<◌, pos, List, [], ◌∷◌, ◌++◌, length, codes, Bool, true, false, cond, None, Ok, Err, Result, OnOk, refl, ap, subst, ◌∙◌, arith, Less}
use Rattle.std.proofs.lemmas.Bool.Decides.{nat_tests}
use Rattle.sqlite_value.proofs.OrderLemmas.{value_cmp-Int}
use Rattle.sqlite_value.specs.Order.{value_cmp, column}
use Rattle.sqlite.specs.declared.types.Value.{Value}
use Rattle.sqlite.specs.declared.types.Value.TheVariants.{Null, Int, Text}
use Rattle.sqlite.specs.Order.{Row}
use Rattle.sqlite.specs.Term.{Term, lit, col}
use Rattle.sqlite.specs.Ops.{unary}
use Rattle.sqlite.specs.Kind.TheVariants.{Integer}
use Rattle.sqlite.specs.Source.TheVariants.{Values}
use Rattle.sqlite.specs.Command.TheVariants.{Insert}
use Rattle.sqlite.specs.Edit.{edit_of, edited}
use Rattle.sqlite.specs.Cast.{cast}
use Rattle.sqlite.specs.Rowids.TheVariants.{Chosen}
use Rattle.sqlite.specs.Does.{Tally, Does}
use Rattle.sqlite.specs.Rows.{Written}
use Rattle.sqlite.specs.Tree.{Trees, put_row, rowid}
use Rattle.sqlite_tied.specs.Compute.{everything}
use Rattle.sqlite.specs.declared.error.Error.{Error}
use Rattle.sqlite.specs.Listing.{understood}
use Rattle.sqlite.specs.Effect.{Database, IsDatabase}
use Rattle.sqlite.specs.State.{State, HasCleanDisk, mode_of, Executes, ExecutesInside}
use Rattle.sqlite.proofs.Callers.{IsPlain, command_of, statement_of, runs_as, one_step}
use Rattle.journal_store.specs.Kept.{AreEntries, Keeps, AddsRows}
use Rattle.journal_store.specs.Tables.{entry_table, journal_schema, RowBytes, stored_entry, shown_session, shown_entry, entry_rows, entry_row}

abbrev pub insert_text : List ℕ
insert_text = codes "INSERT INTO entry (number, publication, actor, command) VALUES (?1, ?2, ?3, ?4)"

abbrev pub terms : List Term
terms = col 0 0 ∷ lit Null ∷ col 0 1 ∷ col 0 2 ∷ col 0 3 ∷ []

insert_is : command_of (understood journal_schema insert_text) ≡ Insert 1 (Values terms 5)
unfolding understood everything
insert_is = refl

pub insert_plain : IsPlain (understood journal_schema insert_text)
unfolding understood everything
insert_plain = (refl, refl)

either : (b : Bool) (x : Value) → cond b x x ≡ x
either true x = refl
either false x = refl

pub cast_int : (n : ℕ) → cast Integer (Int (pos n)) ≡ Int (pos n)
unfolding unary
cast_int n = either _ (Int (pos n))

pub cast_null : cast Integer Null ≡ Null
unfolding unary
cast_null = either _ Null

pub lower_id : (m n : ℕ) → m < n → value_cmp (Int (pos m)) (Int (pos n)) ≡ Less
lower_id m n h = value_cmp-Int (pos m) (pos n) ∙ grind (arith, nat_tests)

-- a row with a lower number than this
abbrev IsBelow : ℕ → Value → Type 0
IsBelow number id = (k : ℕ) × (id ≡ Int (pos k)) × (k < number)

-- a row of a higher number stands behind the others
put_behind : (number : ℕ) (new : Row) (rows : List Row) → rowid new ≡ Int (pos number)
    → All (λ s. IsBelow number (column s 0)) (map shown_entry rows) → put_row new rows ≡ rows ++ new ∷ []
put_behind number new [] is below = refl
put_behind number new (r ∷ rows) is below =
    let first = below 0 (shown_entry r) (omega arith) in
    let later : All (λ s. IsBelow number (column s 0)) (map shown_entry rows) = λ i d low. below (suc i) d
    (omega (arith, low)) in
    rw (first.1, is, lower_id first.0 number first.2) (ap (λ l. r ∷ l) (put_behind number new rows is later))

all_below : (from number : ℕ) (rows : List RowBytes) → number ≡ from + length rows
    → AllByRecursion (λ s. IsBelow number (column s 0)) (entry_rows from rows)
all_below from number [] at = tt
all_below from number (it ∷ more) at =
    ((from, refl, omega (arith, at)), all_below (suc from) number more (omega (arith, at)))

pub shown_last : (from : ℕ) (rows : List RowBytes) (it : RowBytes)
    → entry_rows from (rows ++ it ∷ []) ≡ entry_rows from rows ++ entry_row (from + length rows) it ∷ []
shown_last from [] it = let same : from ≡ from + 0 = omega arith in ap (λ n. entry_row n it ∷ []) same
shown_last from (r ∷ more) it =
    let same : suc from + length more ≡ from + suc (length more) = omega arith in
    ap (λ l. entry_row from r ∷ l)
    (shown_last (suc from) more it ∙ ap (λ n. entry_rows (suc from) more ++ entry_row n it ∷ []) same)

-- one row more, behind those that are shown
pub put_last : (number : ℕ) (trees : List Row) (rows : List RowBytes) (it : RowBytes) → number ≡ 1 + length rows
    → IsPermutation (map shown_entry trees) (entry_rows 1 rows)
    → IsPermutation (map shown_entry (put_row (stored_entry number it) trees)) (entry_rows 1 (rows ++ it ∷ []))
put_last number trees rows it at same =
    let below = All-permutation (λ s. IsBelow number (column s 0)) _ _ (IsPermutation-sym _ _ same)
    (All-from_recursion _ (entry_rows 1 rows) (all_below 1 number rows at)) in
    let behind = put_behind number (stored_entry number it) trees refl below in
    rw (behind, map-append shown_entry trees (stored_entry number it ∷ []), shown_last 1 rows it, ← at)
    (IsPermutation-append_left (entry_row number it ∷ []) _ _ same)

-- a part that gave a value did not stop on the way
pub went : {B E R : Type 0} {b : B} {Stops : E → Type 0} → ((stop : E) × Stops stop × (Ok b ≡ Err stop)) ⊎ R → R
went (inl stopped) = absurd (let e = stopped.2 in cc)
went (inr on) = on

pub same_value : {B E : Type 0} {a b : B} → ◌≡◌ {A = Result B E} (Ok a) (Ok b) → a ≡ b
same_value e = cc

-- one row more
pub adds : (old new : State) (session : List Row) (rows : List RowBytes) (number : ℕ) (it : RowBytes) (count : ℕ)
    → number ≡ 1 + length rows → Keeps session rows old.now → AreEntries (rows ++ it ∷ [])
    → Executes insert_text (Int (pos number) ∷ Int (pos it.publication) ∷ Text it.actor ∷ Text it.command ∷ []) old new
    (Ok count)
    → Keeps session (rows ++ it ∷ []) new.now
adds old new session rows number it count at keeps are h =
    let has = keeps.schema in
    let held = keeps.kept.entries in
    let params = Int (pos number) ∷ Int (pos it.publication) ∷ Text it.actor ∷ Text it.command ∷ [] in
    let db = old.now.trees in
    let make = Insert 1 (Values terms 5) in
    let w = runs_as insert_text params old new journal_schema has make insert_is insert_plain count h in
    let text = statement_of insert_text (understood journal_schema insert_text) in
    let done = went (subst (λ s. Does old.step_limit (mode_of old) params (record old.now { schema = s }) text None make
    (Ok (w.tally, new.now))) has w.changed) in
    let now = ap (λ (p : Tally × Database). p.1) (same_value (went (went done.2).2).2) in
    let given = went done.1 in
    let written = went (went given.2).2 in
    let counted = went written.2 in
    let trees : done.0.trees ≡ written.0 = ap (λ (it : Written). it.trees) (same_value counted.2)
    ∙ same_value counted.1 in
    let apart : 0 ≡ 1 → ⊥ = λ e. omega (arith, e) in
    let step = one_step journal_schema _ db written.0 (edit_of db entry_table [] Chosen 0 given.0) refl written.1 in
    let edit : edited db (edit_of db entry_table [] Chosen 0 given.0) ≡ put_row (stored_entry number it) (db 1) =
    ap (λ all. edited db (edit_of db entry_table [] Chosen 0 all)) given.1.1
    ∙ rw (cast_null, cast_int number, cast_int it.publication) refl in
    record {
      schema = ap (λ (d : Database). d.schema) now;
      kept = record {
        sound = subst (λ s. IsDatabase (record { schema = s; trees = new.now.trees }))
            (ap (λ (d : Database). d.schema) now) w.sound;
        session_is = subst (λ l. IsPermutation (map shown_session l) session)
            (sym (ap (λ (d : Database). d.trees 0) now ∙ ap (λ (t : Trees). t 0) trees ∙ step.others 0 apart tt))
            keeps.kept.session_is;
        entries = subst (λ l. IsPermutation (map shown_entry l) (entry_rows 1 (rows ++ it ∷ [])))
            (sym (ap (λ (d : Database). d.trees 1) now ∙ ap (λ (t : Trees). t 1) trees ∙ step.rows ∙ edit))
            (put_last number (db 1) rows it at held);
        are_entries = are;
      };
    }

pub adds_inside : (old new : State) (number : ℕ) (it : RowBytes) (r : Result ℕ Error)
    → (HasCleanDisk new → IsTrue old.in_transaction
    → ExecutesInside 0 insert_text (Int (pos number) ∷ Int (pos it.publication) ∷ Text it.actor ∷ Text it.command ∷ [])
    old new r)
    → OnOk r (AddsRows old new number (it ∷ []))
adds_inside old new number it (Err e) h = tt
adds_inside old new number it (Ok count) h = record {
  inside = λ clean inside. (h clean inside).1.mode;
  keeps = λ session rows clean inside keeps at are. adds old new session rows number it count at keeps are
      (h clean inside).0;
}
