-- What the statements that make the tables mean.
use Rattle.std.specs.List.{AllByRecursion}
use Rattle.std.proofs.lemmas.List.Sorted.{IsPermutation-refl, length_permutation}
use Rattle.std.proofs.Common.{map, IsPermutation, IfErr, arith, inl, inr, pos, None, ◌≡◌, ℕ, List, [], ◌∷◌, codes, false, Ok, Err, Result, OnOk, IsTrue, refl, sym, ap, subst, ◌∙◌}
use Rattle.sqlite.specs.Table.{Table}
use Rattle.sqlite.specs.Schema.{Schema}
use Rattle.sqlite.specs.Command.TheVariants.{CreateTable, Insert}
use Rattle.sqlite.specs.Compile.{table_defined_by}
use Rattle.sqlite.specs.Change.{created, next_tree}
use Rattle.sqlite.specs.Edit.{edit_of, edited}
use Rattle.sqlite.specs.Rowids.TheVariants.{Chosen}
use Rattle.sqlite.specs.Rows.{Written}
use Rattle.sqlite.specs.Tree.{Trees}
use Rattle.sqlite.specs.Order.{Row}
use Rattle.sqlite.specs.Source.TheVariants.{Values}
use Rattle.sqlite.specs.Term.{Term, lit, col}
use Rattle.sqlite.specs.declared.types.Value.TheVariants.{Null, Int, Text, Blob}
use Rattle.sqlite.specs.Steps.{FailsToCommit}
use Rattle.sqlite.specs.Does.{Tally, Does, lacks_sequence}
use Rattle.sqlite_tied.specs.Compute.{everything}
use Rattle.sqlite.specs.declared.error.Error.{Error}
use Rattle.sqlite.specs.Listing.{understood}
use Rattle.sqlite.specs.Effect.{Database, IsDatabase}
use Rattle.sqlite.specs.State.{State, HasCleanDisk, Survives, Shows, mode_of, Writes, Executes, ExecutesInside}
use Rattle.sqlite.proofs.Callers.{IsPlain, command_of, statement_of, runs_as, one_step}
use Rattle.journal_store.specs.Kept.{AreKept, Keeps, StaysInside}
use Rattle.journal_store.specs.Made.{IsBlank, MakesInside, MakesSession, MakesEntry, FillsSession, MakesTables, Creates}
use Rattle.journal_store.proofs.KeptLemmas.{IsSettled, begun, rests_at}
use Rattle.journal_store.specs.Tables.{stored_session, session_row, shown_session, shown_entry, session_table, entry_table, session_schema, journal_schema, no_schema}
use Rattle.journal_store.proofs.TextLemmas.{went, same_value, cast_null, cast_int}

abbrev pub session_text : List ℕ
session_text = codes
    "CREATE TABLE session (number INTEGER PRIMARY KEY, object TEXT NOT NULL, boards BLOB NOT NULL) STRICT"

abbrev pub entry_text : List ℕ
entry_text = codes
    "CREATE TABLE entry (number INTEGER PRIMARY KEY, publication INTEGER NOT NULL, actor TEXT NOT NULL, command TEXT NOT NULL) STRICT"

session_is : (command_of (understood no_schema session_text) ≡ CreateTable)
    × (statement_of session_text (understood no_schema session_text) ≡ session_text)
    × (table_defined_by session_text ≡ Ok session_table)
unfolding understood everything
session_is = (refl, refl, refl)

session_plain : IsPlain (understood no_schema session_text)
unfolding understood everything
session_plain = (refl, refl)

entry_is : (command_of (understood session_schema entry_text) ≡ CreateTable)
    × (statement_of entry_text (understood session_schema entry_text) ≡ entry_text)
    × (table_defined_by entry_text ≡ Ok (record entry_table { tree = 0 }))
unfolding understood everything
entry_is = (refl, refl, refl)

entry_plain : IsPlain (understood session_schema entry_text)
unfolding understood everything
entry_plain = (refl, refl)

-- a table was made behind those of a schema
module _ (text : List ℕ) (schema : Schema) (made : Table) (command : command_of (understood schema text) ≡ CreateTable)
    (statement : statement_of text (understood schema text) ≡ text)
    (defined : table_defined_by text ≡ Ok made) (plain : IsPlain (understood schema text))
    (uncounted : lacks_sequence (created schema made) ≡ false) where
  pub makes : (old new : State) (count : ℕ) → old.now.schema ≡ schema → Executes text [] old new (Ok count)
      → (new.now.schema ≡ created schema made) × (new.now.trees (next_tree schema) ≡ [])
      × AllByRecursion (λ t. new.now.trees t.tree ≡ old.now.trees t.tree) schema.tables × IsDatabase new.now
  makes old new count has h =
      let w = subst (λ t. Writes old new None CreateTable t [] count) statement
      (runs_as text [] old new schema has CreateTable command plain count h) in
      let all = went w.changed in
      let first = went all.1 in
      let done = first.1 in
      let both : Ok done.table ≡ Ok made = sym done.defined ∙ defined in
      let same : done.table ≡ made = same_value both in
      let is : first.0.schema ≡ created schema made = done.is ∙ ap (λ s. created s done.table) has
      ∙ ap (created schema) same in
      let none : lacks_sequence first.0.schema ≡ false = ap lacks_sequence is ∙ uncounted in
      let now : new.now ≡ first.0 = ap (λ (p : Tally × Database). p.1) (same_value all.2)
      ∙ same_value (rw none at first.2) in (
        ap (λ (d : Database). d.schema) now ∙ is,
        ap (λ (d : Database). d.trees (next_tree schema)) now
            ∙ subst (λ s. first.0.trees (next_tree s) ≡ []) has done.empty,
        subst (λ (d : Database). AllByRecursion (λ t. d.trees t.tree ≡ old.now.trees t.tree) schema.tables) (sym now)
            (subst (λ (s : Schema). AllByRecursion (λ t. first.0.trees t.tree ≡ old.now.trees t.tree) s.tables) has
            done.others),
        w.sound,
      )

pub makes_session : (old new : State) (count : ℕ) → old.now.schema ≡ no_schema
    → Executes session_text [] old new (Ok count) → (new.now.schema ≡ session_schema) × (new.now.trees 0 ≡ [])
makes_session old new count has h =
    let made = makes session_text no_schema session_table session_is.0 session_is.1 session_is.2 session_plain refl old
    new count has h in
    (made.0, made.1)

pub makes_entry : (old new : State) (count : ℕ) → old.now.schema ≡ session_schema → old.now.trees 0 ≡ []
    → Executes entry_text [] old new (Ok count)
    → (new.now.schema ≡ journal_schema) × (new.now.trees 1 ≡ []) × (new.now.trees 0 ≡ []) × IsDatabase new.now
makes_entry old new count has none h =
    let made = makes entry_text session_schema (record entry_table { tree = 0 }) entry_is.0 entry_is.1 entry_is.2
    entry_plain refl old new count has h in
    (made.0, made.1, made.2.0 ∙ none, made.3)

pub sessions : (old new : State) (r : Result ℕ Error)
    → (HasCleanDisk new → IsTrue old.in_transaction → ExecutesInside 0 session_text [] old new r)
    → OnOk r (MakesSession old new)
sessions old new (Err e) h = tt
sessions old new (Ok count) h = record {
  inside = λ clean inside. (h clean inside).1.mode;
  made = λ clean inside has.
      makes_session old new count has (h clean inside).0;
}

pub entries : (old new : State) (r : Result ℕ Error)
    → (HasCleanDisk new → IsTrue old.in_transaction → ExecutesInside 0 entry_text [] old new r)
    → OnOk r (MakesEntry old new)
entries old new (Err e) h = tt
entries old new (Ok count) h = record {
  inside = λ clean inside. (h clean inside).1.mode;
  made = λ clean inside has.
      let made = makes_entry old new count has.0 has.1 (h clean inside).0 in
      record {
        schema = made.0;
        kept = record {
          sound = subst
              (λ s. IsDatabase (record { schema = s; trees = new.now.trees })) made.0 made.3;
          session_is = rw made.2
              (IsPermutation-refl _);
          entries = rw made.1 (IsPermutation-refl _);
          are_entries = record
              { in_order = tt; few = omega arith };
        };
      };
}

abbrev pub fill_text : List ℕ
fill_text = codes "INSERT INTO session (number, object, boards) VALUES (1, ?1, ?2)"

abbrev terms : List Term
terms = lit (Int (pos 1)) ∷ lit Null ∷ col 0 0 ∷ col 0 1 ∷ []

fill_is : command_of (understood journal_schema fill_text) ≡ Insert 0 (Values terms 4)
unfolding understood everything
fill_is = refl

fill_plain : IsPlain (understood journal_schema fill_text)
unfolding understood everything
fill_plain = (refl, refl)

none_shown : (rows : List Row) → IsPermutation (map shown_session rows) [] → rows ≡ []
none_shown [] same = refl
none_shown (r ∷ rows) same = absurd (omega (arith, length_permutation _ _ same))

-- the session's row, in an empty table
fills : (old new : State) (object boards : List ℕ) (count : ℕ) → Keeps [] [] old.now
    → Executes fill_text (Text object ∷ Blob boards ∷ []) old new (Ok count)
    → Keeps (session_row object boards ∷ []) [] new.now
fills old new object boards count keeps h =
    let has = keeps.schema in
    let none = none_shown _ keeps.kept.session_is in
    let params = Text object ∷ Blob boards ∷ [] in
    let db = old.now.trees in
    let make = Insert 0 (Values terms 4) in
    let w = runs_as fill_text params old new journal_schema has make fill_is fill_plain count h in
    let text = statement_of fill_text (understood journal_schema fill_text) in
    let done = went (subst (λ s. Does old.step_limit (mode_of old) params (record old.now { schema = s }) text None make
    (Ok (w.tally, new.now))) has w.changed) in
    let now = ap (λ (p : Tally × Database). p.1) (same_value (went (went done.2).2).2) in
    let given = went done.1 in
    let written = went (went given.2).2 in
    let counted = went written.2 in
    let trees : done.0.trees ≡ written.0 = ap (λ (it : Written). it.trees) (same_value counted.2)
    ∙ same_value counted.1 in
    let apart : 1 ≡ 0 → ⊥ = λ e. omega (arith, e) in
    let step = one_step journal_schema _ db written.0 (edit_of db session_table [] Chosen 0 given.0) refl written.1 in
    let edit : edited db (edit_of db session_table [] Chosen 0 given.0) ≡ stored_session object boards ∷ [] =
    ap (λ all. edited db (edit_of db session_table [] Chosen 0 all)) given.1.1
    ∙ rw (none, cast_null, cast_int 1) refl in
    record {
      schema = ap (λ (d : Database). d.schema) now;
      kept = record {
        sound = subst (λ s. IsDatabase (record { schema = s; trees = new.now.trees }))
            (ap (λ (d : Database). d.schema) now) w.sound;
        session_is = rw (ap (λ (d : Database). d.trees 0) now ∙ ap (λ (t : Trees). t 0) trees ∙ step.rows ∙ edit)
            (IsPermutation-refl _);
        entries = subst (λ l. IsPermutation (map shown_entry l) [])
            (sym (ap (λ (d : Database). d.trees 1) now ∙ ap (λ (t : Trees). t 1) trees ∙ step.others 1 apart tt))
            keeps.kept.entries;
        are_entries = keeps.kept.are_entries;
      };
    }

pub fills_session : (old new : State) (object boards : List ℕ) (r : Result ℕ Error)
    → (HasCleanDisk new → IsTrue old.in_transaction
    → ExecutesInside 0 fill_text (Text object ∷ Blob boards ∷ []) old new r)
    → OnOk r (FillsSession (session_row object boards ∷ []) old new)
fills_session old new object boards (Err e) h = tt
fills_session old new object boards (Ok count) h = record {
  inside = λ clean inside. (h clean inside).1.mode;
  made = λ clean inside keeps. fills old new object boards count
      keeps (h clean inside).0;
}

pub makes_then : (P Q R : Database → Type 0) (a b c : State) → MakesInside P Q a b → StaysInside b c → MakesInside Q R b c
    → MakesInside P R a c
makes_then P Q R a b c p stays q = record {
  inside = λ clean inside. q.inside clean (p.inside (omega (arith, stays.survives.clean)) inside);
  made = λ clean inside has. let early : HasCleanDisk b = omega (arith, stays.survives.clean) in q.made clean
      (p.inside early inside) (p.made early inside has);
}

pub creates : (old mid last : State) (session : List Row) (r : Result (Unit {0}) Error) → HasCleanDisk last
    → IsSettled last → last.in_transaction ≡ false → IsBlank old → StaysInside (begun old) mid
    → MakesTables session (begun old) mid → OnOk r (Shows mid last mid.now mid.now false)
    → IfErr r (FailsToCommit mid last) → Survives mid last (λ db. db ≡ mid.now.trees) → Creates session old last r
creates old mid last session (Ok tt) clean settled alone blank stays makes ok err survives =
    let keeps = makes.made (omega (arith, survives.clean)) refl blank.now in
    rests_at last session [] ok.is_open alone settled mid.now keeps ok.now_is ok.committed_is
creates old mid last session (Err e) clean settled alone blank stays makes ok err survives =
    let early : HasCleanDisk mid = omega (arith, survives.clean) in
    let keeps = makes.made early refl blank.now in
    let undone : IsTrue last.is_open → IsBlank last = elim err [
      | inl fails ↦ λ is_open.
          let back = fails.3.undone is_open in
          let same = stays.committed early refl (fails.3.was_open is_open) in
          record {
            is_open = is_open;
            autocommit = alone;
            now = ap (λ (d : Database). d.schema) (back.0 ∙ same) ∙ blank.committed;
            committed = ap (λ (d : Database). d.schema) (back.1 ∙ same) ∙ blank.committed;
            same = back.0 ∙ sym back.1;
          }
      | inr late ↦ absurd (let within = makes.inside early refl in let out = late.1 in cc)
    ] in (
      undone,
      λ db may. elim (survives.crash clean db may) [
        | inl earlier ↦ elim (stays.survives.crash early db earlier) [ inl first ↦ inl first | inr none ↦ absurd none ]
        | inr made ↦ inr (subst (AreKept session []) (sym made) keeps.kept)
      ],
    )
