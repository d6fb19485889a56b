-- What the journal's query shows.
use Rattle.std.proofs.lemmas.List.Sorted.{IsPermutation-map, IsPermutation-sym, IsPermutation-trans}
use Rattle.std.proofs.Common.{Bool, true, cond, unwrap_or, IsPermutation, Result, Ok, Err, IfOk, OnOk, Vec, ◌≡◌, ◌≢◌, IsSome, ℕ, suc, ◌<◌, ◌≤◌, length, pos, negsuc, List, [], ◌∷◌, map, codes, false, None, refl, sym, ap, subst, ◌∙◌, arith, Ordering, Less}
use Rattle.std.proofs.lemmas.List.Concat.{flat_map_single}
use Rattle.sqlite_value.specs.Order.{column}
use Rattle.sqlite_value.specs.Keys.{ascending}
use Rattle.sqlite.specs.Collation.TheVariants.{Binary}
use Rattle.sqlite.specs.declared.types.Value.TheVariants.{Null, Int}
use Rattle.sqlite_typing.specs.Types.{accepts_program}
use Rattle.sqlite_resolve.specs.declared.compiled.Compiled.{Compiled}
use Rattle.sqlite_resolve.specs.declared.error.CompileError.{CompileError}
use Rattle.sqlite.specs.Order.{Row}
use Rattle.sqlite.specs.Term.{lit, col}
use Rattle.sqlite.specs.Query.{Query, inner, end, IsAnswer, output, Output}
use Rattle.sqlite.specs.Program.{overlay}
use Rattle.sqlite.specs.Tree.{Trees}
use Rattle.sqlite.specs.Command.TheVariants.{Select}
use Rattle.sqlite.specs.declared.error.Error.{Error}
use Rattle.std.specs.declared.alloc.Global.{Global}
use Rattle.sqlite.specs.declared.types.Value.{Value}
use Rattle.sqlite.specs.Clock.{timed}
use Rattle.sqlite.specs.State.{State, Shown, ShowsRows, IsUnchanged}
use Rattle.sqlite_tied.specs.Compute.{everything}
use Rattle.sqlite.specs.Listing.{understood, reads_listing}
use Rattle.sqlite.proofs.Callers.{IsPlain, command_of, reads_as}
use Rattle.sqlite.specs.Term.{Term}
use Rattle.sqlite.specs.Query.{output_cmp}
use Rattle.journal_store.proofs.TextLemmas.{lower_id}
use Rattle.std.specs.List.{AllByRecursion}
use Rattle.sqlite_trees.specs.Tree.{IsAscending}
use Rattle.sqlite_sql.proofs.QueryLemmas.{output_cmp_total}
use Rattle.sqlite_keyed.proofs.SortLemmas.{sorted_unique}
use Rattle.sqlite.specs.State.{Survives, CommitsShowing}
use Rattle.sqlite.proofs.StateLemmas.{survives_weaker}
use Rattle.journal_store.specs.Reading.{OnlyLooks}
use Rattle.journal_store.specs.Tables.{journal_schema, RowBytes, entry_row, entry_rows, shown_session, shown_entry}

abbrev pub entry_text : List ℕ
entry_text = codes "SELECT number, publication, actor, command FROM entry ORDER BY number"

abbrev pub session_text : List ℕ
session_text = codes "SELECT number, object, boards FROM session ORDER BY number"

abbrev pub query : ℕ → List Term → Query
query tree project = record {
  from = inner tree end;
  filter = [];
  group = None;
  project = project;
  distinct = false;
  collations = [];
  order = (col 1 0, ascending Binary) ∷ [];
  limit = lit (Int (negsuc 0));
  offset = lit (Int (pos 0));
}

-- a row that is shown, with what it is sorted by
abbrev pub sorted_by : Row → Output
sorted_by row = (column row 0 ∷ [], row)

-- the whole text is one statement with no parameter
abbrev pub IsWhole : List ℕ → Result Compiled CompileError → Type 0
IsWhole text (Ok c) = (length text ≤ c.tail) × (c.names ≡ [])
IsWhole text (Err fault) = ⊥

-- the text asks for the rows of a tree, and shows this of each
pub record Asks (text : List ℕ) (tree : ℕ) (shown : Row → Row) : Type 0 where
  pub project : List Term
  pub names : List (List ℕ)
  pub is : command_of (understood journal_schema text) ≡ Select (record { lets = []; body = query tree project }) names
  pub unlisted : reads_listing journal_schema text ≡ false
  pub plain : IsPlain (understood journal_schema text)
  pub whole : IsWhole text (understood journal_schema text)
  pub typed : accepts_program journal_schema [] (query tree project) [] ≡ true
  pub shows : (row : Row) → output (query tree project) ([] ∷ row ∷ []) ≡ sorted_by (shown row)

pub asks_entries : Asks entry_text 1 shown_entry
unfolding understood everything
asks_entries = record {
  project = col 1 0 ∷ col 1 2 ∷ col 1 3 ∷ col 1 4 ∷ [];
  names = codes "number" ∷ codes "publication" ∷ codes "actor" ∷ codes "command" ∷ [];
  is = refl;
  unlisted = refl;
  plain = (refl, refl);
  whole = (omega arith, refl);
  typed = refl;
  shows = λ row. refl;
}

pub asks_session : Asks session_text 0 shown_session
unfolding understood everything
asks_session = record {
  project = col 1 0 ∷ col 1 2 ∷ col 1 3 ∷ [];
  names = codes "number" ∷ codes "object" ∷ codes "boards" ∷ [];
  is = refl;
  unlisted = refl;
  plain = (refl, refl);
  whole = (omega arith, refl);
  typed = refl;
  shows = λ row. refl;
}

outputs_of : (tree : ℕ) (project : List Term) (shown : Row → Row)
    → ((row : Row) → output (query tree project) ([] ∷ row ∷ []) ≡ sorted_by (shown row))
    → (rows : List Row) → map (output (query tree project)) (map (λ r. [] ∷ r ∷ []) rows) ≡ map sorted_by
    (map shown rows)
outputs_of tree project shown is [] = refl
outputs_of tree project shown is (r ∷ more) = rw (is r, outputs_of tree project shown is more) refl

shows_again : (rows : List Row) → map (λ (o : Output). o.1) (map sorted_by rows) ≡ rows
shows_again [] = refl
shows_again (r ∷ more) = ap (λ l. r ∷ l) (shows_again more)

neither : (b : Bool) (x : List Row) → unwrap_or (cond b None None) x ≡ x
neither true x = refl
neither false x = refl

overlay_none : (db : Trees) (tree : ℕ) → overlay db [] tree ≡ db tree
overlay_none db tree = neither _ (db tree)

module _ (tree : ℕ) (project : List Term) where
  abbrev compares : Output → Output → Ordering
  compares = output_cmp (query tree project)

  lower : (m n : ℕ) (it other : RowBytes) → m < n → compares (sorted_by (entry_row m it))
      (sorted_by (entry_row n other)) ≡ Less
  lower m n it other h = rw (lower_id m n h) refl

  below : (m n : ℕ) (it : RowBytes) (rows : List RowBytes) → m < n
      → AllByRecursion (λ o. compares (sorted_by (entry_row m it)) o ≡ Less) (map sorted_by (entry_rows n rows))
  below m n it [] h = tt
  below m n it (other ∷ more) h = (lower m n it other h, below m (suc n) it more (omega (arith, h)))

  rising : (number : ℕ) (rows : List RowBytes) → IsAscending (λ a b. compares a b ≡ Less)
      (map sorted_by (entry_rows number rows))
  rising number [] = tt
  rising number (it ∷ more) = (below number (suc number) it more (omega arith), rising (suc number) more)

-- What the query shows is what is shown of the rows, in some order; and where they are numbered from 1, in that one.
record Shows (tree : ℕ) (shown : Row → Row) (old : State) (rows : List Row) : Type 0 where
  pub all : IsPermutation (map shown (old.now.trees tree)) rows
  pub in_order : (texts : List RowBytes) → IsPermutation (map shown (old.now.trees tree)) (entry_rows 1 texts)
      → rows ≡ entry_rows 1 texts

shows_all : (text : List ℕ) (tree : ℕ) (shown : Row → Row) → Asks text tree shown → (old new : State) (rows : List Row)
    → old.now.schema ≡ journal_schema → Shown text [] old new rows → Shows tree shown old rows
shows_all text tree shown asks old new rows has h =
    let got = reads_as text [] old new journal_schema has _ asks.is asks.plain asks.unlisted rows h in
    let a : IsAnswer (query tree asks.project) (overlay old.now.trees []) [] rows = got.answer Null in
    let staged : a.staged ≡ map (λ r. [] ∷ r ∷ []) (old.now.trees tree) = a.grouped
    ∙ rw (overlay_none old.now.trees tree) (flat_map_single (λ r. [] ∷ r ∷ []) (old.now.trees tree)) in
    let kept : a.kept ≡ map sorted_by (map shown (old.now.trees tree)) = a.distinct
    ∙ rw staged (outputs_of tree asks.project shown asks.shows (old.now.trees tree)) in
    let same = subst (λ k. IsPermutation k a.ordered) kept a.same in
    let shown_is : rows ≡ map (λ (o : Output). o.1) a.ordered = a.shown in
    record {
      all = rw (shown_is, ← shows_again (map shown (old.now.trees tree)))
          (IsPermutation-map (λ (o : Output). o.1) _ _ same);
      in_order = λ texts these.
          let as_outputs = IsPermutation-map sorted_by _ _ these in
          let one = sorted_unique (compares tree asks.project) (output_cmp_total (query tree asks.project))
          (map sorted_by (entry_rows 1 texts)) a.ordered (rising tree asks.project 1 texts)
          (IsPermutation-trans _ _ _ (IsPermutation-sym _ _ as_outputs) same) a.sorted in
          shown_is ∙ ap (map (λ (o : Output). o.1)) one ∙ shows_again (entry_rows 1 texts);
    }

shown_same : (sql : List ℕ) (params : Row) (old new : State) (rows : List Row) → IsPlain (understood old.now.schema sql)
    → Shown sql params old new rows → IsUnchanged old new
unfolding Shown
shown_same sql params old new rows plain h =
    let none = (subst IsPlain h.1.is plain).0 in
    (subst (ShowsRows old new sql h.0 (timed params h.0.formats h.1.now) rows) none h.2).3

-- what an answer shows of the rows of a tree
module _ (text : List ℕ) (tree : ℕ) (shown : Row → Row) (asks : Asks text tree shown) (old new : State) where
  pub all_rows : (r : Result (Vec (List Value) Global) Error) → old.now.schema ≡ journal_schema
      → IfOk r (λ rows. Shown text [] old new rows.items)
      → IfOk r (λ rows. IsPermutation (map shown (old.now.trees tree)) rows.items)
  all_rows (Err e) has h = tt
  all_rows (Ok rows) has h = (shows_all text tree shown asks old new rows.items has h).all

  pub rows_in_order : (r : Result (Vec (List Value) Global) Error) → old.now.schema ≡ journal_schema
      → IfOk r (λ rows. Shown text [] old new rows.items)
      → IfOk r (λ rows. (texts : List RowBytes) → IsPermutation (map shown (old.now.trees tree)) (entry_rows 1 texts)
      → rows.items ≡ entry_rows 1 texts)
  rows_in_order (Err e) has h = tt
  rows_in_order (Ok rows) has h = (shows_all text tree shown asks old new rows.items has h).in_order

  pub only_read : (r : Result (Vec (List Value) Global) Error) → old.now.schema ≡ journal_schema
      → IfOk r (λ rows. Shown text [] old new rows.items)
      → OnOk r (IsUnchanged old new)
  only_read (Err e) has h = tt
  only_read (Ok rows) has h = shown_same text [] old new rows.items
      (subst (λ s. IsPlain (understood s text)) (sym has) asks.plain) h

  -- a query commits nothing
  pub looks : Survives old new (CommitsShowing text [] old) → OnlyLooks old new
  unfolding CommitsShowing
  looks survives = survives_weaker old new (CommitsShowing text [] old) (λ _. old.now.schema ≢ journal_schema)
      (λ clean db it has. let none = (subst IsPlain it.1.is
      (subst (λ s. IsPlain (understood s text)) (sym has) asks.plain)).0 in let some = subst IsSome none it.2 in
      absurd cc)
      survives
