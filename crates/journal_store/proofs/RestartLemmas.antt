-- What a run finds of the run before it.
use Rattle.std.proofs.Common.{false, IsUtf8, Ordering, true, Ok, Err, Result, Vec, IfOk, IfErr, MatchResult, ◌==◌, ◌≡◌, ◌≢◌, ◌⊎◌, inl, inr, ◌<◌, ◌≤◌, ◌+◌, ◌++◌, append-nil, ap₂, ℕ, zero, suc, pos, List, [], ◌∷◌, map, IsPermutation, refl, sym, ap, subst, ◌∙◌, arith, Less}
use Rattle.std.specs.Ordering.{on, is_gt}
use Rattle.std.specs.Cmp.{IsTotalOrder}
use Rattle.std.specs.List.{AllByRecursion, AllZip}
use Rattle.sqlite_catalog.specs.Listing.{IsTableRow}
use Rattle.std.proofs.Math.Logic.{∥∥₁_elim}
use Rattle.std.proofs.lemmas.Cmp.{on_total}
use Rattle.std.proofs.lemmas.Bool.Decides.{nat_tests}
use Rattle.std.proofs.lemmas.List.Sorted.{IsPermutation-sym, IsPermutation-trans}
use Rattle.sqlite_value.specs.Order.{column, value_cmp}
use Rattle.sqlite_value.proofs.OrderLemmas.{value_cmp_total}
use Rattle.sqlite_trees.specs.Tree.{IsAscending}
use Rattle.sqlite_trees.specs.Props.{rows_set}
use Rattle.sqlite_keyed.proofs.ListLemmas.{ascending_weaker}
use Rattle.sqlite_keyed.proofs.SortLemmas.{sorted_unique}
use Rattle.sqlite_exec.proofs.PartitionLemmas.{sorted_from_ascending}
use Rattle.sqlite.specs.Recovery.{Image}
use Rattle.sqlite.proofs.Callers.{one_permutation}
use Rattle.sqlite.specs.Order.{Row}
use Rattle.sqlite.specs.Tree.{Trees}
use Rattle.sqlite.specs.Effect.{Database, IsDatabase}
use Rattle.sqlite.specs.State.{State, IsLive, Opens}
use Rattle.sqlite.specs.Start.{FindsIn}
use Rattle.sqlite.specs.Table.{Table}
use Rattle.sqlite.specs.Schema.{Schema}
use Rattle.sqlite.specs.Files.{HoldsDatabase, AreFoundIn}
use Rattle.sqlite.specs.declared.types.Value.TheVariants.{Int}
use Rattle.sqlite_value.specs.Order.{bytes}
use Rattle.sqlite_trees.specs.Objects.{number_in}
use Rattle.sqlite_schema.specs.declared.schema.Index.{Index}
use Rattle.sqlite_schema.specs.declared.schema.View.{View as Stored}
use Rattle.sqlite.specs.Compile.{table_defined_by}
use Rattle.sqlite_catalog.specs.Listing.{IsIndexRow, IsViewRow}
use Rattle.std.proofs.Math.Bool.{Bool-set}
use Rattle.std.proofs.lemmas.List.Elements.{filter-append, recursion_from_All}
use Rattle.std.specs.declared.alloc.Global.{Global}
use Rattle.journal_store.specs.declared.row_text.RowText.{RowText}
use Rattle.journal_store.specs.declared.take_fault.TakeFault.{TakeFault}
use Rattle.journal_store.specs.declared.take_fault.TakeFault.TheVariants.{Busy, Damaged, Unread, OutOfMemory, NotAJournal, OtherSession, Misnumbered}
use Rattle.journal_store.specs.Tables.{no_schema, journal_schema, session_row, RowBytes, entry_row, entry_rows}
use Rattle.journal_store.specs.Kept.{texts_of, AreKept, AreInOrder, last_publication, IsNextPublication, Keeps}
use Rattle.journal_store.specs.Faults.{HoldsNone, is_failure}
use Rattle.journal_store.specs.Made.{HasNone}
use Rattle.journal_store.specs.Taken.{IsIdle, TakesUp, ReadsKept, RefusesJournal, RefusesToRead}
use Rattle.journal_store.specs.Restart.{AreFound, IsTakenUp, IsRefusedAt, IsRefusedJournal, IsKeptAt, HoldsRows, HoldsEither, HoldsFirst, rows_of_publication, AreWhole}
use Rattle.journal_store.proofs.TextLemmas.{same_value, lower_id}

pub idle_if_opened : (s : State) → Opens s × IsLive s → IsIdle s
idle_if_opened s h = record {
  is_open = h.0.is_open;
  autocommit = h.0.autocommit;
  same = h.0.clean;
  sound =
      (h.1 h.0.is_open).0;
}

pub goes_on : (image : Image) (was new : State) (session : List Row) (rows : List RowBytes) → IsIdle was
    → FindsIn image was → TakesUp session rows was new → IsTakenUp image session rows new
goes_on image was new session rows idle finds takes = record {
  rests = takes.rests;
  found = λ db holds.
      let same : was.now.trees ≡ db = ap (λ (d : Database). d.trees) idle.same ∙ finds.holds db holds in
      elim takes.found [
        | inl none ↦ inl (
          none.1,
          subst (λ t. IsDatabase (record { schema = no_schema; trees = t })) same
              (subst (λ s. IsDatabase (record { schema = s; trees = was.now.trees })) none.0 idle.sound),
        )
        | inr keeps ↦ inr (subst (AreKept session rows) same keeps.kept)
      ];
}

-- a database that was opened is refused
pub refused_at : (image : Image) (was : State) (Cause : Database → Type 0) → IsIdle was → FindsIn image was
    → Cause was.now → IsRefusedAt image Cause
refused_at image was Cause idle finds cause = record {
  schema = was.now.schema;
  db = was.now.trees;
  found = record {
    holds = λ other holds. ap (λ (d : Database). d.trees) idle.same ∙ finds.holds other holds;
    reads = subst (λ (d : Database). AreFoundIn image d.trees) (sym idle.same) finds.reads;
  };
  sound = idle.sound;
  cause = cause;
}

pub kept_at : (image : Image) (was new : State) (session : List Row) (rows : List RowBytes) → IsIdle was
    → FindsIn image was → ReadsKept session rows was new → IsKeptAt image session rows new
kept_at image was new session rows idle finds reads = record {
  rests = reads.rests;
  found = λ db holds. subst (AreKept session rows) (ap (λ (d : Database). d.trees) idle.same ∙ finds.holds db holds)
      reads.kept.kept;
}

-- ---- rows that are shown have one order

abbrev by_number : Row → Row → Ordering
by_number = on (λ r. column r 0) value_cmp

by_number_total : IsTotalOrder by_number
by_number_total = on_total (λ r. column r 0) value_cmp_total

below : (m n : ℕ) (it : RowBytes) (rows : List RowBytes) → m < n
    → AllByRecursion (λ r. by_number (entry_row m it) r ≡ Less) (entry_rows n rows)
below m n it [] h = tt
below m n it (other ∷ more) h = (lower_id m n h, below m (suc n) it more (omega (arith, h)))

rising : (number : ℕ) (rows : List RowBytes) → IsAscending (λ a b. by_number a b ≡ Less) (entry_rows number rows)
rising number [] = tt
rising number (it ∷ more) = (below number (suc number) it more (omega arith), rising (suc number) more)

not_above : (number : ℕ) (rows : List RowBytes) → IsAscending (λ a b. is_gt (by_number a b) ≡ false)
    (entry_rows number rows)
not_above number rows = ascending_weaker _ (λ a b. is_gt (by_number a b) ≡ false) (λ a b h. ap is_gt h)
    (entry_rows number rows) (rising number rows)

one_order : (found rows : List RowBytes) → IsPermutation (entry_rows 1 found) (entry_rows 1 rows)
    → entry_rows 1 rows ≡ entry_rows 1 found
one_order found rows same =
    sorted_unique by_number by_number_total (entry_rows 1 found) (entry_rows 1 rows) (rising 1 found) same
    (sorted_from_ascending by_number by_number_total (entry_rows 1 rows) (not_above 1 rows))

-- what a row that is shown says
abbrev texts_in : Row → RowBytes
texts_in row = record {
  publication = number_in (column row 1);
  actor = bytes (column row 2);
  command = bytes
      (column row 3);
}

pub texts_again : (number : ℕ) (rows : List RowBytes) → map texts_in (entry_rows number rows) ≡ rows
texts_again number [] = refl
texts_again number (it ∷ more) = ap (λ l. it ∷ l) (texts_again (suc number) more)

pub same_texts : (m n : ℕ) (it other : RowBytes) → entry_row m it ≡ entry_row n other → it ≡ other
same_texts m n it other same = ap texts_in same

-- trees keep one list of rows at most
pub kept_once : (one other : List Row) (rows found : List RowBytes) (db : Trees) → AreKept one rows db
    → AreKept other found db → found ≡ rows
kept_once one other rows found db here there =
    sym (texts_again 1 found) ∙ ap (map texts_in)
    (sym (one_order found rows (IsPermutation-trans _ _ _ (IsPermutation-sym _ _ there.entries) here.entries)))
    ∙ texts_again 1 rows

-- ---- trees have one schema

one_tree : (m n : ℕ) → Int (pos m) ≡ Int (pos n) → m ≡ n
one_tree m n same = cc

one_table : (row : Row) (one other : Table) → IsTableRow row one → IsTableRow row other → one ≡ other
one_table row one other a b =
    let trees : one.tree + 1 ≡ other.tree + 1 = one_tree _ _ (sym a.described.id ∙ b.described.id) in
    let tree : one.tree ≡ other.tree = omega (arith, trees) in
    let texts : a.sql ≡ b.sql = let same = sym a.sql_is ∙ b.sql_is in cc in
    let made : Ok a.defined.0 ≡ Ok b.defined.0 = sym a.defined.1 ∙ ap table_defined_by texts ∙ b.defined.1 in
    let same : a.defined.0 ≡ b.defined.0 = same_value made in
    a.defined.2 ∙ ap₂ (λ (t : Table) n. record t { tree = n }) same tree ∙ sym b.defined.2

one_list : (rows : List Row) (one other : List Table) → AllZip IsTableRow rows one → AllZip IsTableRow rows other
    → one ≡ other
one_list [] [] [] a b = refl
one_list [] [] (t ∷ other) a b = absurd b
one_list [] (t ∷ one) other a b = absurd a
one_list (r ∷ rows) [] other a b = absurd a
one_list (r ∷ rows) (t ∷ one) [] a b = absurd b
one_list (r ∷ rows) (t ∷ one) (u ∷ other) a b = ap₂ ◌∷◌ (one_table r t u a.0 b.0) (one_list rows one other a.1 b.1)

none_other : {A B : Type 0} (Q R : A → B → Type 0) (xs : List A) (ys : List B) → AllZip Q xs [] → AllZip R xs ys
    → ys ≡ []
none_other Q R [] [] a b = refl
none_other Q R [] (y ∷ ys) a b = absurd b
none_other Q R (x ∷ xs) ys a b = absurd a

abbrev schema_of : List Table → List Index → List Stored → Schema
schema_of tables indexes views = record { tables = tables; indexes = indexes; views = views }

-- whatever lists a schema with no index and no view lists no other
one_schema : (db : Trees) (schema : Schema) (tables : List Table) → IsDatabase (record { schema = schema; trees = db })
    → IsDatabase (record { schema = schema_of tables [] []; trees = db }) → schema ≡ schema_of tables [] []
one_schema db schema tables a b =
    let here = a.lists.listed in
    let there = b.lists.listed in
    let same : schema.tables ≡ tables = one_list _ schema.tables tables here.tables there.tables in
    let no_index : schema.indexes ≡ [] = none_other (IsIndexRow tables) (IsIndexRow schema.tables) _ schema.indexes
    there.indexes here.indexes in
    let no_view : schema.views ≡ [] = none_other IsViewRow IsViewRow _ schema.views there.views here.views in
    let all : schema_of schema.tables schema.indexes schema.views ≡ schema_of tables [] [] =
    rw (same, no_index, no_view) refl in
    all

-- a list of objects can't be that of no table and of the journal
never_both : (db : Trees) → IsDatabase (record { schema = no_schema; trees = db })
    → IsDatabase (record { schema = journal_schema; trees = db }) → ⊥
never_both db none some = let same = one_schema db no_schema journal_schema.tables none some in let tables = ap
    (λ (s : Schema). s.tables) same in cc

-- what a run finds is what the files hold
pub reads_same : (left : Image) (session again : List Row) (rows found : List RowBytes) → HoldsRows left session rows
    → AreFound left again found → found ≡ rows
reads_same left session again rows found holds goes =
    let shows : entry_rows 1 found ≡ entry_rows 1 rows = ∥∥₁_elim holds (rows_set _ _) (λ it. elim (goes it.0 it.1) [
      | inl none ↦ absurd (never_both it.0 none.1 it.2.sound)
      | inr kept ↦ ap (entry_rows 1) (kept_once session again rows found it.0 it.2 kept)
    ]) in
    sym (texts_again 1 found) ∙ ap (map texts_in) shows ∙ texts_again 1 rows

-- ---- what is refused

not_for_rows : (session : List Row) (rows : List RowBytes) (fault : TakeFault) (schema : Schema) (db : Trees)
    → AreKept session rows db → IsDatabase (record { schema = schema; trees = db })
    → RefusesJournal session (record { schema = schema; trees = db }) fault → is_failure fault ≡ true
not_for_rows session rows Busy schema db kept sound cause = refl
not_for_rows session rows Damaged schema db kept sound cause = refl
not_for_rows session rows Unread schema db kept sound cause = refl
not_for_rows session rows OutOfMemory schema db kept sound cause = refl
not_for_rows session rows NotAJournal schema db kept sound cause = absurd
    (cause.1 (one_schema db schema journal_schema.tables sound kept.sound))
not_for_rows session rows OtherSession schema db kept sound cause = absurd (cause.1 kept.session_is)
not_for_rows session rows Misnumbered schema db kept sound cause = absurd (cause.1 rows kept.are_entries kept.entries)

not_for_blank : (session : List Row) (fault : TakeFault) (schema : Schema) (db : Trees)
    → IsDatabase (record { schema = no_schema; trees = db }) → IsDatabase (record { schema = schema; trees = db })
    → RefusesJournal session (record { schema = schema; trees = db }) fault → is_failure fault ≡ true
not_for_blank session Busy schema db none sound cause = refl
not_for_blank session Damaged schema db none sound cause = refl
not_for_blank session Unread schema db none sound cause = refl
not_for_blank session OutOfMemory schema db none sound cause = refl
not_for_blank session NotAJournal schema db none sound cause = absurd (cause.0 (one_schema db schema [] sound none))
not_for_blank session OtherSession schema db none sound cause =
    absurd (never_both db none (subst (λ s. IsDatabase (record { schema = s; trees = db })) cause.0 sound))
not_for_blank session Misnumbered schema db none sound cause =
    absurd (never_both db none (subst (λ s. IsDatabase (record { schema = s; trees = db })) cause.0 sound))

-- where the files hold a database for which nothing is refused, the disk is the cause
module _ (left : Image) (session : List Row) (fault : TakeFault) (Holds : Trees → Type 0)
    (never : (schema : Schema) (db : Trees) → Holds db → IsDatabase (record { schema = schema; trees = db })
    → RefusesJournal session (record { schema = schema; trees = db }) fault → is_failure fault ≡ true) where
  not_refused : ∥ ((db : Trees) × HoldsDatabase left db × Holds db) ∥₁ → IsRefusedJournal left session fault
      → is_failure fault ≡ true
  not_refused holds (inl failed) = failed
  not_refused holds (inr refused) = ∥∥₁_elim holds (Bool-set _ _)
      (λ it. never refused.schema refused.db (subst Holds (sym (refused.found.holds it.0 it.1)) it.2) refused.sound
      refused.cause)

pub rows_not_refused : (left : Image) (session : List Row) (rows : List RowBytes) (fault : TakeFault)
    → HoldsRows left session rows → IsRefusedJournal left session fault → is_failure fault ≡ true
rows_not_refused left session rows fault = not_refused left session fault (AreKept session rows)
    (λ schema db kept sound cause. not_for_rows session rows fault schema db kept sound cause)

pub either_not_refused : (left : Image) (session : List Row) (before after : List RowBytes) (fault : TakeFault)
    → HoldsEither left session before after → IsRefusedJournal left session fault → is_failure fault ≡ true
either_not_refused left session before after fault = not_refused left session fault
    (λ db. AreKept session before db ⊎ AreKept session after db)
    (λ schema db kept sound cause. elim kept [
      | inl one ↦ not_for_rows session before fault schema db one sound cause
      | inr other ↦ not_for_rows session after fault schema db other sound cause
    ])

pub first_not_refused : (left : Image) (session : List Row) (fault : TakeFault)
    → HoldsFirst left session → IsRefusedJournal left session fault → is_failure fault ≡ true
first_not_refused left session fault = not_refused left session fault
    (λ db. IsDatabase (record { schema = no_schema; trees = db }) ⊎ AreKept session [] db)
    (λ schema db kept sound cause. elim kept [
      | inl none ↦ not_for_blank session fault schema db none sound cause
      | inr rows ↦ not_for_rows session [] fault schema db rows sound cause
    ])

-- ---- what holds a journal's rows

rows_hold : (left : Image) (session : List Row) (rows : List RowBytes) (Cause : Database → Type 0)
    → ((schema : Schema) (db : Trees) → AreKept session rows db → IsDatabase (record { schema = schema; trees = db })
    → ¬ Cause (record { schema = schema; trees = db }))
    → HoldsRows left session rows → ¬ IsRefusedAt left Cause
rows_hold left session rows Cause never holds refused = ∥∥₁_elim holds (λ one other. absurd one)
    (λ it. never refused.schema refused.db (subst (AreKept session rows) (sym (refused.found.holds it.0 it.1)) it.2)
    refused.sound refused.cause)

pub rows_hold_some : (left : Image) (session : List Row) (rows : List RowBytes) → HoldsRows left session rows → ¬ HoldsNone left
rows_hold_some left session rows holds none = ∥∥₁_elim holds (λ one other. absurd one) (λ it. none.0 (it.0, it.1))

-- there is a table
pub rows_hold_tables : (left : Image) (session : List Row) (rows : List RowBytes) → HoldsRows left session rows
    → ¬ IsRefusedAt left HasNone
rows_hold_tables left session rows = rows_hold left session rows HasNone
    (λ schema db kept sound none. never_both db
    (subst (λ s. IsDatabase (record { schema = s; trees = db })) none sound) kept.sound)

-- they are read, whichever session they are of
pub rows_read : (left : Image) (object boards : List ℕ) (rows : List RowBytes) → IsUtf8 object
    → HoldsRows left (session_row object boards ∷ []) rows → ¬ IsRefusedAt left (λ db. RefusesToRead db NotAJournal)
rows_read left object boards rows text = rows_hold left (session_row object boards ∷ []) rows (λ db. RefusesToRead db NotAJournal)
    (λ schema db kept sound cause. elim cause [
      | inl other ↦ other (one_schema db schema journal_schema.tables sound kept.sound)
      | inr none ↦ none object boards text kept.session_is
    ])

pub rows_numbered : (left : Image) (session : List Row) (rows : List RowBytes) → HoldsRows left session rows
    → ¬ IsRefusedAt left (λ db. RefusesToRead db Misnumbered)
rows_numbered left session rows = rows_hold left session rows (λ db. RefusesToRead db Misnumbered)
    (λ schema db kept sound cause. cause.1 rows kept.are_entries kept.entries)

abbrev first_of : List Row → Row
first_of [] = []
first_of (row ∷ rows) = row

-- the session that they are of is the one whose rows they are
pub same_session : (left : Image) (object boards other others : List ℕ) (rows found : List RowBytes)
    → HoldsRows left (session_row object boards ∷ []) rows
    → ((db : Trees) → HoldsDatabase left db → AreKept (session_row other others ∷ []) found db)
    → (other ≡ object) × (others ≡ boards)
same_session left object boards other others rows found holds held =
    let same : session_row object boards ∷ [] ≡ session_row other others ∷ [] = ∥∥₁_elim holds (rows_set _ _)
    (λ it. one_permutation (session_row other others) (session_row object boards ∷ [])
    (IsPermutation-trans _ _ _ (IsPermutation-sym _ _ (held it.0 it.1).session_is) it.2.session_is)) in (
      sym (ap (λ l. bytes (column (first_of l) 1)) same),
      sym (ap (λ l. bytes (column (first_of l) 2)) same),
    )

-- ---- whole publications

order : (m n : ℕ) → (m < n) ⊎ (n ≤ m)
order m zero = inr (omega arith)
order zero (suc n) = inl (omega arith)
order (suc m) (suc n) = elim (order m n) [ inl h ↦ inl (omega (arith, h)) | inr h ↦ inr (omega (arith, h)) ]

at_least : (last : ℕ) (rows : List RowBytes) → AreInOrder last rows → last ≤ last_publication last rows
at_least last [] are = omega arith
at_least last (it ∷ rows) are =
    let first = are.0.not_before in
    let rest = at_least it.publication rows are.1 in
    omega (arith, first, rest)

apart : (m n : ℕ) → m < n → (m == n) ≡ false
apart m n h = grind (arith, nat_tests)

apart_too : (m n : ℕ) → n < m → (m == n) ≡ false
apart_too m n h = grind (arith, nat_tests)

-- no row is of a later publication than the last
none_later : (last publication : ℕ) (rows : List RowBytes) → AreInOrder last rows
    → last_publication last rows < publication → rows_of_publication publication rows ≡ []
none_later last publication [] are later = refl
none_later last publication (it ∷ rows) are later =
    let low = at_least it.publication rows are.1 in
    rw (apart it.publication publication (omega (arith, low, later)))
    (none_later it.publication publication rows are.1 later)

none_earlier : (next publication : ℕ) (rows : List RowBytes) → publication < next
    → AllByRecursion (λ it. it.publication ≡ next) rows → rows_of_publication publication rows ≡ []
none_earlier next publication [] low are = refl
none_earlier next publication (it ∷ rows) low are =
    rw (apart_too it.publication publication (omega (arith, low, are.0))) (none_earlier next publication rows low are.1)

whole_before : (before added : List RowBytes) → AreInOrder 0 before → IsNextPublication before added
    → AreWhole (before ++ added) before
whole_before before added are next publication some = elim (order (last_publication 0 before) publication) [
  | inl later ↦ absurd (some (none_later 0 publication before are later))
  | inr earlier ↦
      let none = none_earlier (last_publication 0 before + 1) publication added (omega (arith, earlier))
      (recursion_from_All _ added next) in
      sym (filter-append (λ (it : RowBytes). it.publication == publication) before added
      ∙ rw none (append-nil (rows_of_publication publication before)))
]

pub whole_publications : (left : Image) (session again : List Row) (before added found : List RowBytes)
    → HoldsEither left session before (before ++ added)
    → IsNextPublication before added → AreFound left again found → AreWhole (before ++ added) found
whole_publications left session again before added found holds next goes publication some =
    let all = before ++ added in
    let shows : entry_rows 1 (rows_of_publication publication found) ≡ entry_rows 1 (rows_of_publication publication all) = ∥∥₁_elim holds
    (rows_set _ _) (λ it. elim (goes it.0 it.1) [
      | inl none ↦ absurd (some (ap (rows_of_publication publication) none.0))
      | inr kept ↦ elim it.2 [
        | inl earlier ↦
            let is = kept_once session again before found it.0 earlier kept in
            let whole = whole_before before added earlier.are_entries.in_order next publication
            (subst (λ l. rows_of_publication publication l ≢ []) is some) in
            ap (λ l. entry_rows 1 (rows_of_publication publication l)) is ∙ ap (entry_rows 1) whole
        | inr later ↦ ap (λ l. entry_rows 1 (rows_of_publication publication l)) (kept_once session again all found it.0 later kept)
      ]
    ]) in
    sym (texts_again 1 (rows_of_publication publication found)) ∙ ap (map texts_in) shows ∙ texts_again 1 (rows_of_publication publication all)

-- ---- the same, for what is taken up

pub again : (session : List Row) (rows : List RowBytes) (old new : State) (r : Result (Vec RowText Global) TakeFault)
    → IsIdle old → Keeps session rows old.now
    → IfOk r (λ found. TakesUp session (map texts_of found.items) old new) → IfErr r (RefusesJournal session old.now)
    → MatchResult r (λ found. map texts_of found.items ≡ rows) (λ fault. is_failure fault ≡ true)
again session rows old new (Ok found) idle keeps takes refuses = elim takes.found [
  | inl none ↦ absurd (never_both old.now.trees
      (subst (λ s. IsDatabase (record { schema = s; trees = old.now.trees })) none.0 idle.sound) keeps.kept.sound)
  | inr kept ↦ kept_once session session rows (map texts_of found.items) old.now.trees keeps.kept kept.kept
]
again session rows old new (Err fault) idle keeps takes refuses = not_for_rows session rows fault old.now.schema
    old.now.trees keeps.kept idle.sound refuses
