-- What keeping a publication does to what a crash leaves.
use Rattle.std.proofs.Common.{◌≡◌, ◌⊎◌, inl, inr, ◌<◌, ◌≤◌, ℕ, suc, ◌+◌, List, [], ◌∷◌, ◌++◌, length, map, All, refl, sym, ap, subst, ◌∙◌, length-append, arith}
use Rattle.std.specs.List.{AllByRecursion}
use Rattle.std.proofs.lemmas.List.{length-map}
use Rattle.std.proofs.lemmas.List.Elements.{All-map, All-push, recursion_from_All}
use Rattle.sqlite.specs.Order.{Row}
use Rattle.sqlite.specs.Tree.{Trees}
use Rattle.sqlite.specs.State.{State}
use Rattle.session_commands.specs.declared.entry.Entry.{Entry}
use Rattle.entry_texts.specs.EntryTexts.{IsKeepable}
use Rattle.entry_store.specs.Keeping.{LeavesOneMore, LeavesAsBefore}
use Rattle.journal_store.specs.Tables.{RowBytes}
use Rattle.journal_store.specs.Kept.{AreKept, Rests, LeavesEither, last_publication, IsNextPublication}
use Rattle.journal_store.proofs.RestartLemmas.{kept_once}
use Rattle.kept_entries.specs.KeptRows.{row_in, rows_from, rows_of, IsKeptPublication, AreKeepable}
use Rattle.kept_entries.proofs.RowLemmas.{rows_tell, rows_of-push}
use Rattle.row_journal.specs.Leaving.{KeepsPublications, LeavesPublications, Outcomes, Follows}

-- ---- the numbers of publications

last_in : (number : ℕ) (entries : List Entry) (rest : List RowBytes)
    → last_publication (suc number) (map (row_in (suc number)) entries ++ rest) ≡ last_publication (suc number) rest
last_in number [] rest = refl
last_in number (entry ∷ entries) rest = last_in number entries rest

last_from : (number : ℕ) (published : List (List Entry)) → AllByRecursion IsKeptPublication published
    → last_publication number (rows_from (suc number) published) ≡ number + length published
last_from number [] kept = omega arith
last_from number ([] ∷ later) kept = absurd (omega (arith, kept.0.some))
last_from number ((entry ∷ entries) ∷ later) kept =
    last_in number entries (rows_from (suc (suc number)) later) ∙ last_from (suc number) later kept.1 ∙ omega arith

pub last_of : (published : List (List Entry)) → AreKeepable published
    → last_publication 0 (rows_of published) ≡ length published
last_of published kept = last_from 0 published (recursion_from_All IsKeptPublication published kept) ∙ omega arith

few_from : (number : ℕ) (published : List (List Entry)) → AllByRecursion IsKeptPublication published
    → length published ≤ length (rows_from number published)
few_from number [] kept = omega arith
few_from number (entries ∷ later) kept =
    omega (
      arith,
      kept.0.some,
      few_from (suc number) later kept.1,
      length-map entries (row_in number),
      length-append (map (row_in number) entries) (rows_from (suc number) later),
    )

-- there are no more publications than rows
pub few_of : (published : List (List Entry)) → AreKeepable published → length published ≤ length (rows_of published)
few_of published kept = few_from 1 published (recursion_from_All IsKeptPublication published kept)

-- ---- what a crash leaves

pub same_published : (session again : List Row) (published found : List (List Entry)) (db : Trees)
    → KeepsPublications session published db → KeepsPublications again found db → found ≡ published
same_published session again published found db here there =
    rows_tell found published there.keepable here.keepable (kept_once session again (rows_of published)
    (rows_of found) db here.rows there.rows)

pub outcomes_rest : (session : List Row) (published : List (List Entry)) (s : State) → AreKeepable published
    → Rests session (rows_of published) s → Outcomes s
outcomes_rest session published s keepable rests =
    λ db may. (session, published, record { rows = rests.crash db may; keepable = keepable })

pub leaves_rest : (session : List Row) (published : List (List Entry)) (s : State) → AreKeepable published
    → Rests session (rows_of published) s → (found : List (List Entry)) → LeavesPublications s found → found ≡ published
leaves_rest session published s keepable rests found left =
    same_published session left.0 published found left.1
    (record { rows = rests.crash left.1 left.2; keepable = keepable }) left.3

pub leaves_now : (session : List Row) (published : List (List Entry)) (s : State) → AreKeepable published
    → Rests session (rows_of published) s → s.may_leave s.committed.trees → LeavesPublications s published
leaves_now session published s keepable rests stays =
    (session, s.committed.trees, stays, record { rows = rests.committed.kept; keepable = keepable })

-- ---- a publication more, whose rows are added

module _ (old new : State) (next last : ℕ) (f : Follows old next last) (entries : List Entry)
    (some : 0 < length entries) (keepable : All IsKeepable entries)
    (stays : old.may_leave old.committed.trees) (added : List RowBytes) (rows : added ≡ map (row_in
    (last + 1)) entries) where
  abbrev after : List (List Entry)
  after = f.published ++ entries ∷ []

  rows_after : rows_of after ≡ rows_of f.published ++ added
  rows_after = rows_of-push f.published entries
      ∙ ap (λ l. rows_of f.published ++ l) (ap (λ n. map (row_in (n + 1)) entries) (sym f.last_is) ∙ sym rows)

  keepable_after : AreKeepable after
  keepable_after = All-push IsKeptPublication f.published entries f.keepable (record { some = some; keepable = keepable })

  pub next_publication : IsNextPublication (rows_of f.published) added
  next_publication =
      let number : last + 1 ≡ last_publication 0 (rows_of f.published) + 1 = ap (λ n. n + 1) (f.last_is
      ∙ sym (last_of f.published f.keepable)) in
      subst (IsNextPublication (rows_of f.published)) (sym rows)
      (All-map (λ (it : RowBytes). it.publication ≡ last_publication 0 (rows_of f.published) + 1) (row_in
      (last + 1)) entries (λ k d low. number))

  left_before : LeavesPublications old f.published
  left_before = leaves_now f.session f.published old f.keepable f.rests stays

  one_more : (db : Trees) → AreKept f.session (rows_of f.published ++ added) db
      → KeepsPublications f.session (f.published ++ entries ∷ []) db
  one_more db kept = record {
    rows = subst (λ l. AreKept f.session l db)
        (sym rows_after) kept;
    keepable = keepable_after;
  }

  pub kept_ok : Rests f.session (rows_of f.published ++ added) new → LeavesOneMore (LeavesPublications old) entries (LeavesPublications new)
  kept_ok now = λ found left. (
    f.published,
    left_before,
    same_published f.session left.0 (f.published ++ entries ∷ []) found left.1 (one_more left.1
        (now.crash left.1 left.2)) left.3,
  )

  pub kept_not : Rests f.session (rows_of f.published) new → LeavesAsBefore (LeavesPublications old) (LeavesPublications new)
  kept_not now = λ found left.
      subst (LeavesPublications old) (sym (leaves_rest f.session f.published new f.keepable now found left)) left_before

  pub kept_unsure : LeavesEither f.session (rows_of f.published) (rows_of f.published ++ added) new
      → (found : List (List Entry)) → LeavesPublications new found
      → LeavesPublications old found ⊎ ((kept : List (List Entry)) × LeavesPublications old kept × (found ≡ kept ++ entries ∷ []))
  kept_unsure either = λ found left. elim (either left.1 left.2) [
    | inl none ↦ inl (subst (LeavesPublications old)
        (sym (same_published f.session left.0 f.published found left.1
        (record { rows = none; keepable = f.keepable }) left.3)) left_before)
    | inr all ↦ inr (
      f.published,
      left_before,
      same_published f.session left.0 (f.published ++ entries ∷ []) found left.1 (one_more left.1 all) left.3,
    )
  ]

  pub outcomes_either : LeavesEither f.session (rows_of f.published) (rows_of f.published ++ added) new → Outcomes new
  outcomes_either either = λ db may. elim (either db may) [
    | inl none ↦ (f.session, f.published, record { rows = none; keepable = f.keepable })
    | inr all ↦ (f.session, f.published ++ entries ∷ [], one_more db all)
  ]

  pub follows_on : Rests f.session (rows_of f.published ++ added) new → Follows new (next + length entries) (last + 1)
  follows_on now = record {
    session = f.session;
    published = f.published ++ entries ∷ [];
    rests = subst (λ l. Rests f.session l new) (sym rows_after) now;
    keepable = keepable_after;
    next_row =
        let count : length added ≡ length entries = ap length rows ∙ length-map entries (row_in (last + 1)) in
        let counts : length (rows_of (f.published ++ entries ∷ [])) ≡ length (rows_of f.published) + length added =
        ap length rows_after ∙ length-append (rows_of f.published) added in
        omega (arith, f.next_row, count, counts);
    last_is = omega (arith, f.last_is, length-append f.published (entries ∷ []));
  }

pub follows_still : (old new : State) (next last : ℕ) (f : Follows old next last)
    → Rests f.session (rows_of f.published) new → Follows new next last
follows_still old new next last f now = record {
  session = f.session;
  published = f.published;
  rests = now;
  keepable = f.keepable;
  next_row = f.next_row;
  last_is = f.last_is;
}

pub outcomes_follow : (s : State) (next last : ℕ) → Follows s next last → Outcomes s
outcomes_follow s next last f = outcomes_rest f.session f.published s f.keepable f.rests
