-- Entries are put together as publications, one row after another.
use Rattle.std.proofs.Common.{◌≡◌, ◌⊎◌, inl, inr, ◌<◌, ◌≤◌, ℕ, zero, suc, ◌+◌, List, [], ◌∷◌, ◌++◌, length, map, take, drop, get_or, All, refl, sym, ap, subst, ◌∙◌, append-nil, append_assoc, length-append, add-one, arith}
use Rattle.std.specs.List.{AllByRecursion}
use Rattle.std.proofs.Math.Seq.{take-suc}
use Rattle.std.proofs.lemmas.List.{map-append, take_all}
use Rattle.std.proofs.lemmas.List.Elements.{All-nil, All-push, recursion_from_All}
use Rattle.session_commands.specs.declared.entry.Entry.{Entry}
use Rattle.entry_texts.specs.EntryTexts.{IsKeepable}
use Rattle.journal_store.specs.Tables.{RowBytes}
use Rattle.kept_entries.specs.Grouping.{BeginsNext}
use Rattle.kept_entries.specs.KeptRows.{row_in, rows_from, rows_of, AreCounted, IsKeptPublication, AreKeepable}
use Rattle.kept_entries.proofs.RowLemmas.{rows_of-push}

-- the rows up to a place are those of whole publications, and of the last one so far
pub record Grouped (texts : List RowBytes) (place : ℕ) (published : List (List Entry)) (last : List Entry) : Type 0 where
  pub rows : take place texts ≡ rows_of published ++ map (row_in (length published + 1)) last
  pub kept : AreKeepable published
  pub keepable : All IsKeepable last

pub grouped_none : (texts : List RowBytes) → Grouped texts 0 [] []
grouped_none texts = record { rows = refl; kept = All-nil IsKeptPublication; keepable = All-nil IsKeepable }

pub grouped_begun : (texts : List RowBytes) (place number : ℕ) (published : List (List Entry)) (last : List Entry)
    (new : List (List Entry)) (rest : List Entry)
    → Grouped texts place published last → BeginsNext number published last new rest → Grouped texts place new rest
grouped_begun texts place number published last new rest g begins = elim begins [
  | inl same ↦ subst (λ l. Grouped texts place new l) (sym same.2) (subst (λ p. Grouped texts place p last)
      (sym same.1) g)
  | inr next ↦ subst (λ l. Grouped texts place new l) (sym next.3) (subst (λ p. Grouped texts place p []) (sym next.2)
      (record {
        rows = g.rows ∙ sym (rows_of-push published last) ∙ sym (append-nil (rows_of (published ++ last ∷ [])));
        kept = All-push IsKeptPublication published last g.kept (record { some = next.1; keepable = g.keepable });
        keepable = All-nil IsKeepable;
      }))
]

-- one row more of the last publication
pub grouped_entered : (texts : List RowBytes) (place : ℕ) (published : List (List Entry)) (last : List Entry)
    (it : RowBytes) (entry : Entry)
    → Grouped texts place published last → place < length texts → get_or texts place it ≡ it
    → it.publication ≡ length published + 1
    → IsKeepable entry → it ≡ row_in it.publication entry → Grouped texts (place + 1) published (last ++ entry ∷ [])
grouped_entered texts place published last it entry g low at number keepable is =
    let row : it ≡ row_in (length published + 1) entry = subst (λ n. it ≡ row_in n entry) number is in
    record {
      rows = rw (add-one place) (take-suc texts place it low ∙ ap (λ r. take place texts ++ r ∷ []) (at ∙ row)
          ∙ ap (λ l. l ++ row_in (length published + 1) entry ∷ []) g.rows
          ∙ append_assoc (rows_of published) (map (row_in (length published + 1)) last) (row_in
          (length published + 1) entry ∷ [])
          ∙ ap (λ l. rows_of published ++ l) (sym (map-append (row_in (length published + 1)) last (entry ∷ []))));
      kept = g.kept;
      keepable = All-push IsKeepable last entry g.keepable keepable;
    }

-- all rows are those of publications, with the last one if it has an entry
pub grouped_last : (texts : List RowBytes) (place : ℕ) (published : List (List Entry)) (last : List Entry)
    → Grouped texts place published last
    → length texts ≤ place → 0 < length last → (texts ≡ rows_of (published ++ last ∷ []))
    × AreKeepable (published ++ last ∷ [])
grouped_last texts place published last g all some = (
  sym (take_all place texts all) ∙ g.rows ∙ sym (rows_of-push published last),
  All-push IsKeptPublication published last g.kept (record { some = some; keepable = g.keepable }),
)

pub grouped_all : (texts : List RowBytes) (place : ℕ) (published : List (List Entry)) (last : List Entry)
    → Grouped texts place published last
    → length texts ≤ place → last ≡ [] → (texts ≡ rows_of published) × AreKeepable published
grouped_all texts place published last g all none = (
  sym (take_all place texts all) ∙ g.rows
      ∙ ap (λ l. rows_of published ++ map (row_in (length published + 1)) l) none ∙ append-nil (rows_of published),
  g.kept,
)

-- ---- rows of publications are counted from 1

counted_entries : (number : ℕ) (entries : List Entry) (rest : List RowBytes) → AreCounted (suc number) rest
    → AreCounted (suc number) (map (row_in (suc number)) entries ++ rest)
counted_entries number [] rest counted = counted
counted_entries number (entry ∷ entries) rest counted =
    (omega arith, omega arith, omega arith, counted_entries number entries rest counted)

counted : (number : ℕ) (published : List (List Entry)) → AllByRecursion IsKeptPublication published
    → AreCounted number (rows_from (suc number) published)
counted number [] kept = tt
counted number ([] ∷ later) kept = absurd (omega (arith, kept.0.some))
counted number ((entry ∷ entries) ∷ later) kept = (
  omega arith,
  omega arith,
  omega arith,
  counted_entries number entries (rows_from (suc (suc number)) later) (counted (suc number) later kept.1),
)

pub rows_counted : (published : List (List Entry)) → AreKeepable published → AreCounted 0 (rows_of published)
rows_counted published kept = counted 0 published (recursion_from_All IsKeptPublication published kept)

-- the rows from a place on are counted on from the last publication
pub record InTurn (texts : List RowBytes) (place : ℕ) (published : List (List Entry)) (last : List Entry) : Type 0 where
  pub number : ℕ
  pub order : AreCounted number (drop place texts)
  pub stands : ((number ≡ 0) × (published ≡ []) × (last ≡ [])) ⊎ ((0 < length last) × (number ≡ length published + 1))

pub in_turn_none : (texts : List RowBytes) → AreCounted 0 texts → InTurn texts 0 [] []
in_turn_none texts counted = record { number = 0; order = counted; stands = inl (refl, refl, refl) }

-- the row at a place, and those behind it
row_at : (texts : List RowBytes) (place number : ℕ) → AreCounted number (drop place texts) → place < length texts
    → (it : RowBytes) × (((d : RowBytes) → get_or texts place d ≡ it) × (1 ≤ it.publication) × (number ≤ it.publication)
    × (it.publication ≤ number + 1) × AreCounted it.publication (drop (suc place) texts))
row_at [] place number order low = absurd (omega (arith, low))
row_at (it ∷ more) zero number order low = (it, (λ d. refl, order.0, order.1, order.2, order.3))
row_at (it ∷ more) (suc place) number order low = row_at more place number order (omega (arith, low))

abbrev Next : List RowBytes → ℕ → ℕ → RowBytes → Type 0
Next texts place number it =
    (1 ≤ it.publication) × (number ≤ it.publication) × (it.publication ≤ number + 1)
    × AreCounted it.publication (drop (suc place) texts)

next_row : (texts : List RowBytes) (place number : ℕ) (it : RowBytes) → AreCounted number (drop place texts)
    → place < length texts → get_or texts place it ≡ it → Next texts place number it
next_row texts place number it order low at =
    let row = row_at texts place number order low in
    let same : row.0 ≡ it = sym (row.1.0 it) ∙ at in
    subst (Next texts place number) same (row.1.1, row.1.2, row.1.3, row.1.4)

-- the next row is one of the publication that is the last by then
pub in_turn_begun : (texts : List RowBytes) (place : ℕ) (published : List (List Entry)) (last : List Entry) (new : List
    (List Entry)) (rest : List Entry) (it : RowBytes)
    → InTurn texts place published last → place < length texts → get_or texts place it ≡ it
    → BeginsNext it.publication published last new rest
    → it.publication ≡ length new + 1
in_turn_begun texts place published last new rest it turn low at begins =
    let next = next_row texts place turn.number it turn.order low at in
    elim turn.stands [
      | inl first ↦ elim begins [
        | inl same ↦ let none : length new ≡ 0 = ap length same.1
            ∙ ap length first.1 in omega (arith, next.0, next.2, first.0, none)
        | inr more ↦ let none : length last ≡ 0 = ap length first.2 in absurd (omega (arith, more.1, none))
      ]
      | inr more ↦ elim begins [
        | inl same ↦ let count : length new ≡ length published = ap length same.1 in elim same.0 [
          | inl most ↦ omega (arith, most, more.1, next.1, count)
          | inr none ↦ let empty : length last ≡ 0 = ap length none in absurd (omega (arith, more.0, empty))
        ]
        | inr up ↦
            let count : length new ≡ length published + 1 = ap length up.2 ∙ length-append published (last ∷ []) in
            omega (arith, up.0, more.1, next.2, count)
      ]
    ]

pub in_turn_entered : (texts : List RowBytes) (place : ℕ) (published : List (List Entry)) (last : List Entry) (new : List
    (List Entry)) (rest : List Entry) (it : RowBytes) (entry : Entry)
    → InTurn texts place published last → place < length texts → get_or texts place it ≡ it
    → it.publication ≡ length new + 1
    → InTurn texts (place + 1) new (rest ++ entry ∷ [])
in_turn_entered texts place published last new rest it entry turn low at number =
    let next = next_row texts place turn.number it turn.order low at in
    record {
      number = it.publication;
      order = rw (add-one place) next.3;
      stands = inr (omega (arith, length-append rest (entry ∷ [])), number);
    }
