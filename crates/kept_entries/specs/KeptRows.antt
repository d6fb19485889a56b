-- own: publications of entries as the rows of a journal. Each entry has a row, with the number of its publication, from
-- 1.
use Rattle.std.specs.Prelude.{◌<◌, ◌≤◌, ℕ, ◌+◌, suc, List, [], ◌∷◌, ◌++◌, map, length, All}
use Rattle.std.specs.Global.{Vec}
use Rattle.session_commands.specs.declared.entry.Entry.{Entry}
use Rattle.entry_texts.specs.EntryTexts.{texts_of_entry, IsKeepable}
use Rattle.journal_store.specs.Tables.{RowBytes}

-- the row of an entry in the publication of a number
abbrev pub row_in : ℕ → Entry → RowBytes
row_in number entry = record {
  publication = number;
  actor = (texts_of_entry entry).actor;
  command = (texts_of_entry entry).command;
}

-- the rows of publications that are numbered on from a number
abbrev pub rows_from : ℕ → List (List Entry) → List RowBytes
rows_from number [] = []
rows_from number (entries ∷ later) = map (row_in number) entries ++ rows_from (suc number) later

-- the rows of publications
abbrev pub rows_of : List (List Entry) → List RowBytes
rows_of published = rows_from 1 published

-- the publications of rows are counted: behind one of a number a row is of the same, or of the next
abbrev pub AreCounted : ℕ → List RowBytes → Type 0
AreCounted last [] = Unit {0}
AreCounted last (it ∷ more) =
    (1 ≤ it.publication) × (last ≤ it.publication) × (it.publication ≤ last + 1) × AreCounted it.publication more

-- it has an entry, and each of its entries can be kept
pub record IsKeptPublication (entries : List Entry) : Type 0 where
  pub some : 0 < length entries
  pub keepable : All IsKeepable entries

-- each publication can be kept
abbrev pub AreKeepable : List (List Entry) → Type 0
AreKeepable published = All IsKeptPublication published

-- the entries of each publication
abbrev pub lists_in : List (Vec Entry) → List (List Entry)
lists_in published = map (λ entries. entries.items) published
