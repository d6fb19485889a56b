-- What the texts of rows tell, without the numbers of their publications.
use Rattle.std.specs.Prelude.{◌≡◌, ◌≢◌, ◌⊎◌, ◌<◌, ℕ, zero, suc, true, Option, None, Some, List, [], ◌∷◌, map, length, string_bytes, slice_get, slice_index_or, All}
use Rattle.session_commands.specs.declared.command.Command.TheVariants as command
use Rattle.session_commands.specs.declared.entry.Entry.{Entry}
use Rattle.session_commands.specs.Command.{is_solvers}
use Rattle.entry_texts.specs.EntryTexts.{Texts, texts_of_entry, IsKeepable}
use Rattle.entry_texts.specs.Kept.{IsReadable}
use Rattle.entry_texts.specs.declared.kept_entry.KeptEntry.{KeptEntry}
use Rattle.entry_texts.specs.declared.kept_entry.KeptEntry.TheVariants.{Given, Solved, Analysed}
use Rattle.journal_store.specs.declared.row_text.RowText.{RowText}
use Rattle.journal_store.specs.Kept.{texts_of, most_entry_rows}
use Rattle.kept_entries.specs.declared.read_fault.RowFault.{RowFault}
use Rattle.kept_entries.specs.declared.read_fault.RowFault.TheVariants.{OutOfMemory, Misnumbered, Unreadable, Unsolved}
use Rattle.kept_entries.specs.declared.solving.SolvedAt.{SolvedAt}
use Rattle.kept_entries.specs.KeptRows.{AreCounted}

-- the texts of a row
abbrev pub told_by : RowText → Texts
told_by row = record { actor = string_bytes row.actor; command = string_bytes row.command }

-- the rows are those of these entries, and these can be kept
pub record AreOf (rows : List RowText) (entries : List Entry) : Type 0 where
  pub keepable : All IsKeepable entries
  pub texts : map told_by rows ≡ map texts_of_entry entries

-- each entry is one that can be accepted: what a client can send, of a user, or what the solver tells
abbrev pub AreReadable : List Entry → Type 0
AreReadable entries = All (λ entry. IsReadable entry.actor entry.command) entries

-- the entry that texts tell: of a table its deal, of costs their play, and so the numbers
abbrev pub entry_told : KeptEntry → Entry
entry_told (Given entry) = entry
entry_told (Solved actor board deal) = record { actor = actor; command = command.Solved board deal }
entry_told (Analysed actor cell deal contract play) = record {
  actor = actor;
  command = command.Analysed cell (record { deal = deal; contract = contract; play = play });
}

-- want of memory, or of visits
abbrev pub IsReadingWant : RowFault → Type 0
IsReadingWant OutOfMemory = Unit {0}
IsReadingWant Misnumbered = ⊥
IsReadingWant (Unreadable number) = ⊥
IsReadingWant (Unsolved number) = Unit {0}

-- ---- why rows aren't read

-- the texts of the row are those of no entry that can be accepted
abbrev pub IsNoEntry : RowText → Type 0
IsNoEntry row =
    (entry : Entry) → IsKeepable entry → IsReadable entry.actor entry.command → told_by row ≢ texts_of_entry entry

-- if the texts of the row are those of an entry that can be accepted, that tells a table, or costs
abbrev pub TellsNumbers : RowText → Type 0
TellsNumbers row =
    (entry : Entry) → IsKeepable entry → IsReadable entry.actor entry.command → told_by row ≡ texts_of_entry entry
    → is_solvers entry.command ≡ true

-- the row of a number, counted from 1
abbrev pub row_numbered : List RowText → ℕ → Option RowText
row_numbered rows zero = None
row_numbered rows (suc place) = slice_get rows place

-- What each fault says of the rows. Want of memory says nothing. They are misnumbered where there are too many, or where
-- their publications aren't counted from 1; and the row that is named is no entry's that can be accepted, or one of the
-- solver's.
abbrev pub WhyNotRead : List RowText → RowFault → Type 0
WhyNotRead rows OutOfMemory = Unit {0}
WhyNotRead rows Misnumbered = (most_entry_rows < length rows) ⊎ (¬ AreCounted 0 (map texts_of rows))
WhyNotRead rows (Unreadable number) =
    (row : RowText) × (row_numbered rows number ≡ Some row) × IsNoEntry row
WhyNotRead rows (Unsolved number) =
    (row : RowText) × (row_numbered rows number ≡ Some row) × TellsNumbers row

-- ---- for private clauses

-- what each fault says of the row of a number
abbrev pub WhyRowNotRead : RowText → ℕ → RowFault → Type 0
WhyRowNotRead row number OutOfMemory = Unit {0}
WhyRowNotRead row number Misnumbered = ⊥
WhyRowNotRead row number (Unreadable named) = (named ≡ number) × IsNoEntry row
WhyRowNotRead row number (Unsolved named) = (named ≡ number) × TellsNumbers row

-- where the row is that of an entry that can be accepted, it is told
abbrev pub IsTold : RowText → KeptEntry → Type 0
IsTold row kept =
    (entry : Entry) → IsKeepable entry → IsReadable entry.actor entry.command → told_by row ≡ texts_of_entry entry
    → entry_told kept ≡ entry

-- the same of each row
abbrev pub AreTold : List RowText → List KeptEntry → Type 0
AreTold [] [] = Unit {0}
AreTold [] (kept ∷ read) = ⊥
AreTold (row ∷ rows) [] = ⊥
AreTold (row ∷ rows) (kept ∷ read) = IsTold row kept × AreTold rows read

-- it is the entry that the texts at its place tell
pub record IsToldAt (read : List KeptEntry) (solved : SolvedAt) : Type 0 where
  pub within : solved.place < length read
  pub told : (d : KeptEntry) → entry_told (slice_index_or read solved.place d) ≡ solved.entry
