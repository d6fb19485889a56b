-- own: what a crash leaves of a journal, as publications of entries.
use Rattle.std.specs.Prelude.{◌≡◌, ◌+◌, ℕ, Bool, List, length, refl}
use Rattle.std.specs.Coded.{Coded, code_by, coded×, coded_ℕ, coded_bool, coded_list}
use Rattle.sqlite.specs.Order.{Row}
use Rattle.sqlite.specs.Tree.{Trees}
use Rattle.sqlite.specs.Recovery.{Image}
use Rattle.sqlite.specs.State.{State}
use Rattle.sqlite.specs.Held.{Held, held_code}
use Rattle.sqlite.specs.Files.{HoldsDatabase}
use Rattle.session_commands.specs.declared.entry.Entry.{Entry}
use Rattle.session_state.specs.SessionState.{SessionState}
use Rattle.session_book.specs.Journal.{IsAccepted}
use Rattle.history.specs.Prefixes.{entries_of}
use Rattle.journal_store.specs.declared.row_text.RowText.{RowText}
use Rattle.journal_store.specs.contracts.row_text.RowText as the_row_text
use Rattle.journal_store.specs.Kept.{AreKept, Rests}
use Rattle.journal_store.specs.Restart.{HoldsRows}
use Rattle.kept_entries.specs.KeptRows.{AreKeepable, rows_of}

-- a journal: its database, the number of its next row, how many publications it has, and whether it takes no more
pub record RowLedger (S : Type 0) : Type 0 where
  pub conn : Held S
  pub next : ℕ
  pub last : ℕ
  pub shut : Bool

-- a journal whose rows are to be read
pub record FoundRows (S : Type 0) : Type 0 where
  pub conn : Held S
  pub rows : List RowText

-- the database keeps the rows of these publications, and each can be kept
pub record KeepsPublications (session : List Row) (published : List (List Entry)) (db : Trees) : Type 0 where
  pub rows : AreKept session (rows_of published) db
  pub keepable : AreKeepable published

-- what the next start may find after a crash at this moment
abbrev pub LeavesPublications : State → List (List Entry) → Type 0
LeavesPublications s published = (session : List Row) × (db : Trees) × s.may_leave db × KeepsPublications session published db

-- whatever a crash leaves keeps some publications
abbrev pub Outcomes : State → Type 0
Outcomes s =
    (db : Trees) → s.may_leave db
    → (session : List Row) × (published : List (List Entry)) × KeepsPublications session published db

-- the database is open and keeps some publications, and the next row and publication get the next numbers
pub record Follows (s : State) (next last : ℕ) : Type 0 where
  pub session : List Row
  pub published : List (List Entry)
  pub rests : Rests session (rows_of published) s
  pub keepable : AreKeepable published
  pub next_row : next ≡ 1 + length (rows_of published)
  pub last_is : last ≡ length published

-- the image holds a database, which keeps such publications
abbrev pub HoldsPublications : Image → (List (List Entry) → Type 0) → Type 0
HoldsPublications left Found =
    ∥ ((db : Trees) × (session : List Row) × (published : List (List Entry))
    × HoldsDatabase left db × KeepsPublications session published db × Found published) ∥₁

-- whatever publications a crash leaves, the session accepts their entries
abbrev pub LeavesAccepted : SessionState → State → Type 0
LeavesAccepted opening s =
    (found : List (List Entry)) → LeavesPublications s found → IsAccepted opening (entries_of found)

-- what a start finds in an image: the rows of publications whose entries the session accepts, and that the store said a
-- crash leaves
pub record IsFoundNext (opening : SessionState) (left : Image) (Found : List (List Entry) → Type 0) : Type 0 where
  pub session : List Row
  pub published : List (List Entry)
  pub holds : HoldsRows left session (rows_of published)
  pub keepable : AreKeepable published
  pub accepted : IsAccepted opening (entries_of published)
  pub found : Found published

-- ---- how these are stored

abbrev pub journal_code : {S : Type 0} → Coded S → Coded (RowLedger S)
journal_code {S} store =
    code_by (Held S × (ℕ × (ℕ × Bool))) (coded× (held_code store) (coded× coded_ℕ (coded× coded_ℕ coded_bool)))
    (λ l. (l.conn, (l.next, (l.last, l.shut))))
    (λ p. record { conn = p.0; next = p.1.0; last = p.1.1.0; shut = p.1.1.1 })
    (λ _. refl)

abbrev pub found_code : {S : Type 0} → Coded S → Coded (FoundRows S)
found_code {S} store =
    code_by (Held S × List RowText) (coded× (held_code store) (coded_list the_row_text.the_row.coded))
    (λ f. (f.conn, f.rows))
    (λ p. record { conn = p.0; rows = p.1 })
    (λ _. refl)
