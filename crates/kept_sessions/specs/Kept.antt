-- A session with the journal that keeps it.
use Rattle.std.specs.Prelude.{◌≡◌, ℕ, List, [], ◌∷◌}
use Rattle.sqlite.specs.Recovery.{Image}
use Rattle.sqlite.specs.State.{State, HasCleanDisk}
use Rattle.session_state.specs.SessionState.{SessionState}
use Rattle.session_commands.specs.declared.entry.Entry.{Entry}
use Rattle.journal_store.specs.Tables.{session_row}
use Rattle.journal_store.specs.Restart.{IsTakenUp, IsKeptAt}
use Rattle.kept_entries.specs.KeptRows.{AreKeepable, rows_of}
use Rattle.row_journal.specs.Leaving.{LeavesPublications}
use Rattle.kept_sessions.specs.Sources.{IsSessionOf}

-- whatever a crash leaves of the journal is just these publications, and no others have their rows
pub record KeepsJust (s : State) (publications : List (List Entry)) : Type 0 where
  pub keepable : AreKeepable publications
  pub left : HasCleanDisk s → (found : List (List Entry)) → LeavesPublications s found → found ≡ publications

-- the session is that of two texts, and the files held the journal of these texts, with just these publications
pub record IsKeptSession (image : Image) (opening : SessionState) (entered : List Entry) (budget : ℕ)
    (publications : List (List Entry)) (s : State) : Type 0 where
  pub object : List ℕ
  pub boards : List ℕ
  pub session : IsSessionOf object boards opening entered budget
  pub kept : HasCleanDisk s → IsKeptAt image (session_row object boards ∷ []) (rows_of publications) s

-- the same of texts that are given; or the files held no journal, and it was made
pub record IsTakenSession (image : Image) (object boards : List ℕ) (opening : SessionState) (entered : List Entry)
    (budget : ℕ) (publications : List (List Entry)) (s : State) : Type 0 where
  pub session : IsSessionOf object boards opening entered budget
  pub taken : HasCleanDisk s → IsTakenUp image (session_row object boards ∷ []) (rows_of publications) s
