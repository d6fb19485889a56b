-- A session with its journal, once that is read.
use Rattle.std.proofs.Common.{◌≡◌, sym, subst, ℕ, List, []}
use Rattle.sqlite.specs.Order.{Row}
use Rattle.sqlite.specs.Recovery.{Image}
use Rattle.sqlite.specs.State.{State, HasCleanDisk}
use Rattle.journal_store.specs.Tables.{RowBytes}
use Rattle.journal_store.specs.Restart.{IsKeptAt, IsTakenUp}
use Rattle.session_state.specs.SessionState.{SessionState}
use Rattle.session_commands.specs.declared.entry.Entry.{Entry}
use Rattle.kept_sessions.specs.Kept.{IsKeptSession}

-- what is said of a connection and its rows is said of those that are the same
pub kept_as : (image : Image) (session : List Row) (found rows : List RowBytes) (s t : State) → t ≡ s → found ≡ rows
    → (HasCleanDisk s → IsKeptAt image session found s) → HasCleanDisk t → IsKeptAt image session rows t
kept_as image session found rows s t is same kept clean =
    subst (λ r. IsKeptAt image session r t) same
    (subst (λ u. IsKeptAt image session found u) (sym is) (kept (subst HasCleanDisk is clean)))

-- the same of what was taken up, of a session's row by equal texts
pub taken_as : (image : Image) (session same_session : List Row) (found rows : List RowBytes) (s t : State)
    → session ≡ same_session → t ≡ s → found ≡ rows
    → (HasCleanDisk s → IsTakenUp image session found s) → HasCleanDisk t → IsTakenUp image same_session rows t
taken_as image session same_session found rows s t texts is same taken clean =
    subst (λ rows_of_session. IsTakenUp image rows_of_session rows t) texts
    (subst (λ r. IsTakenUp image session r t) same
    (subst (λ u. IsTakenUp image session found u) (sym is) (taken (subst HasCleanDisk is clean))))

-- in a session that two texts open nothing is entered
pub nothing_entered : (image : Image) (opening : SessionState) (entered : List Entry) (budget : ℕ)
    (publications : List (List Entry)) (s : State) → IsKeptSession image opening entered budget publications s
    → IsKeptSession image opening [] budget publications s
nothing_entered image opening entered budget publications s kept =
    subst (λ e. IsKeptSession image opening e budget publications s) kept.session.empty kept
