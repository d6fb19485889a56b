-- What replies tell of a journal of which theirs is a beginning.
use Rattle.std.proofs.Common.{
  ◌≡◌,
  ℕ,
  ◌≤◌,
  List,
  ◌∷◌,
  ◌++◌,
  length,
  take,
  drop,
  take-append-drop,
  refl,
  sym,
  ◌∙◌,
  ap,
  subst,
  arith,
  append_assoc,
}
use mathlib.Core.List.{IsPrefix}
use Rattle.std.proofs.lemmas.List.{take-append-le, length-take}
use Rattle.movement.specs.declared.cell.Cell.{Cell}
use Rattle.disclosure_rules.specs.Seating.{IsSeatedAt}
use Rattle.session_state.specs.SessionState.{SessionState, viewer_of}
use Rattle.session_commands.specs.declared.entry.Entry.{Entry}
use Rattle.session_book.specs.Exposure.{SomeAllowed}
use Rattle.session_book.specs.Journal.{IsAccepted}
use Rattle.session_book.specs.Replay.{replay}
use Rattle.session_book.proofs.SpoilerLemmas.{none_foreknows}
use Rattle.session_queries.specs.declared.reply.Reply.{Reply}
use Rattle.published_view.specs.Agreement.{Agree}
use Rattle.published_view.specs.History.{IsGivenIn, AskTheSame, IsToldAfter, state_there}
use Rattle.published_view.specs.World.{Reading, Moment, IsHistory, now}
use Rattle.published_view.proofs.EveryRunLemmas.{same_answers}
use Rattle.published_view.proofs.HistoryLemmas.{names_published}
use Rattle.continued_history.specs.OneJournal.{AreOfOneJournal}

begins_with : (entries journal : List Entry) (count : ℕ) → IsPrefix entries journal → count ≤ length entries →
    take count journal ≡ take count entries
begins_with entries journal count (more, whole) within =
    ap (take count) (sym whole) ∙ take-append-le count entries more within

within_length : (count : ℕ) (journal entries : List Entry) → take count journal ≡ entries → count ≡ length entries →
    count ≤ length journal
within_length count journal entries first long = omega (arith, ap length first, long, length-take count journal)

-- the state of a reply's version is that of the longer journal
pub state_in : (opening : SessionState) (history : List Moment) (journal : List Entry) (reading : Reading)
    (reply : Reply) → IsHistory opening history → IsGivenIn history reading reply →
    IsPrefix (now history).journal journal →
    replay opening (take reply.version journal) ≡ state_there opening history reply
state_in opening history journal reading reply is given begins =
    let names = names_published opening history reading reply is given in
    let within = within_length reply.version (now history).journal names.entries names.begins names.version in
    ap (replay opening) (begins_with (now history).journal journal reply.version begins within)

pub agree_itself : (at : SessionState) (user : List ℕ) → Agree at at user
agree_itself at user = record { viewer = refl; public = refl; contents = λ asked there allowed. refl }

-- what is told after a version in a beginning of a journal is told after it in the journal
told_in : (first journal : List Entry) (version : ℕ) (before : List Entry) (cell : Cell) → IsPrefix first journal →
    IsToldAfter first version before cell → IsToldAfter journal version before cell
told_in first journal version before cell (more, whole) told = record {
  entry = told.entry;
  after = told.after ++ more;
  split = sym whole ∙ (ap (λ (l : List Entry). l ++ more) told.split
      ∙ append_assoc before (told.entry ∷ told.after) more);
  number = told.number;
  result = told.result;
}

-- whoever was allowed something of a board after so many entries of an accepted journal sits at no cell where a later
-- one of them enters or confirms a result of that board
foreknown_in : (opening : SessionState) (journal : List Entry) (version : ℕ) (user : List ℕ) (board : ℕ)
    (before : List Entry) (cell : Cell) → IsAccepted opening journal →
    SomeAllowed (replay opening (take version journal)) user board → IsToldAfter journal version before cell →
    cell.board ≡ board → ¬ IsSeatedAt (replay opening before).public (viewer_of (replay opening before) user) cell
foreknown_in opening journal version user board before cell accepted shown told of_board =
    let first = take version before in
    let later = drop version before in
    let whole : first ++ later ≡ before = take-append-drop version before in
    let number : version ≤ length before = omega (arith, told.number) in
    let begins : take version journal ≡ first =
    ap (take version) told.split ∙ take-append-le version before (told.entry ∷ told.after) number in
    let parts : journal ≡ first ++ later ++ told.entry ∷ told.after =
    told.split ∙ ap (λ entries. entries ++ told.entry ∷ told.after) (sym whole) in
    subst (λ entries. ¬ IsSeatedAt (replay opening entries).public (viewer_of (replay opening entries) user) cell) whole
    (none_foreknows opening first later told.after told.entry user board cell
    (subst (IsAccepted opening) parts accepted)
    (subst (λ entries. SomeAllowed (replay opening entries) user board) begins shown) told.result of_board)

module _ (opening : SessionState) (one other : List Moment) (are : AreOfOneJournal opening one other) where
  pub same_of_one : (asked again : Reading) (reply answer : Reply) → IsGivenIn one asked reply →
      IsGivenIn other again answer → AskTheSame asked again → reply.version ≡ answer.version → reply ≡ answer
  same_of_one asked again reply answer given given_there same version =
      let here = state_in opening one are.journal asked reply are.one_happened given are.one_begins in
      let there = state_in opening other are.journal again answer are.other_happened given_there are.other_begins in
      let states : state_there opening one reply ≡ state_there opening other answer =
      sym here ∙ (ap (λ count. replay opening (take count are.journal)) version ∙ there) in
      same_answers opening opening one other asked again reply answer are.one_happened given are.other_happened
      given_there same version
      (subst (λ at. Agree (state_there opening one reply) at asked.user) states
      (agree_itself (state_there opening one reply) asked.user))

  pub foreknown_of_one : (reading : Reading) (reply : Reply) (board : ℕ) (before : List Entry) (cell : Cell) →
      IsGivenIn one reading reply → SomeAllowed (state_there opening one reply) reading.user board →
      IsToldAfter (now other).journal reply.version before cell → cell.board ≡ board →
      ¬ IsSeatedAt (replay opening before).public (viewer_of (replay opening before) reading.user) cell
  foreknown_of_one reading reply board before cell given shown told of_board =
      foreknown_in opening are.journal reply.version reading.user board before cell are.accepted
      (subst (λ at. SomeAllowed at reading.user board)
      (sym (state_in opening one are.journal reading reply are.one_happened given are.one_begins)) shown)
      (told_in (now other).journal are.journal reply.version before cell are.other_begins told) of_board
