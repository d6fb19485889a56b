-- What holds of each reply in every history.
use Rattle.std.proofs.Common.{
  ◌≡◌,
  ℕ,
  ◌≤◌,
  List,
  ◌∷◌,
  ◌++◌,
  length,
  take,
  drop,
  take-append-drop,
  sym,
  ap,
  subst,
  ◌∙◌,
  arith,
}
use Rattle.std.proofs.lemmas.List.{take-append-le}
use Rattle.movement.specs.declared.cell.Cell.{Cell}
use Rattle.movement.specs.Movement.{IsSection}
use Rattle.disclosure_rules.specs.Seating.{IsSeatedAt}
use Rattle.denials.specs.declared.denial.Denial.{Denial}
use Rattle.session_state.specs.OwnNumbers.{KeepsOwn}
use Rattle.session_state.specs.SessionState.{SessionState, viewer_of}
use Rattle.session_commands.specs.declared.entry.Entry.{Entry}
use Rattle.session_opening.specs.Opening.{opening_of}
use Rattle.session_opening.specs.declared.config.Config.{Config}
use Rattle.session_book.specs.Exposure.{SomeAllowed}
use Rattle.session_book.specs.Journal.{IsAccepted}
use Rattle.session_book.specs.Replay.{replay}
use Rattle.session_book.proofs.LastingLemmas.{replay_lasts}
use Rattle.session_book.proofs.OwnNumberLemmas.{deals_kept, all_kept}
use Rattle.session_opening.proofs.OwnNumberLemmas.{opening_own}
use Rattle.session_book.proofs.SpoilerLemmas.{none_foreknows}
use Rattle.session_queries.specs.Query.{fact_of}
use Rattle.session_queries.specs.declared.body.Body.TheVariants.{Denied}
use Rattle.session_queries.specs.declared.reply.Reply.{Reply}
use Rattle.published_view.specs.Agreement.{Agree}
use Rattle.published_view.specs.History.{
  IsGivenIn,
  IsWritten,
  NamesFirst,
  IsExhaustive,
  AskTheSame,
  IsToldAfter,
  state_there,
}
use Rattle.published_view.specs.Reply.{body_of, reply_of}
use Rattle.published_view.specs.World.{Reading, Moment, IsHistory, now}
use Rattle.published_view.proofs.AgreementLemmas.{same_replies}
use Rattle.published_view.proofs.BodyLemmas.{
  no_place,
  behind,
  denied,
  answered,
  names_first,
  analysis_is,
  par_is,
  costs_are,
  filter_is,
}
use Rattle.published_view.proofs.ExactLemmas.{shown_exactly}
use Rattle.published_view.proofs.HistoryLemmas.{reply_there, journal_accepted}

module _ (opening : SessionState) (history : List Moment) (reading : Reading) (reply : Reply)
    (is : IsHistory opening history) (told : IsGivenIn history reading reply) where
  abbrev state : SessionState
  state = state_there opening history reply

  body_there : reply.body ≡ body_of state reply.version reading.user reading.query reading.since
  body_there = ap (λ (r : Reply). r.body) (reply_there opening history reading reply is told)

  pub is_written : IsWritten state reading reply
  is_written = record {
    no_place = λ none. body_there ∙ no_place state reply.version reading.user reading.query reading.since none;
    behind = λ has older. body_there ∙ behind state reply.version reading.user reading.query reading.since has older;
    denied = λ has enough rule forbidden.
        let by = denied state reply.version reading.user reading.query reading.since has enough rule forbidden in
        (by.0, body_there ∙ by.1);
    answered = λ has enough allowed. body_there ∙ answered state reply.version reading.user reading.query reading.since
        has enough allowed;
    exactly = shown_exactly state reading.user;
  }

  pub denial_names_first : (denial : Denial) → reply.body ≡ Denied denial → NamesFirst state reading.user
      (fact_of reading.query) denial
  denial_names_first denial is_denied = names_first state reply.version reading.user reading.query reading.since denial
      (sym body_there ∙ is_denied)

  -- what is told after a version is above it in the journal
  pub none_foreknown : (board : ℕ) (before : List Entry) (cell : Cell) → SomeAllowed state reading.user board →
      IsToldAfter (now history).journal reply.version before cell → cell.board ≡ board →
      ¬ IsSeatedAt (replay opening before).public (viewer_of (replay opening before) reading.user) cell
  none_foreknown board before cell shown after of_board =
      let first = take reply.version before in
      let later = drop reply.version before in
      let whole : first ++ later ≡ before = take-append-drop reply.version before in
      let number : reply.version ≤ length before = omega (arith, after.number) in
      let begins : take reply.version (now history).journal ≡ first =
      ap (take reply.version) after.split ∙ take-append-le reply.version before (after.entry ∷ after.after) number in
      let parts : (now history).journal ≡ first ++ later ++ after.entry ∷ after.after =
      after.split ∙ ap (λ entries. entries ++ after.entry ∷ after.after) (sym whole) in
      subst (λ entries. ¬ IsSeatedAt (replay opening entries).public (viewer_of (replay opening entries) reading.user)
      cell) whole
      (none_foreknows opening first later after.after after.entry reading.user board cell
      (subst (IsAccepted opening) parts (journal_accepted opening history reading reply is told))
      (subst (λ entries. SomeAllowed (replay opening entries) reading.user board) begins shown) after.result of_board)

-- two histories that agree for a user at the version of a reply
pub same_answers : (one other : SessionState) (here there : List Moment) (asked again : Reading)
    (reply answer : Reply) →
    IsHistory one here → IsGivenIn here asked reply → IsHistory other there → IsGivenIn there again answer →
    AskTheSame asked again → reply.version ≡ answer.version →
    Agree (state_there one here reply) (state_there other there answer) asked.user → reply ≡ answer
same_answers one other here there asked again reply answer is_one told_one is_other told_other same version agree =
    reply_there one here asked reply is_one told_one
    ∙ (same_replies (state_there one here reply) (state_there other there answer) asked.user agree reply.version
    asked.query asked.since
    ∙ ((λ i. reply_of (state_there other there answer) (version i) (same.user i) (same.query i) (same.since i))
    ∙ sym (reply_there other there again answer is_other told_other)))

-- the double-dummy numbers in a reply
pub are_exhaustive : (config : Config) (history : List Moment) (reading : Reading) (reply : Reply) →
    IsSection config.movement →
    IsHistory (opening_of config) history → IsGivenIn history reading reply →
    IsExhaustive (opening_of config) (state_there (opening_of config) history reply) reading reply
are_exhaustive config history reading reply section is told = record {
  deals = deals_kept opening entries;
  analysis = λ board tricks answer.
      analysis_is state reply.version reading.user reading.query reading.since board tricks keeps (sym body ∙ answer);
  par = λ board par answer.
      par_is state reply.version reading.user reading.query reading.since board par keeps (sym body ∙ answer);
  costs = λ cell counted answer not_pending some_cards.
      costs_are state reply.version reading.user reading.query reading.since cell counted keeps same_section
      (sym body ∙ answer) not_pending some_cards;
  filter = λ formula from limit board marks tricks asks is_shown. filter_is state (viewer_of state reading.user) board
      tricks keeps is_shown;
}
  where
    opening : SessionState
    opening = opening_of config

    entries : List Entry
    entries = take reply.version (now history).journal

    state : SessionState
    state = state_there opening history reply

    keeps : KeepsOwn state
    keeps = all_kept opening entries section (opening_own config)

    same_section : IsSection state.public.movement
    same_section = subst IsSection (sym (replay_lasts opening entries).movement) section

    body : reply.body ≡ body_of state reply.version reading.user reading.query reading.since
    body = body_there opening history reading reply is told
