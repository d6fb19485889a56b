-- What holds of the replies of both runs.
use Rattle.std.proofs.Common.{
  ◌≡◌,
  inl,
  inr,
  ℕ,
  List,
  [],
  ◌∷◌,
  ◌++◌,
  length,
  take,
  drop,
  Contains,
  refl,
  sym,
  ◌∙◌,
  ap,
  subst,
  append_assoc,
}
use mathlib.Core.List.{IsPrefix}
use Rattle.movement.specs.declared.cell.Cell.{Cell}
use Rattle.movement.specs.Movement.{IsSection}
use Rattle.disclosure_rules.specs.Seating.{IsSeatedAt}
use Rattle.denials.specs.declared.denial.Denial.{Denial}
use Rattle.session_state.specs.SessionState.{SessionState, viewer_of}
use Rattle.session_commands.specs.declared.entry.Entry.{Entry}
use Rattle.session_opening.specs.Opening.{opening_of}
use Rattle.session_opening.specs.declared.config.Config.{Config}
use Rattle.session_book.specs.Exposure.{Exposed, SomeAllowed}
use Rattle.session_book.specs.Replay.{replay}
use Rattle.session_queries.specs.Query.{fact_of}
use Rattle.session_queries.specs.declared.body.Body.TheVariants.{Denied}
use Rattle.session_queries.specs.declared.reply.Reply.{Reply}
use Rattle.history.specs.Prefixes.{entries_of}
use Rattle.history.proofs.PrefixLemmas.{prefix_self, prefix_trans, entries_of_prefix}
use Rattle.published_view.specs.Agreement.{Agree}
use Rattle.published_view.specs.History.{
  IsGivenIn,
  IsWritten,
  NamesFirst,
  IsExhaustive,
  AskTheSame,
  IsToldAfter,
  state_there,
}
use Rattle.published_view.specs.World.{World, Reading, Read, Moment, IsHistory, now}
use Rattle.published_view.proofs.EveryRunLemmas.{
  is_written,
  denial_names_first,
  same_answers,
  are_exhaustive,
  none_foreknown,
}
use Rattle.published_view.proofs.HistoryLemmas.{names_published, may_go_on}
use Rattle.continued_history.specs.Publications.{publications_of, as_publication}
use Rattle.continued_history.specs.Restart.{IsLeft, IsRestart, IsGivenInEither, IsOfVersion}
use Rattle.continued_history.proofs.PublicationLemmas.{tell, stays_published}
use Rattle.continued_history.proofs.BeginningLemmas.{state_in, same_of_one}
use Rattle.continued_history.proofs.JoinLemmas.{both, both_now, both_happened, of_both, given_since}

-- ---- what was published stays

-- the publications of a history begin with those of its first moments
published_begins : (later earlier : List Moment) → IsPrefix (publications_of earlier)
    (publications_of (later ++ earlier))
published_begins [] earlier = prefix_self (publications_of earlier)
published_begins (moment ∷ later) earlier =
    prefix_trans (publications_of earlier) (publications_of (later ++ earlier))
    (publications_of (moment ∷ (later ++ earlier))) (published_begins later earlier)
    (as_publication (drop (length (now (later ++ earlier)).journal) moment.after.journal), refl)

left_begins : (published found : List (List Entry)) → IsLeft published found → IsPrefix published found
left_begins published found (inl same) = subst (IsPrefix published) (sym same) (prefix_self published)
left_begins published found (inr (more, one_more)) = (more ∷ [], sym one_more)

module _ (opening : SessionState) (run later : List Moment) (restart : IsRestart opening run later) where
  abbrev whole : List Moment
  whole = later ++ restart.again

  pub published_kept : IsPrefix (publications_of run) (publications_of whole)
  published_kept = prefix_trans (publications_of run) (publications_of restart.again) (publications_of whole)
      (left_begins (publications_of run) (publications_of restart.again) restart.found)
      (published_begins later restart.again)

  pub journal_kept : IsPrefix (now run).journal (now whole).journal
  journal_kept = subst (λ entries. IsPrefix entries (now whole).journal) (tell opening run restart.happened).entries
      (subst (IsPrefix (entries_of (publications_of run))) (tell opening whole restart.goes_on).entries
      (entries_of_prefix (publications_of run) (publications_of whole) published_kept))

  pub shown_kept : (reading : Reading) (reply : Reply) → IsGivenIn run reading reply →
      state_there opening whole reply ≡ state_there opening run reply
  shown_kept reading reply given =
      state_in opening run (now whole).journal reading reply restart.happened given journal_kept

  pub exposed_kept : (user : List ℕ) (board : ℕ) → Exposed opening (now run).journal user board →
      Exposed opening (now whole).journal user board
  exposed_kept user board exposed = record {
    first = exposed.first;
    later = exposed.later ++ journal_kept.0;
    split = sym journal_kept.1 ∙ (ap (λ (l : List Entry). l ++ journal_kept.0) exposed.split
        ∙ append_assoc exposed.first exposed.later journal_kept.0);
    shown = exposed.shown;
  }

-- ---- a history in which a reply of either run is given

-- a history of the session with the journal and the versions of the later run, in which the reply is given
record IsGivenBeside (opening : SessionState) (whole : List Moment) (reading : Reading) (reply : Reply) : Type 0 where
  history : List Moment
  is : IsHistory opening history
  given : IsGivenIn history reading reply
  journal : (now history).journal ≡ (now whole).journal
  published : (now history).published ≡ (now whole).published

module _ (opening : SessionState) (run later : List Moment) (restart : IsRestart opening run later)
    (reading : Reading) (reply : Reply) where
  given_beside : IsGivenInEither run later reading reply →
      IsGivenBeside opening (later ++ restart.again) reading reply
  given_beside (inl earlier) =
      let of = of_both opening run later restart in
      record {
        history = both opening run later restart;
        is = both_happened opening run later restart;
        given = of.earlier_replies reading reply earlier;
        journal = of.journal;
        published = ap (λ (world : World). world.published) (both_now opening run later restart);
      }
  given_beside (inr since) = record {
    history = later ++ restart.again;
    is = restart.goes_on;
    given = given_since later restart.again reading reply since;
    journal = refl;
    published = refl;
  }

-- the state of a version is that of the journal alone
same_state : (opening : SessionState) (one other : List Moment) (reply : Reply) →
    (now one).journal ≡ (now other).journal → state_there opening one reply ≡ state_there opening other reply
same_state opening one other reply journal =
    ap (λ (entries : List Entry). replay opening (take reply.version entries)) journal

module _ (opening : SessionState) (run later : List Moment) (restart : IsRestart opening run later)
    (reading : Reading) (reply : Reply) (either : IsGivenInEither run later reading reply) where
  abbrev beside_it : IsGivenBeside opening (later ++ restart.again) reading reply
  beside_it = given_beside opening run later restart reading reply either

  same_there : state_there opening beside_it.history reply ≡ state_there opening (later ++ restart.again) reply
  same_there = same_state opening beside_it.history (later ++ restart.again) reply beside_it.journal

  pub of_version : IsOfVersion opening (later ++ restart.again) reply
  of_version =
      let given = beside_it.given in
      let names = names_published opening beside_it.history reading reply beside_it.is given in
      let was = names.published in
      let moment : Moment = record { step = Read reading; after = given.after } in
      let since : List Moment = given.later ++ moment ∷ was.later in
      let split : beside_it.history ≡ since ++ was.earlier =
      given.split ∙ (ap (λ (moments : List Moment). given.later ++ moment ∷ moments) was.split
      ∙ sym (append_assoc given.later (moment ∷ was.later) was.earlier)) in
      let stays : Contains (now (since ++ was.earlier)).published (length names.entries) =
      stays_published opening since was.earlier (length names.entries)
      (subst (IsHistory opening) split beside_it.is) was.published in
      let there : Contains (now beside_it.history).published reply.version =
      subst (Contains (now beside_it.history).published) (sym names.version)
      (subst (λ (moments : List Moment). Contains (now moments).published (length names.entries)) (sym split) stays) in
      record {
        entries = names.entries;
        version = names.version;
        accepted = names.accepted;
        begins = ap (take reply.version) (sym beside_it.journal) ∙ names.begins;
        published = subst (λ versions. Contains versions reply.version) beside_it.published there;
      }

  pub written : IsWritten (state_there opening (later ++ restart.again) reply) reading reply
  written = subst (λ at. IsWritten at reading reply) same_there
      (is_written opening beside_it.history reading reply beside_it.is beside_it.given)

  pub denied : (denial : Denial) → reply.body ≡ Denied denial →
      NamesFirst (state_there opening (later ++ restart.again) reply) reading.user (fact_of reading.query) denial
  denied denial is_denied = subst (λ at. NamesFirst at reading.user (fact_of reading.query) denial) same_there
      (denial_names_first opening beside_it.history reading reply beside_it.is beside_it.given denial is_denied)

  pub foreknown_by_none : (board : ℕ) (before : List Entry) (cell : Cell) →
      SomeAllowed (state_there opening (later ++ restart.again) reply) reading.user board →
      IsToldAfter (now (later ++ restart.again)).journal reply.version before cell → cell.board ≡ board →
      ¬ IsSeatedAt (replay opening before).public (viewer_of (replay opening before) reading.user) cell
  foreknown_by_none board before cell shown told of_board =
      none_foreknown opening beside_it.history reading reply beside_it.is beside_it.given board before cell
      (subst (λ at. SomeAllowed at reading.user board) (sym same_there) shown)
      (subst (λ journal. IsToldAfter journal reply.version before cell) (sym beside_it.journal) told) of_board

pub exhaustive : (config : Config) (run later : List Moment) (restart : IsRestart (opening_of config) run later)
    (reading : Reading) (reply : Reply) → IsSection config.movement → IsGivenInEither run later reading reply →
    IsExhaustive (opening_of config) (state_there (opening_of config) (later ++ restart.again) reply) reading reply
exhaustive config run later restart reading reply section either =
    let given = given_beside (opening_of config) run later restart reading reply either in
    subst (λ at. IsExhaustive (opening_of config) at reading reply)
    (same_state (opening_of config) given.history (later ++ restart.again) reply given.journal)
    (are_exhaustive config given.history reading reply section given.is given.given)

pub same_in_worlds : (one other : SessionState) (here here_later there there_later : List Moment)
    (restart : IsRestart one here here_later) (other_restart : IsRestart other there there_later)
    (asked again : Reading) (reply answer : Reply) →
    IsGivenInEither here here_later asked reply → IsGivenInEither there there_later again answer →
    AskTheSame asked again → reply.version ≡ answer.version →
    Agree (state_there one (here_later ++ restart.again) reply)
    (state_there other (there_later ++ other_restart.again) answer) asked.user → reply ≡ answer
same_in_worlds one other here here_later there there_later restart other_restart asked again reply answer told
    told_there same version agree =
    let given = given_beside one here here_later restart asked reply told in
    let given_there = given_beside other there there_later other_restart again answer told_there in
    let state = same_state one given.history (here_later ++ restart.again) reply given.journal in
    let state_other = same_state other given_there.history (there_later ++ other_restart.again) answer
    given_there.journal in
    same_answers one other given.history given_there.history asked again reply answer given.is given.given
    given_there.is given_there.given same version
    (subst (λ at. Agree at (state_there other given_there.history answer) asked.user) (sym state)
    (subst (λ at. Agree (state_there one (here_later ++ restart.again) reply) at asked.user) (sym state_other) agree))

pub same_reply : (opening : SessionState) (run later : List Moment) → IsRestart opening run later →
    (asked again : Reading) (reply answer : Reply) → IsGivenIn run asked reply → IsGivenIn later again answer →
    AskTheSame asked again → reply.version ≡ answer.version → reply ≡ answer
same_reply opening run later restart asked again reply answer told told_later same version =
    let whole = later ++ restart.again in
    same_of_one opening run whole (record {
      journal = (now whole).journal;
      accepted = (may_go_on opening whole restart.goes_on).0;
      one_happened = restart.happened;
      one_begins = journal_kept opening run later restart;
      other_happened = restart.goes_on;
      other_begins = prefix_self (now whole).journal;
    }) asked again reply answer told (given_since later restart.again again answer told_later) same version
