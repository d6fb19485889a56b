-- A history of a session that tells a conversation.
use Rattle.std.proofs.Common.{
  arith,
  ◌≡◌,
  ◌+◌,
  ◌-◌,
  ◌≤◌,
  inl,
  inr,
  ℕ,
  Bool,
  true,
  false,
  List,
  [],
  ◌∷◌,
  ◌++◌,
  map,
  take,
  drop,
  length,
  length-append,
  refl,
  sym,
  ap,
  subst,
  ◌∙◌,
  append_assoc,
}
use Rattle.std.specs.Prelude.{Option, Some, None, is_some, if◌then◌else◌}
use Rattle.std.proofs.Math.Seq.{take-length}
use Rattle.std.proofs.lemmas.List.{append-nil, take-append-drop}
use mathlib.Core.List.{IsPrefix}
use Rattle.session_state.specs.SessionState.{SessionState}
use Rattle.session_commands.specs.declared.actor.Actor.{Actor}
use Rattle.session_commands.specs.declared.actor.Actor.TheVariants.{User, Solver}
use Rattle.session_commands.specs.declared.command.Command.{Command}
use Rattle.session_commands.specs.declared.entry.Entry.{Entry}
use Rattle.session_commands.specs.declared.refusal.Refusal.{Refusal}
use Rattle.session_commands.specs.declared.refusal.Refusal.TheVariants as refusal
use Rattle.session_book.specs.declared.answer.Answer.TheVariants.{Accepted, Refused}
use Rattle.session_book.specs.Journal.{Follow, IsAccepted, refusal_after}
use Rattle.session_book.specs.Run.{Progress, answered, run, Runs}
use Rattle.published_view.specs.View.{reply_after}
use Rattle.published_view.specs.World.{
  World,
  Read,
  Submit,
  Solve,
  Moment,
  IsHistory,
  Submits,
  newest,
  now,
  with_journal,
}
use Rattle.published_view.proofs.HistoryLemmas.{may_go_on}
use Rattle.published_view.proofs.StepLemmas.{step_leaves}
use Rattle.session_keeper.proofs.KeepingLemmas.{prefix_self, prefix_trans, runs_begin}
use Rattle.reply_texts.specs.ReplyText.{reply_text}
use Rattle.wire.specs.declared.request.UserRequest.{UserRequest}
use Rattle.wire.specs.declared.request.UserRequest.TheVariants.{Query, Batch, Audit}
use Rattle.request_answers.specs.Answering.{IsAnsweredOnce, EntersItOnce}
use Rattle.request_answers.specs.Conversing.{
  Turn,
  Answered,
  TakenIn,
  Passed,
  TakesTurn,
  Stop,
  journal_now,
  IsConversation,
  OnlyAdd,
  IsTextSince,
  IsEffectSince,
  IsTurnSince,
  IsToldBy,
  added_by_text,
  added_by_effect,
  added_by_turn,
}
use Rattle.request_answers.specs.Response.{audit_reply, receipt_of, response_at, run_with, stopped_at}

-- ---- accepted journals

-- entries that follow, and others after them
follow_parts : (opening : SessionState) (before first next : List Entry) → Follow opening before (first ++ next) →
    Follow opening before first × Follow opening (before ++ first) next
follow_parts opening before [] next follow = (
  tt,
  subst (λ entries. Follow opening entries next)
      (sym (append-nil before)) follow,
)
follow_parts opening before (entry ∷ first) next follow =
    let parts : Follow opening (before ++ entry ∷ []) first × Follow opening ((before ++ entry ∷ []) ++ first) next =
    follow_parts opening (before ++ entry ∷ []) first next follow.1 in (
      (follow.0, parts.0),
      subst (λ entries. Follow opening entries next) (append_assoc before (entry ∷ []) first)
          parts.1,
    )

-- a journal with which an accepted one begins is accepted
pub beginning_accepted : (opening : SessionState) (before after : List Entry) → IsPrefix before after →
    IsAccepted opening after → IsAccepted opening before
beginning_accepted opening before after begins accepted =
    (follow_parts opening [] before begins.0 (subst (IsAccepted opening) (sym begins.1) accepted)).0

-- ---- batches

-- what a batch comes to with memory refused at one of its commands is one of the things to which it may come
module _ (opening : SessionState) (journal : List Entry) (actor : List ℕ) (batch : List Command) where
  abbrev pub MayRun : Progress → Type 0
  MayRun after = (stopped : Bool) × Runs stopped opening journal actor batch after

  module _ (k : ℕ) (command : Command) (later : List Command) (rest : drop k batch ≡ command ∷ later) where
    abbrev so_far : Progress
    so_far = run opening journal actor (take k batch)

    stops_there : (found : Option Refusal) → refusal_after opening so_far.journal (User actor) command ≡ found →
        MayRun (if is_some found then run opening journal actor batch
        else record {
          journal = so_far.journal;
          answers = so_far.answers ++ Refused refusal.OutOfMemory ∷ map
              (λ _. Refused refusal.NotTried) later;
        })
    stops_there None is = (
      true,
      record {
        tried = take k batch;
        command = command;
        later = later;
        split = sym (take-append-drop k batch) ∙ ap (λ commands. take k batch ++ commands) rest;
        accepted = is;
        journal = refl;
        answers = refl;
      },
    )
    stops_there (Some cause) is = (false, refl)

  stops_at : (k : ℕ) (rest : List Command) → drop k batch ≡ rest →
      MayRun (stopped_at opening actor (run opening journal actor batch) (run opening journal actor (take k batch))
      rest)
  stops_at k [] is = (false, refl)
  stops_at k (command ∷ later) is =
      stops_there k command later is (refusal_after opening (run opening journal actor (take k batch)).journal
      (User actor) command) refl

  pub runs_of : (refused_at : Option ℕ) → MayRun (run_with refused_at opening journal actor batch)
  runs_of None = (false, refl)
  runs_of (Some k) = stops_at k (drop k batch) refl

-- what a request comes to at an accepted journal leaves an accepted one
pub response_accepted : (opening : SessionState) (journal : List Entry) (refused_at : Option ℕ) (user : List ℕ)
    (request : UserRequest) →
    IsAccepted opening journal → IsAccepted opening (response_at opening journal refused_at user request).journal
response_accepted opening journal refused_at user (Query query wanted) accepted = accepted
response_accepted opening journal refused_at user (Batch commands) accepted =
    let world : World = record { journal = journal; published = []; seen = λ display. 0 } in
    let progress : Progress = run_with refused_at opening journal user commands in
    let runs = runs_of opening journal user commands refused_at in
    let submits : Submits opening world user commands (with_journal world progress.journal) =
    record { stopped = runs.0; progress = progress; ran = runs.1; leaves = refl } in
    (step_leaves opening world (Submit user commands) (with_journal world progress.journal) submits).accepted accepted
response_accepted opening journal refused_at user (Audit range) accepted = accepted

-- ---- what happens since

module _ (opening : SessionState) where
  -- what happened since a history, after which the journal is this one
  pub record Since (earlier : List Moment) (journal : List Entry) : Type 0 where
    pub since : List Moment
    pub happened : IsHistory opening (since ++ earlier)
    pub journal_is : (now (since ++ earlier)).journal ≡ journal

  abbrev over : (earlier : List Moment) (middle journal : List Entry) (first : Since earlier middle) →
      Since (first.since ++ earlier) journal → Since earlier journal
  over earlier middle journal first next = record {
    since = next.since ++ first.since;
    happened = subst (IsHistory opening) (sym (append_assoc next.since first.since earlier)) next.happened;
    journal_is = ap (λ moments. (now moments).journal) (append_assoc next.since first.since earlier) ∙ next.journal_is;
  }

  -- an entry joins the journal by one step
  ran_alone : (journal : List Entry) (user : List ℕ) (command : Command) → refusal_after opening journal (User user)
      command ≡ None →
      (run opening journal user (command ∷ [])).journal ≡ journal ++ record { actor = User user; command = command } ∷
      []
  unfolding run
  ran_alone journal user command may =
      ap (λ found. (answered (record { journal = journal; answers = [] }) user command found).journal) may

  joins : (earlier : List Moment) → IsHistory opening earlier → (actor : Actor) (command : Command) →
      refusal_after opening (now earlier).journal actor command ≡ None →
      Since earlier ((now earlier).journal ++ record { actor = actor; command = command } ∷ [])
  joins earlier happened (User user) command may =
      let journal = (now earlier).journal in
      let progress : Progress = run opening journal user (command ∷ []) in
      record {
        since = record { step = Submit user (command ∷ []); after = with_journal (now earlier) progress.journal } ∷ [];
        happened = (record { stopped = false; progress = progress; ran = refl; leaves = refl }, happened);
        journal_is = ran_alone journal user command may;
      }
  joins earlier happened Solver command may =
      let journal = (now earlier).journal ++ record { actor = Solver; command = command } ∷ [] in
      record {
        since = record { step = Solve command; after = with_journal (now earlier) journal } ∷ [];
        happened = (record { answer = Accepted; journal = journal; tried = (may, refl); leaves = refl }, happened);
        journal_is = refl;
      }

  -- so do many
  all_join : (more : List Entry) (earlier : List Moment) → IsHistory opening earlier → (before : List Entry) →
      (now earlier).journal ≡ before → Follow opening before more →
      Since earlier (before ++ more)
  all_join [] earlier happened before is follow = record {
    since = [];
    happened = happened;
    journal_is =
        is ∙ sym (append-nil before);
  }
  all_join (entry ∷ more) earlier happened before is follow =
      let may : refusal_after opening (now earlier).journal entry.actor entry.command ≡ None =
      subst (λ journal. refusal_after opening journal entry.actor entry.command ≡ None) (sym is) follow.0 in
      let first : Since earlier (before ++ entry ∷ []) =
      subst (λ journal. Since earlier (journal ++ entry ∷ [])) is (joins earlier happened entry.actor entry.command may)
      in
      let next : Since (first.since ++ earlier) ((before ++ entry ∷ []) ++ more) =
      all_join more (first.since ++ earlier) first.happened (before ++ entry ∷ []) first.journal_is follow.1 in
      subst (Since earlier) (append_assoc before (entry ∷ []) more)
      (over earlier (before ++ entry ∷ []) ((before ++ entry ∷ []) ++ more) first next)

  -- a history goes on to each accepted journal that begins with its own
  pub goes_on_to : (earlier : List Moment) → IsHistory opening earlier → (before after : List Entry) →
      (now earlier).journal ≡ before → IsPrefix before after → IsAccepted opening after → Since earlier after
  goes_on_to earlier happened before after is begins accepted =
      let follow : Follow opening before begins.0 =
      (follow_parts opening [] before begins.0 (subst (IsAccepted opening) (sym begins.1) accepted)).1 in
      subst (Since earlier) begins.1 (all_join begins.0 earlier happened before is follow)

-- ---- conversations

-- what happened since a history, after which the journal is this one, and what it tells
record SinceTold (opening : SessionState) (earlier : List Moment) (journal : List Entry)
    (Told : List Moment → Type 0) : Type 0 where
  happened : Since opening earlier journal
  told : Told happened.since

-- so of a text, and how many entries have been added there: as many as lead from one journal to another
record SinceAdded (opening : SessionState) (earlier : List Moment) (journal : List Entry) (user : List ℕ)
    (request : UserRequest) (text : List ℕ) (met left : List Entry) : Type 0 where
  happened : Since opening earlier journal
  told : IsTextSince opening earlier happened.since user request text
  added : added_by_text opening earlier happened.since user request text told + length met ≡ length left

-- what tells of a text tells of the effect
effect_of_text : (opening : SessionState) (earlier since : List Moment) (user : List ℕ) (request : UserRequest)
    (text : List ℕ) →
    IsTextSince opening earlier since user request text → IsEffectSince opening earlier since user request
effect_of_text opening earlier since user (Query query wanted) text told = tt
effect_of_text opening earlier since user (Batch commands) text told = told.submitted
effect_of_text opening earlier since user (Audit range) text told = tt

-- which has added as many
added_too : (opening : SessionState) (earlier since : List Moment) (user : List ℕ) (request : UserRequest)
    (text : List ℕ) (told : IsTextSince opening earlier since user request text) →
    added_by_effect opening earlier since user request (effect_of_text opening earlier since user request text told)
    ≡ added_by_text opening earlier since user request text told
unfolding effect_of_text
added_too opening earlier since user (Query query wanted) text told = refl
added_too opening earlier since user (Batch commands) text told = refl
added_too opening earlier since user (Audit range) text told = refl

nothing_added : (n : ℕ) → 0 + n ≡ n
nothing_added n = omega arith

-- a journal that begins with another has no fewer entries
no_shorter : (before after : List Entry) → IsPrefix before after → length before ≤ length after
no_shorter before after begins = omega (arith, sym (ap length begins.1) ∙ length-append before begins.0)

-- a turn that was taken by a keeper, and what it has entered by it: just what its response has beyond the journal that it
-- met, or nothing
abbrev pub TakesTurnOnce : (List Entry → List Entry → Type 0) → SessionState → ℕ → List Entry → Turn → ℕ → List Entry
    → Type 0
TakesTurnOnce Others opening own before (Answered user request text) own_now after =
    EntersItOnce Others opening own before user request text own_now after
TakesTurnOnce Others opening own before (TakenIn user request) own_now after =
    (text : List ℕ) × EntersItOnce Others opening own before user request text own_now after
TakesTurnOnce Others opening own before Passed own_now after =
    (own_now ≡ own) × TakesTurn Others opening before Passed after

-- what happened since a history and tells a turn, by which a keeper has entered as many entries as were added there
pub record SinceEntered (opening : SessionState) (earlier : List Moment) (journal : List Entry) (turn : Turn)
    (own own_now : ℕ) : Type 0 where
  pub happened : Since opening earlier journal
  pub told : IsTurnSince opening earlier happened.since turn
  pub entered : own_now ≡ own + added_by_turn opening earlier happened.since turn told

module _ (Others : List Entry → List Entry → Type 0) (only_add : OnlyAdd Others) (opening : SessionState) where
  module _ (earlier : List Moment) (happened : IsHistory opening earlier) (before after : List Entry)
      (is : (now earlier).journal ≡ before)
      (accepted : IsAccepted opening after) where
    -- a batch was run after others had led the journal on, who did so afterwards too
    receipt_since : (met : List Entry) (first : Since opening earlier met) (refused_at : Option ℕ) (user : List ℕ)
        (commands : List Command) (text : List ℕ) →
        receipt_of met (run_with refused_at opening met user commands) ≡ text →
        IsPrefix (run_with refused_at opening met user commands).journal after →
        SinceAdded opening earlier after user (Batch commands) text met
        (run_with refused_at opening met user commands).journal
    receipt_since met first refused_at user commands text says begins =
        let world = now (first.since ++ earlier) in
        let progress : Progress = run_with refused_at opening world.journal user commands in
        let runs = runs_of opening world.journal user commands refused_at in
        let submits : Submits opening world user commands (with_journal world progress.journal) =
        record { stopped = runs.0; progress = progress; ran = runs.1; leaves = refl } in
        let left : List Entry = (run_with refused_at opening met user commands).journal in
        let second : Since opening earlier left = record {
          since = record { step = Submit user commands; after = with_journal world progress.journal } ∷ first.since;
          happened = (submits, first.happened);
          journal_is = ap (λ journal. (run_with refused_at opening journal user commands).journal) first.journal_is;
        } in
        let third : Since opening (second.since ++ earlier) after =
        goes_on_to opening (second.since ++ earlier) second.happened left after second.journal_is begins accepted in
        record {
          happened = over opening earlier left after second third;
          told = record {
            submitted = record {
              until = first.since;
              after = with_journal world progress.journal;
              later = third.since;
              split = refl;
              submits = submits;
            };
            says = sym says ∙ ap (λ journal. receipt_of journal (run_with refused_at opening journal user commands))
                (sym first.journal_is);
          };
          added =
              let longer : length world.journal ≤ length progress.journal =
              no_shorter world.journal progress.journal
              (runs_begin runs.0 opening world.journal user commands progress runs.1) in
              let exact : (length progress.journal - length world.journal) + length world.journal
              ≡ length progress.journal = omega (arith, longer) in
              subst (λ journal. (length progress.journal - length world.journal) + length journal
              ≡ length (run_with refused_at opening journal user commands).journal) first.journal_is exact;
        }

    -- a request was answered
    text_since : (user : List ℕ) (request : UserRequest) (text : List ℕ) →
        (answer : IsAnsweredOnce Others opening before user request text after) →
        SinceAdded opening earlier after user request text answer.met
        (response_at opening answer.met answer.refused_at user request).journal
    text_since user (Query query wanted) text answer =
        let first : Since opening earlier answer.met =
        goes_on_to opening earlier happened before answer.met is (only_add before answer.met answer.came)
        (beginning_accepted opening answer.met after answer.begins accepted) in
        let reads = (may_go_on opening (first.since ++ earlier) first.happened).1.query 0 user query wanted in
        let same : reply_after opening answer.met user query wanted ≡ reads.0 =
        sym (reads.2.reply ∙ ap (λ entries. reply_after opening entries user query wanted)
        (take-length (now (first.since ++ earlier)).journal ∙ first.journal_is)) in
        record {
          happened = record {
            since = record {
              step = Read (newest (now (first.since ++ earlier)) 0 user query wanted (Some reads.0));
              after = reads.1;
            } ∷ first.since;
            happened = (reads.2, first.happened);
            journal_is = ap (λ world. world.journal) reads.2.leaves ∙ first.journal_is ∙ sym answer.went;
          };
          told = record {
            reading = newest (now (first.since ++ earlier)) 0 user query wanted (Some reads.0);
            reply = reads.0;
            given = record { earlier = first.since; after = reads.1; later = []; split = refl; given = refl };
            of_user = refl;
            for_query = refl;
            wants = refl;
            says = sym answer.says ∙ ap reply_text same;
          };
          added = nothing_added (length answer.met);
        }
    text_since user (Batch commands) text answer =
        let may = runs_of opening answer.met user commands answer.refused_at in
        let begins : IsPrefix answer.met after =
        prefix_trans answer.met (run_with answer.refused_at opening answer.met user commands).journal after
        (runs_begin may.0 opening answer.met user commands (run_with answer.refused_at opening answer.met user commands)
        may.1)
        answer.begins in
        let first : Since opening earlier answer.met =
        goes_on_to opening earlier happened before answer.met is (only_add before answer.met answer.came)
        (beginning_accepted opening answer.met after begins accepted) in
        receipt_since answer.met first answer.refused_at user commands text answer.says answer.begins
    text_since user (Audit range) text answer =
        let first : Since opening earlier answer.met =
        goes_on_to opening earlier happened before answer.met is (only_add before answer.met answer.came)
        (beginning_accepted opening answer.met after answer.begins accepted) in
        let second : Since opening (first.since ++ earlier) after =
        goes_on_to opening (first.since ++ earlier) first.happened answer.met after first.journal_is answer.begins
        accepted in
        record {
          happened = over opening earlier answer.met after first second;
          told = record {
            until = first.since;
            later = second.since;
            split = refl;
            says = sym answer.says ∙ ap (λ journal. audit_reply opening journal user range) (sym first.journal_is);
          };
          added = nothing_added (length answer.met);
        }

    -- a turn was taken
    turn_since : (turn : Turn) → TakesTurn Others opening before turn after → SinceTold opening earlier after
        (λ since. IsTurnSince opening earlier since turn)
    turn_since (Answered user request text) takes =
        let found = text_since user request text takes in
        record { happened = found.happened; told = found.told }
    turn_since (TakenIn user request) (text, answer) =
        let found = text_since user request text answer in
        record {
          happened = found.happened;
          told = effect_of_text opening earlier found.happened.since user request text
              found.told;
        }
    turn_since Passed (inl same) = record {
      happened = goes_on_to opening earlier happened before after is
          (subst (IsPrefix before) (sym same) (prefix_self before)) accepted;
      told = tt;
    }
    turn_since Passed (inr others) = record {
      happened = goes_on_to opening earlier happened before after is
          (only_add before after others) accepted;
      told = tt;
    }

    -- a turn was taken by a keeper that has entered by it just what its response has beyond the journal that it met: as
    -- many entries as what tells the turn has added
    module _ (own own_now : ℕ) where
      pub turn_entered : (turn : Turn) → TakesTurnOnce Others opening own before turn own_now after →
          SinceEntered opening earlier after turn own own_now
      turn_entered (Answered user request text) once =
          let found = text_since user request text once.once in
          record {
            happened = found.happened;
            told = found.told;
            entered = omega (arith, found.added, once.entered);
          }
      turn_entered (TakenIn user request) (text, once) =
          let found = text_since user request text once.once in
          let same = added_too opening earlier found.happened.since user request text found.told in
          record {
            happened = found.happened;
            told = effect_of_text opening earlier found.happened.since user request text found.told;
            entered = omega (arith, found.added, once.entered, same);
          }
      turn_entered Passed (none, takes) =
          let found = turn_since Passed takes in
          record { happened = found.happened; told = tt; entered = omega (arith, none) }

  -- a history that tells a conversation, and after which the journal is the one at which it stops
  pub record Telling (stops : List Stop) : Type 0 where
    pub history : List Moment
    pub happened : IsHistory opening history
    pub tells : IsToldBy opening stops history
    pub journal : (now history).journal ≡ journal_now stops

  pub telling : (stops : List Stop) → IsConversation Others opening stops → Telling stops
  telling [] conversation = record { history = []; happened = tt; tells = refl; journal = refl }
  telling (stop ∷ earlier) (takes, accepted, conversation) =
      let before = telling earlier conversation in
      let found = turn_since before.history before.happened (journal_now earlier) stop.journal before.journal accepted
      stop.turn takes in
      record {
        history = found.happened.since ++ before.history;
        happened = found.happened.happened;
        tells = (
          before.history,
          record { since = found.happened.since; split = refl; told = found.told; journal = found.happened.journal_is },
          before.tells,
        );
        journal = found.happened.journal_is;
      }

-- a conversation is told by a history
pub conversation_told : (Others : List Entry → List Entry → Type 0) (opening : SessionState) (stops : List Stop) →
    OnlyAdd Others → IsConversation Others opening stops →
    (history : List Moment) × IsHistory opening history × IsToldBy opening stops history
conversation_told Others opening stops only_add conversation =
    let told = telling Others only_add opening stops conversation in (told.history, told.happened, told.tells)
