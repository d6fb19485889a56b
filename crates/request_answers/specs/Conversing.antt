-- A conversation with one who keeps a session, one request after another, and the history of the session that tells it:
-- each text in it is that of a reply to a reading, of a receipt for a submission, or of an audit at some moment.
use Rattle.std.specs.Prelude.{◌≡◌, ◌⊎◌, ℕ, ◌+◌, ◌-◌, List, [], ◌∷◌, ◌++◌, length}
use mathlib.Core.List.{IsPrefix}
use Rattle.session_state.specs.SessionState.{SessionState}
use Rattle.session_commands.specs.declared.command.Command.{Command}
use Rattle.session_commands.specs.declared.entry.Entry.{Entry}
use Rattle.session_book.specs.Journal.{IsAccepted}
use Rattle.session_queries.specs.declared.query.Query as the_query
use Rattle.session_queries.specs.declared.reply.Reply.{Reply}
use Rattle.published_view.specs.History.{IsGivenIn}
use Rattle.published_view.specs.World.{World, Reading, Moment, Submit, Submits, now}
use Rattle.reply_texts.specs.ReplyText.{reply_text}
use Rattle.wire.specs.declared.audit_range.AuditRange.{AuditRange}
use Rattle.wire.specs.declared.request.UserRequest.{UserRequest}
use Rattle.wire.specs.declared.request.UserRequest.TheVariants.{Query, Batch, Audit}
use Rattle.request_answers.specs.Answering.{IsAnsweredOnce}
use Rattle.request_answers.specs.Response.{audit_reply, receipt_of}

-- ---- conversations

-- one turn of a conversation
pub data Turn : Type 0 where
  -- a user's request was answered by a text
  Answered : List ℕ → UserRequest → List ℕ → Turn
  -- a user's request had its effect, but there was no memory for its text
  TakenIn : List ℕ → UserRequest → Turn
  -- nothing came of what was asked
  Passed : Turn

-- what a turn makes of the journal for which the keeper stands. Where nothing comes of it, others may have led the
-- journal on
abbrev pub TakesTurn : (List Entry → List Entry → Type 0) → SessionState → List Entry → Turn → List Entry → Type 0
TakesTurn Others opening before (Answered user request text) after =
    IsAnsweredOnce Others opening before user request text after
TakesTurn Others opening before (TakenIn user request) after =
    (text : List ℕ) × IsAnsweredOnce Others opening before user request text after
TakesTurn Others opening before Passed after = (after ≡ before) ⊎ Others before after

-- a turn, and the journal after it
pub record Stop : Type 0 where
  pub turn : Turn
  pub journal : List Entry

-- the journal after the stops of a conversation, of which the newest comes first
abbrev pub journal_now : List Stop → List Entry
journal_now [] = []
journal_now (stop ∷ earlier) = stop.journal

-- a conversation: each turn was taken from the journal at which those before it stopped, and stops at an accepted one
abbrev pub IsConversation : (List Entry → List Entry → Type 0) → SessionState → List Stop → Type 0
IsConversation Others opening [] = Unit {0}
IsConversation Others opening (stop ∷ earlier) =
    TakesTurn Others opening (journal_now earlier) stop.turn stop.journal
    × IsAccepted opening stop.journal
    × IsConversation Others opening earlier

-- others only add to a journal
abbrev pub OnlyAdd : (List Entry → List Entry → Type 0) → Type 0
OnlyAdd Others = (before after : List Entry) → Others before after → IsPrefix before after

-- ---- what happened since

-- since some earlier moments of a history a display read for a user's query, which wants a version since a given one,
-- and the text is that of the reply
pub record ReadsSince (since : List Moment) (user : List ℕ) (query : the_query.Query) (wanted : ℕ) (text : List ℕ)
    : Type 0 where
  pub reading : Reading
  pub reply : Reply
  pub given : IsGivenIn since reading reply
  pub of_user : reading.user ≡ user
  pub for_query : reading.query ≡ query
  pub wants : reading.since ≡ wanted
  pub says : text ≡ reply_text reply

-- since some earlier moments of a history a desk submitted a user's batch, which was run after all that had happened
-- until then
pub record SubmitsSince (opening : SessionState) (earlier since : List Moment) (user : List ℕ) (commands : List Command)
    : Type 0 where
  pub until : List Moment
  pub after : World
  pub later : List Moment
  pub split : since ≡ later ++ record { step = Submit user commands; after = after } ∷ until
  pub submits : Submits opening (now (until ++ earlier)) user commands after

-- and the text is that of the receipt for it
pub record IsReceipted (opening : SessionState) (earlier since : List Moment) (user : List ℕ) (commands : List Command)
    (text : List ℕ) : Type 0 where
  pub submitted : SubmitsSince opening earlier since user commands
  pub says : text ≡ receipt_of (now (submitted.until ++ earlier)).journal submitted.submits.progress

-- since some earlier moments of a history there was one at which the text is that of a user's audit
pub record IsAudited (opening : SessionState) (earlier since : List Moment) (user : List ℕ) (range : AuditRange)
    (text : List ℕ) : Type 0 where
  pub until : List Moment
  pub later : List Moment
  pub split : since ≡ later ++ until
  pub says : text ≡ audit_reply opening (now (until ++ earlier)).journal user range

-- the text of a user's request is that of what happened since some earlier moments of a history
abbrev pub IsTextSince : SessionState → List Moment → List Moment → List ℕ → UserRequest → List ℕ → Type 0
IsTextSince opening earlier since user (Query query wanted) text = ReadsSince since user query wanted text
IsTextSince opening earlier since user (Batch commands) text = IsReceipted opening earlier since user commands text
IsTextSince opening earlier since user (Audit range) text = IsAudited opening earlier since user range text

-- the effect of a user's request is among what happened since some earlier moments of a history: only a batch has one
abbrev pub IsEffectSince : SessionState → List Moment → List Moment → List ℕ → UserRequest → Type 0
IsEffectSince opening earlier since user (Query query wanted) = Unit {0}
IsEffectSince opening earlier since user (Batch commands) = SubmitsSince opening earlier since user commands
IsEffectSince opening earlier since user (Audit range) = Unit {0}

-- a turn is told by what happened since some earlier moments of a history
abbrev pub IsTurnSince : SessionState → List Moment → List Moment → Turn → Type 0
IsTurnSince opening earlier since (Answered user request text) = IsTextSince opening earlier since user request text
IsTurnSince opening earlier since (TakenIn user request) = IsEffectSince opening earlier since user request
IsTurnSince opening earlier since Passed = Unit {0}

-- ---- conversations in histories

-- a history ends at a stop: what happened since some earlier moments tells the turn, and the journal is the session's
pub record EndsAt (opening : SessionState) (stop : Stop) (history earlier : List Moment) : Type 0 where
  pub since : List Moment
  pub split : history ≡ since ++ earlier
  pub told : IsTurnSince opening earlier since stop.turn
  pub journal : (now history).journal ≡ stop.journal

-- a history tells a conversation: it ends at the newest stop, and the earlier moments tell the stops before it. Before
-- the first stop nothing has happened
abbrev pub IsToldBy : SessionState → List Stop → List Moment → Type 0
IsToldBy opening [] history = history ≡ []
IsToldBy opening (stop ∷ earlier_stops) history =
    (earlier : List Moment) × EndsAt opening stop history earlier × IsToldBy opening earlier_stops earlier

-- ---- what was added

-- how many entries a submission has added
abbrev pub added_by : (opening : SessionState) (earlier since : List Moment) (user : List ℕ) (commands : List Command)
    → SubmitsSince opening earlier since user commands → ℕ
added_by opening earlier since user commands submits =
    length submits.after.journal - length (now (submits.until ++ earlier)).journal

-- how many what tells of a text has added: only a batch's submission adds any
abbrev pub added_by_text : (opening : SessionState) (earlier since : List Moment) (user : List ℕ)
    (request : UserRequest) (text : List ℕ) → IsTextSince opening earlier since user request text → ℕ
added_by_text opening earlier since user (Query query wanted) text told = 0
added_by_text opening earlier since user (Batch commands) text told =
    added_by opening earlier since user commands told.submitted
added_by_text opening earlier since user (Audit range) text told = 0

-- how many what tells of an effect has added
abbrev pub added_by_effect : (opening : SessionState) (earlier since : List Moment) (user : List ℕ)
    (request : UserRequest) → IsEffectSince opening earlier since user request → ℕ
added_by_effect opening earlier since user (Query query wanted) told = 0
added_by_effect opening earlier since user (Batch commands) told = added_by opening earlier since user commands told
added_by_effect opening earlier since user (Audit range) told = 0

-- how many what tells a turn has added
abbrev pub added_by_turn : (opening : SessionState) (earlier since : List Moment) (turn : Turn)
    → IsTurnSince opening earlier since turn → ℕ
added_by_turn opening earlier since (Answered user request text) told =
    added_by_text opening earlier since user request text told
added_by_turn opening earlier since (TakenIn user request) told =
    added_by_effect opening earlier since user request told
added_by_turn opening earlier since Passed told = 0

-- how many the requests of a conversation have added, in the history that tells it: those that others added aren't among
-- them
abbrev pub added_by_all : (opening : SessionState) (stops : List Stop) (history : List Moment)
    → IsToldBy opening stops history → ℕ
added_by_all opening [] history told = 0
added_by_all opening (stop ∷ earlier_stops) history (earlier, ends, tells) =
    added_by_turn opening earlier ends.since stop.turn ends.told
    + added_by_all opening earlier_stops earlier tells
