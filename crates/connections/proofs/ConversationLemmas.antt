-- A conversation on connections is one of users with who keeps the session.
use Rattle.std.proofs.Common.{arith, ◌≡◌, ◌≢◌, ◌⊎◌, inl, inr, ℕ, ◌+◌, List, [], ◌∷◌, ◌++◌, refl, sym, ap, subst, ◌∙◌}
use Rattle.std.specs.Prelude.{Option, Some, None, Result, Ok, Err}
use Rattle.session_state.specs.SessionState.{SessionState}
use Rattle.session_commands.specs.declared.command.Command.{Command}
use Rattle.session_commands.specs.declared.entry.Entry.{Entry}
use Rattle.session_book.specs.Journal.{IsAccepted}
use Rattle.published_view.specs.World.{Moment, IsHistory, now}
use Rattle.json_fields.specs.declared.request_fault.RequestFault.{RequestFault}
use Rattle.wire.specs.ReceiptText.{connection_fault_text}
use Rattle.wire.specs.Request.{connection_meaning}
use Rattle.wire.specs.declared.connection_fault.ConnectionFault.{ConnectionFault}
use Rattle.wire.specs.declared.connection_fault.ConnectionFault.TheVariants.{
  NotSignedIn,
  NotKnown,
  NoEntry,
  NotKept,
  Unsure,
  OutOfMemory,
}
use Rattle.wire.specs.declared.request.RequestBody.{RequestBody}
use Rattle.wire.specs.declared.request.RequestBody.TheVariants.{OfUser, Hello}
use Rattle.wire.specs.declared.request.UserRequest.{UserRequest}
use Rattle.wire.specs.declared.request.UserRequest.TheVariants.{Query, Batch, Audit}
use Rattle.request_answers.specs.Answering.{IsAnsweredOnce, EntersItOnce}
use Rattle.request_answers.specs.declared.answer_fault.AnswerFault.TheVariants as unanswered
use Rattle.request_answers.specs.Conversing.{
  Turn,
  Answered,
  TakenIn,
  Passed,
  TakesTurn,
  Stop,
  IsConversation,
  IsToldBy,
  OnlyAdd,
  added_by_all,
  journal_now,
}
use Rattle.request_answers.proofs.ConversingLemmas.{TakesTurnOnce, turn_entered}
use Rattle.connections.specs.Conversation.{
  Exchange,
  AreExchanged,
  AreStopsOf,
  Asks,
  EntersByTurn,
  IsExchanged,
  IsFaultFor,
  SendsBatch,
  journal_then,
  own_entries_then,
}
use Rattle.connections.specs.Linked.{Linked, EntersNone}
use Rattle.connections.specs.Serving.{
  AddsNothing,
  AnswersOnce,
  ForUser,
  HasNoAnswer,
  IsUnserved,
  Leaves,
  LeavesRequest,
  Serves,
  ServesRead,
}
use Rattle.connections.proofs.ServingLemmas.{none_unless}

-- a turn for an exchange
record IsTurnFor (Others : List Entry → List Entry → Type 0) (no_entry not_kept : Type 0) (before : Linked)
    (message : List ℕ) (answer : Option (List ℕ)) (after : Linked) : Type 0 where
  turn : Turn
  takes : TakesTurn Others before.opening before.journal turn after.journal
  accepted : IsAccepted before.opening before.journal → IsAccepted before.opening after.journal
  entered :
      EntersByTurn Others (record { before = before; message = message; answer = answer; after = after }) turn
  answered : (user : List ℕ) (request : UserRequest) (text : List ℕ) →
      connection_meaning before.opening.public.edition message ≡ Ok (OfUser request) →
      before.user ≡ Some user → answer ≡ Some text →
      (turn ≡ Answered user request text) ⊎ ((turn ≡ Passed) × IsFaultFor no_entry not_kept request text)

-- the text of a fault for which a request has no answer
fault_for : (Others : List Entry → List Entry → Type 0) (no_entry not_kept : Type 0) (before after : Linked)
    (user : List ℕ) (request : UserRequest) (text : List ℕ) (fault : ConnectionFault) →
    IsUnserved Others no_entry not_kept before after user request fault → fault ≢ OutOfMemory →
    text ≡ connection_fault_text fault → IsFaultFor no_entry not_kept request text
fault_for Others no_entry not_kept before after user request text NotSignedIn why has_text says = absurd why
fault_for Others no_entry not_kept before after user request text NotKnown why has_text says = absurd why
fault_for Others no_entry not_kept before after user (Query query since) text NoEntry why has_text says =
    (why.0.1, says)
fault_for Others no_entry not_kept before after user (Batch commands) text NoEntry why has_text says = absurd why.0.0
fault_for Others no_entry not_kept before after user (Audit range) text NoEntry why has_text says = absurd why.0.0
fault_for Others no_entry not_kept before after user (Query query since) text NotKept why has_text says = absurd why.0.0
fault_for Others no_entry not_kept before after user (Batch commands) text NotKept why has_text says =
    (why.0.1, inl says)
fault_for Others no_entry not_kept before after user (Audit range) text NotKept why has_text says = absurd why.0.0
fault_for Others no_entry not_kept before after user (Query query since) text Unsure why has_text says = absurd why.0.0
fault_for Others no_entry not_kept before after user (Batch commands) text Unsure why has_text says =
    (why.0.1, inr says)
fault_for Others no_entry not_kept before after user (Audit range) text Unsure why has_text says = absurd why.0.0
fault_for Others no_entry not_kept before after user request text OutOfMemory why has_text says =
    absurd (has_text refl)

-- nothing came of a request for which the text of a fault is told
fault_passes : (Others : List Entry → List Entry → Type 0) (no_entry not_kept : Type 0) (before after : Linked)
    (user : List ℕ) (request : UserRequest) (fault : ConnectionFault) →
    IsUnserved Others no_entry not_kept before after user request fault → fault ≢ OutOfMemory →
    TakesTurn Others before.opening before.journal Passed after.journal
fault_passes Others no_entry not_kept before after user request NotSignedIn why has_text = absurd why
fault_passes Others no_entry not_kept before after user request NotKnown why has_text = absurd why
fault_passes Others no_entry not_kept before after user request NoEntry why has_text = inl why.0.2
fault_passes Others no_entry not_kept before after user request NotKept why has_text = inr why.0.2
fault_passes Others no_entry not_kept before after user request Unsure why has_text = inr why.0.2
fault_passes Others no_entry not_kept before after user request OutOfMemory why has_text = absurd (has_text refl)

-- nor has its keeper entered anything
fault_enters : (Others : List Entry → List Entry → Type 0) (no_entry not_kept : Type 0) (before after : Linked)
    (user : List ℕ) (request : UserRequest) (fault : ConnectionFault) →
    IsUnserved Others no_entry not_kept before after user request fault → fault ≢ OutOfMemory → EntersNone before after
fault_enters Others no_entry not_kept before after user request NotSignedIn why has_text = absurd why
fault_enters Others no_entry not_kept before after user request NotKnown why has_text = absurd why
fault_enters Others no_entry not_kept before after user request NoEntry why has_text =
    none_unless Others before after user request unanswered.NoEntry (λ is. cc) why.1
fault_enters Others no_entry not_kept before after user request NotKept why has_text =
    none_unless Others before after user request unanswered.NotKept (λ is. cc) why.1
fault_enters Others no_entry not_kept before after user request Unsure why has_text =
    none_unless Others before after user request unanswered.Unsure (λ is. cc) why.1
fault_enters Others no_entry not_kept before after user request OutOfMemory why has_text = absurd (has_text refl)

-- a connection that is as before
none_same : (before after : Linked) → after ≡ before → EntersNone before after
none_same before after same = ap (λ (l : Linked). l.own_entries) same

module _ (Others : List Entry → List Entry → Type 0) (no_entry not_kept : Type 0) (before after : Linked)
    (message : List ℕ) where
  -- where the journal stays as it is, it is accepted as before
  stays_accepted : after.journal ≡ before.journal → IsAccepted before.opening before.journal →
      IsAccepted before.opening after.journal
  stays_accepted same accepted = subst (IsAccepted before.opening) (sym same) accepted

  -- a text for what was read
  module _ (text : List ℕ) where
    same_fault : {request : UserRequest} (asked : UserRequest) (said : List ℕ) → request ≡ asked → text ≡ said →
        IsFaultFor no_entry not_kept request text → IsFaultFor no_entry not_kept asked said
    same_fault asked said is_request is_text fault =
        subst (λ t. IsFaultFor no_entry not_kept asked t) is_text
        (subst (λ r. IsFaultFor no_entry not_kept r text) is_request fault)

    at_user : (request : UserRequest) → connection_meaning before.opening.public.edition message ≡ Ok
        (OfUser request) →
        (signed_in : Option (List ℕ)) →
        before.user ≡ signed_in → ForUser Others no_entry not_kept before after request text signed_in →
        IsTurnFor Others no_entry not_kept before message (Some text) after
    at_user request means None nobody (told, same) = record {
      turn = Passed;
      takes = inl (ap (λ (l : Linked). l.journal) same);
      accepted = stays_accepted (ap (λ (l : Linked). l.journal) same);
      entered = none_same before after same;
      answered = λ user asked said also is_user is_text. absurd (cc);
    }
    at_user request means (Some name) is_name (inl once, stays, now_accepted) = record {
      turn = Answered name request text;
      takes = subst (λ opening. IsAnsweredOnce Others opening before.journal name request text after.journal)
          stays.later.same once.once;
      accepted = λ accepted. subst (λ opening. IsAccepted opening after.journal) stays.later.same now_accepted;
      entered = ((means, is_name), refl, once);
      answered = λ user asked said also is_user is_text. inl (cc);
    }
    at_user request means (Some name) is_name (inr told, stays, now_accepted) =
        let is_fault : IsFaultFor no_entry not_kept request text = fault_for Others no_entry not_kept before after name
        request text told.fault told.why told.has_text told.says in
        record {
          turn = Passed;
          takes = fault_passes Others no_entry not_kept before after name request told.fault told.why told.has_text;
          accepted = λ accepted. subst (λ opening. IsAccepted opening after.journal) stays.later.same now_accepted;
          entered = fault_enters Others no_entry not_kept before after name request told.fault told.why told.has_text;
          answered = λ user asked said also is_user is_text.
              inr (refl, same_fault asked said (cc) (cc) is_fault);
        }

    at_read : (read : Result RequestBody RequestFault) →
        connection_meaning before.opening.public.edition message ≡ read →
        ServesRead Others no_entry not_kept before after text read →
        IsTurnFor Others no_entry not_kept before message (Some text) after
    at_read (Ok (OfUser request)) means serves = at_user request means before.user refl serves
    at_read (Ok (Hello name token)) means greets = record {
      turn = Passed;
      takes = inr greets.others;
      accepted = λ accepted. subst (λ opening. IsAccepted opening after.journal) greets.later.same greets.accepted;
      entered = greets.none;
      answered = λ user asked said also is_user is_text. absurd (cc);
    }
    at_read (Err fault) means (is_text, same) = record {
      turn = Passed;
      takes = inl (ap (λ (l : Linked). l.journal) same);
      accepted = stays_accepted (ap (λ (l : Linked). l.journal) same);
      entered = none_same before after same;
      answered = λ user asked said also is_user is_said. absurd (cc);
    }

  -- no text, since memory was refused
  passes : AddsNothing before after → IsTurnFor Others no_entry not_kept before message None after
  passes (same, none) = record {
    turn = Passed;
    takes = inl same;
    accepted = stays_accepted same;
    entered = none;
    answered = λ user asked said also is_user is_text. absurd (cc);
  }

  module _ (same_opening : after.opening ≡ before.opening) where
    left_by : (request : UserRequest) →
        connection_meaning before.opening.public.edition message ≡ Ok (OfUser request) →
        (signed_in : Option (List ℕ)) → before.user ≡ signed_in →
        LeavesRequest Others before after request signed_in →
        IsTurnFor Others no_entry not_kept before message None after
    left_by request means None nobody nothing = passes nothing
    left_by request means (Some name) is_name (inl nothing) = passes nothing
    left_by request means (Some name) is_name (inr (inl (others, none), now_accepted)) = record {
      turn = Passed;
      takes = inr others;
      accepted = λ accepted. subst (λ opening. IsAccepted opening after.journal) same_opening now_accepted;
      entered = none;
      answered = λ user asked said also is_user is_text. absurd (cc);
    }
    left_by request means (Some name) is_name (inr (inr (text, once), now_accepted)) = record {
      turn = TakenIn name request;
      takes = (
        text,
        subst (λ opening. IsAnsweredOnce Others opening before.journal name request text after.journal)
            same_opening once.once,
      );
      accepted = λ accepted. subst (λ opening. IsAccepted opening after.journal) same_opening now_accepted;
      entered = ((means, is_name), refl, text, once);
      answered = λ user asked said also is_user is_text. absurd (cc);
    }

    left : (read : Result RequestBody RequestFault) →
        connection_meaning before.opening.public.edition message ≡ read → Leaves Others before after read →
        IsTurnFor Others no_entry not_kept before message None after
    left (Ok (OfUser request)) means leaves = left_by request means before.user refl leaves
    left (Ok (Hello name token)) means (inl nothing) = passes nothing
    left (Ok (Hello name token)) means (inr ((others, none), now_accepted)) = record {
      turn = Passed;
      takes = inr others;
      accepted = λ accepted. subst (λ opening. IsAccepted opening after.journal) same_opening now_accepted;
      entered = none;
      answered = λ user asked said also is_user is_text. absurd (cc);
    }
    left (Err fault) means nothing = passes nothing

  turn_for : (answer : Option (List ℕ)) → IsExchanged Others no_entry not_kept before message answer after →
      IsTurnFor Others no_entry not_kept before message answer after
  unfolding Serves HasNoAnswer
  turn_for (Some text) serves = at_read text (connection_meaning before.opening.public.edition message) refl serves
  turn_for None (stays, leaves) =
      left stays.later.same (connection_meaning before.opening.public.edition message) refl leaves

module _ (Others : List Entry → List Entry → Type 0) (no_entry not_kept : Type 0) (before after : Linked) where
  stays_for : (request : UserRequest) (text : List ℕ) (user : Option (List ℕ)) →
      ForUser Others no_entry not_kept before after request text user → after.opening ≡ before.opening
  stays_for request text None (told, same) = ap (λ (l : Linked). l.opening) same
  stays_for request text (Some user) (told, stays, accepted) = stays.later.same

  stays_read : (text : List ℕ) (read : Result RequestBody RequestFault) →
      ServesRead Others no_entry not_kept before after text read → after.opening ≡ before.opening
  stays_read text (Ok (OfUser request)) serves = stays_for request text before.user serves
  stays_read text (Ok (Hello name token)) greets = greets.later.same
  stays_read text (Err fault) (is_text, same) = ap (λ (l : Linked). l.opening) same

  -- an exchange leaves the session the same
  pub opening_stays : (message : List ℕ) (answer : Option (List ℕ)) →
      IsExchanged Others no_entry not_kept before message answer after → after.opening ≡ before.opening
  unfolding Serves HasNoAnswer
  opening_stays message (Some text) serves =
      stays_read text (connection_meaning before.opening.public.edition message) serves
  opening_stays message None (stays, leaves) = stays.later.same

-- ---- what a message enters

-- a request that is no batch enters nothing
other_enters : (Others : List Entry → List Entry → Type 0) (before after : Linked) (user : List ℕ)
    (request : UserRequest) (text : List ℕ) →
    ((commands : List Command) → request ≢ Batch commands) → AnswersOnce Others before after user request text →
    EntersNone before after
other_enters Others before after user (Query query since) text none once = omega (arith, once.entered)
other_enters Others before after user (Batch commands) text none once = absurd (none commands refl)
other_enters Others before after user (Audit range) text none once = omega (arith, once.entered)

-- so it is of a turn
turn_enters : (Others : List Entry → List Entry → Type 0) (exchange : Exchange) → (¬ SendsBatch exchange) →
    (turn : Turn) → EntersByTurn Others exchange turn → EntersNone exchange.before exchange.after
turn_enters Others exchange none (Answered user request text) (asks, is_text, once) =
    other_enters Others exchange.before exchange.after user request text
    (λ commands is. none (record { user = user; commands = commands; asks = subst (Asks exchange user) is asks })) once
turn_enters Others exchange none (TakenIn user request) (asks, is_none, text, once) =
    other_enters Others exchange.before exchange.after user request text
    (λ commands is. none (record { user = user; commands = commands; asks = subst (Asks exchange user) is asks })) once
turn_enters Others exchange none Passed entered = entered

-- and of each exchange
pub only_batches_enter : (Others : List Entry → List Entry → Type 0) (no_entry not_kept : Type 0)
    (exchange : Exchange) →
    IsExchanged Others no_entry not_kept exchange.before exchange.message exchange.answer exchange.after →
    (¬ SendsBatch exchange) → EntersNone exchange.before exchange.after
only_batches_enter Others no_entry not_kept exchange exchanged none =
    let found = turn_for Others no_entry not_kept exchange.before exchange.after exchange.message exchange.answer
    exchanged in
    turn_enters Others exchange none found.turn found.entered

-- ---- conversations

-- the turn of an exchange, and what was entered by it
turn_once : (Others : List Entry → List Entry → Type 0) (exchange : Exchange) (turn : Turn) →
    exchange.after.opening ≡ exchange.before.opening →
    TakesTurn Others exchange.before.opening exchange.before.journal turn exchange.after.journal →
    EntersByTurn Others exchange turn →
    TakesTurnOnce Others exchange.before.opening exchange.before.own_entries exchange.before.journal turn
    exchange.after.own_entries exchange.after.journal
turn_once Others exchange (Answered user request text) same takes (asks, is_text, once) =
    subst (λ o. EntersItOnce Others o exchange.before.own_entries exchange.before.journal user request text
    exchange.after.own_entries exchange.after.journal) same once
turn_once Others exchange (TakenIn user request) same takes (asks, is_none, text, once) = (
  text,
  subst (λ o. EntersItOnce Others o exchange.before.own_entries exchange.before.journal user request text
      exchange.after.own_entries exchange.after.journal) same once,
)
turn_once Others exchange Passed same takes none = (none, takes)

-- the stops of a conversation on connections, and a history that tells them
record Conversed (Others : List Entry → List Entry → Type 0) (no_entry not_kept : Type 0) (opening : SessionState)
    (own : ℕ) (exchanges : List Exchange) : Type 0 where
  stops : List Stop
  each : AreStopsOf Others no_entry not_kept exchanges stops
  journal : journal_now stops ≡ journal_then exchanges
  accepted : IsAccepted opening (journal_then exchanges)
  conversation : IsConversation Others opening stops
  history : List Moment
  happened : IsHistory opening history
  tells : IsToldBy opening stops history
  reached : (now history).journal ≡ journal_then exchanges
  added : own_entries_then own exchanges ≡ own + added_by_all opening stops history tells

pub conversed : (Others : List Entry → List Entry → Type 0) (no_entry not_kept : Type 0) (opening : SessionState)
    (own : ℕ) (exchanges : List Exchange) → OnlyAdd Others →
    AreExchanged Others no_entry not_kept opening own exchanges →
    (stops : List Stop) × AreStopsOf Others no_entry not_kept exchanges stops × IsConversation Others opening stops
    × (history : List Moment) × IsHistory opening history × (told : IsToldBy opening stops history)
    × (own_entries_then own exchanges ≡ own + added_by_all opening stops history told)
conversed Others no_entry not_kept opening own exchanges only_add exchanged =
    let all = each_of exchanges exchanged in
    (all.stops, all.each, all.conversation, all.history, all.happened, all.tells, all.added)
  where
    each_of : (exchanges : List Exchange) → AreExchanged Others no_entry not_kept opening own exchanges →
        Conversed Others no_entry not_kept opening own exchanges
    each_of [] exchanged = record {
      stops = [];
      each = tt;
      journal = refl;
      accepted = tt;
      conversation = tt;
      history = [];
      happened = tt;
      tells = refl;
      reached = refl;
      added = omega arith;
    }
    each_of (exchange ∷ earlier) (same, at, owned, exchanged, before) =
        let so_far = each_of earlier before in
        let accepted : IsAccepted exchange.before.opening exchange.before.journal =
        subst (λ o. IsAccepted o exchange.before.journal) (sym same)
        (subst (IsAccepted opening) (sym at) so_far.accepted) in
        let found = turn_for Others no_entry not_kept exchange.before exchange.after exchange.message exchange.answer
        exchanged in
        let now_accepted : IsAccepted opening exchange.after.journal =
        subst (λ o. IsAccepted o exchange.after.journal) same (found.accepted accepted) in
        let stays = opening_stays Others no_entry not_kept exchange.before exchange.after exchange.message
        exchange.answer exchanged in
        let once : TakesTurnOnce Others opening exchange.before.own_entries exchange.before.journal found.turn
        exchange.after.own_entries exchange.after.journal =
        subst (λ o. TakesTurnOnce Others o exchange.before.own_entries exchange.before.journal found.turn
        exchange.after.own_entries exchange.after.journal) same
        (turn_once Others exchange found.turn stays found.takes found.entered) in
        let happens = turn_entered Others only_add opening so_far.history so_far.happened exchange.before.journal
        exchange.after.journal (so_far.reached ∙ sym at) now_accepted exchange.before.own_entries
        exchange.after.own_entries found.turn once in
        record {
          stops = record { turn = found.turn; journal = exchange.after.journal } ∷ so_far.stops;
          each = (
            record { journal = refl; entered = found.entered; answered = found.answered },
            so_far.each,
          );
          journal = refl;
          accepted = now_accepted;
          conversation = (
            subst (λ o. TakesTurn Others o (journal_now so_far.stops) found.turn exchange.after.journal) same
                (subst (λ j. TakesTurn Others exchange.before.opening j found.turn exchange.after.journal)
                (at ∙ sym so_far.journal) found.takes),
            now_accepted,
            so_far.conversation,
          );
          history = happens.happened.since ++ so_far.history;
          happened = happens.happened.happened;
          tells = (
            so_far.history,
            record {
              since = happens.happened.since;
              split = refl;
              told = happens.told;
              journal = happens.happened.journal_is;
            },
            so_far.tells,
          );
          reached = happens.happened.journal_is;
          added = omega (arith, happens.entered, owned, so_far.added);
        }
