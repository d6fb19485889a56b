-- What tells a turn, in the whole of a history.
use Rattle.std.proofs.Common.{
  ◌≡◌,
  ◌≢◌,
  inl,
  inr,
  ◌⊎◌,
  ℕ,
  List,
  [],
  ◌∷◌,
  ◌++◌,
  refl,
  sym,
  ap,
  subst,
  ◌∙◌,
  append_assoc,
  append-nil,
}
use Rattle.session_state.specs.SessionState.{SessionState}
use Rattle.session_commands.specs.declared.entry.Entry.{Entry}
use Rattle.session_book.specs.Run.{Runs}
use Rattle.published_view.specs.World.{Moment, Submit, now, with_journal}
use Rattle.wire.specs.declared.request.UserRequest.{UserRequest}
use Rattle.wire.specs.declared.request.UserRequest.TheVariants.{Query, Batch, Audit}
use Rattle.request_answers.specs.Answering.{IsUnanswered}
use Rattle.request_answers.specs.Conversing.{Answered, TakenIn, Passed, TakesTurn, Stop, IsTextSince, IsToldBy}
use Rattle.request_answers.specs.Response.{audit_reply, receipt_of}
use Rattle.request_answers.specs.declared.answer_fault.AnswerFault.{AnswerFault}
use Rattle.request_answers.specs.declared.answer_fault.AnswerFault.TheVariants.{
  NoEntry,
  NotKept,
  Unsure,
  OutOfMemory,
}

module _ (Others : List Entry → List Entry → Type 0) (no_entry not_kept : Type 0) (opening : SessionState)
    (before : List Entry) (user : List ℕ) (request : UserRequest) (after : List Entry) where
  -- what has no answer for another reason than want of memory passed
  pub passed : (fault : AnswerFault) → fault ≢ OutOfMemory →
      IsUnanswered Others no_entry not_kept opening before user request fault after →
      TakesTurn Others opening before Passed after
  passed NoEntry other unanswered = inl unanswered.2
  passed NotKept other unanswered = inr unanswered.2
  passed Unsure other unanswered = inr unanswered.2
  passed OutOfMemory other unanswered = absurd (other refl)

  -- what has no answer took effect, or passed
  pub taken_in_or_passed : (fault : AnswerFault) →
      IsUnanswered Others no_entry not_kept opening before user request fault after →
      TakesTurn Others opening before (TakenIn user request) after ⊎ TakesTurn Others opening before Passed after
  taken_in_or_passed NoEntry unanswered = inr (inl unanswered.2)
  taken_in_or_passed NotKept unanswered = inr (inr unanswered.2)
  taken_in_or_passed Unsure unanswered = inr (inr unanswered.2)
  taken_in_or_passed OutOfMemory (inl others) = inr (inr others)
  taken_in_or_passed OutOfMemory (inr answer) = inl answer

module _ (opening : SessionState) (user : List ℕ) where
  -- what happened since some moments happened since earlier ones
  since_earlier : (rest middle since : List Moment) (request : UserRequest) (text : List ℕ) → IsTextSince opening
      (middle ++ rest) since user request text →
      IsTextSince opening rest (since ++ middle) user request text
  since_earlier rest middle since (Query query wanted) text told = record {
    reading = told.reading;
    reply = told.reply;
    given = record {
      earlier = told.given.earlier ++ middle;
      after = told.given.after;
      later = told.given.later;
      split = ap (λ moments. moments ++ middle) told.given.split ∙ append_assoc told.given.later
          (_ ∷ told.given.earlier) middle;
      given = told.given.given;
    };
    of_user = told.of_user;
    for_query = told.for_query;
    wants = told.wants;
    says = told.says;
  }
  since_earlier rest middle since (Batch commands) text told =
      let until = told.submitted.until in
      let same : until ++ (middle ++ rest) ≡ (until ++ middle) ++ rest = sym (append_assoc until middle rest) in
      let submits = told.submitted.submits in
      let moment : Moment = record { step = Submit user commands; after = told.submitted.after } in
      record {
        submitted = record {
          until = until ++ middle;
          after = told.submitted.after;
          later = told.submitted.later;
          split = ap (λ moments. moments ++ middle) told.submitted.split ∙ append_assoc told.submitted.later
              (moment ∷ until) middle;
          submits = record {
            stopped = submits.stopped;
            progress = submits.progress;
            ran = subst (λ moments. Runs submits.stopped opening (now moments).journal user commands submits.progress)
                same submits.ran;
            leaves = subst (λ moments. told.submitted.after ≡ with_journal (now moments) submits.progress.journal) same
                submits.leaves;
          };
        };
        says = subst (λ moments. text ≡ receipt_of (now moments).journal submits.progress) same told.says;
      }
  since_earlier rest middle since (Audit range) text told = record {
    until = told.until ++ middle;
    later = told.later;
    split = ap (λ moments. moments ++ middle) told.split ∙ append_assoc told.later told.until middle;
    says = subst (λ moments. text ≡ audit_reply opening (now moments).journal user range)
        (sym (append_assoc told.until middle rest)) told.says;
  }

  -- and it still has when more has happened
  since_still : (rest since more : List Moment) (request : UserRequest) (text : List ℕ) → IsTextSince opening rest since
      user request text →
      IsTextSince opening rest (more ++ since) user request text
  since_still rest since more (Query query wanted) text told = record {
    reading = told.reading;
    reply = told.reply;
    given = record {
      earlier = told.given.earlier;
      after = told.given.after;
      later = more ++ told.given.later;
      split = ap (λ moments. more ++ moments) told.given.split
          ∙ sym (append_assoc more told.given.later (_ ∷ told.given.earlier));
      given = told.given.given;
    };
    of_user = told.of_user;
    for_query = told.for_query;
    wants = told.wants;
    says = told.says;
  }
  since_still rest since more (Batch commands) text told =
      let moment : Moment = record { step = Submit user commands; after = told.submitted.after } in
      record {
        submitted = record {
          until = told.submitted.until;
          after = told.submitted.after;
          later = more ++ told.submitted.later;
          split = ap (λ moments. more ++ moments) told.submitted.split ∙ sym (append_assoc more told.submitted.later
              (moment ∷ told.submitted.until));
          submits = told.submitted.submits;
        };
        says = told.says;
      }
  since_still rest since more (Audit range) text told = record {
    until = told.until;
    later = more ++ told.later;
    split = ap (λ moments. more ++ moments) told.split ∙ sym (append_assoc more told.later told.until);
    says = told.says;
  }

  module _ (request : UserRequest) (text : List ℕ) (journal : List Entry) where
    abbrev answered_stop : Stop
    answered_stop = record { turn = Answered user request text; journal = journal }

    -- a text is that of what happened since the opening
    in_whole : (later earlier : List Stop) (history : List Moment) → IsToldBy opening (later ++ answered_stop ∷ earlier)
        history → IsTextSince opening [] history user request text
    in_whole [] earlier history (before, ends, tells) =
        subst (λ moments. IsTextSince opening [] moments user request text) (sym ends.split)
        (since_earlier [] before ends.since request text
        (subst (λ moments. IsTextSince opening moments ends.since user request text) (sym (append-nil before))
        ends.told))
    in_whole (stop ∷ later) earlier history (before, ends, tells) =
        subst (λ moments. IsTextSince opening [] moments user request text) (sym ends.split)
        (since_still [] before ends.since request text (in_whole later earlier before tells))

    pub text_in_whole : (stops later earlier : List Stop) (history : List Moment) → IsToldBy opening stops history →
        stops ≡ later ++ answered_stop ∷ earlier →
        IsTextSince opening [] history user request text
    text_in_whole stops later earlier history tells split = in_whole later earlier history
        (subst (λ all. IsToldBy opening all history) split tells)
