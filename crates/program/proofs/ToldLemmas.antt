-- A script is a conversation, which a history tells.
use Rattle.std.proofs.Common.{
  ◌≡◌,
  inl,
  inr,
  ℕ,
  Bool,
  true,
  false,
  List,
  [],
  ◌∷◌,
  ◌++◌,
  refl,
  sym,
  subst,
  ◌∙◌,
  append_assoc,
  append-nil,
}
use Rattle.std.specs.Prelude.{Result, Ok, Err, ◌&&◌, if◌then◌else◌}
use Rattle.std.proofs.lemmas.Bool.{and_parts}
use Rattle.std.specs.List.{fold}
use mathlib.Core.List.{IsPrefix}
use Rattle.session_state.specs.SessionState.{SessionState}
use Rattle.session_commands.specs.declared.entry.Entry.{Entry}
use Rattle.session_book.specs.Journal.{IsAccepted}
use Rattle.json_fields.specs.declared.request_fault.RequestFault.{RequestFault}
use Rattle.json_fields.specs.declared.request_fault.RequestFault.TheVariants.{OutOfMemory}
use Rattle.session_keeper.proofs.KeepingLemmas.{prefix_self}
use Rattle.wire.specs.ReceiptText.{fault_text}
use Rattle.wire.specs.Request.{is_message_text, script_meaning}
use Rattle.wire.specs.declared.request.ScriptRequest.{ScriptRequest}
use Rattle.wire.specs.declared.request.UserRequest.{UserRequest}
use Rattle.wire.specs.declared.request.UserRequest.TheVariants.{Query, Batch, Audit}
use Rattle.request_answers.specs.Answering.{IsAnsweredOnce, LeadsOn}
use Rattle.request_answers.specs.Conversing.{
  Turn,
  Answered,
  TakenIn,
  Passed,
  TakesTurn,
  Stop,
  journal_now,
  IsConversation,
  OnlyAdd,
}
use Rattle.request_answers.specs.Response.{Response, response_at}
use Rattle.request_answers.proofs.ConversingLemmas.{response_accepted, telling}
use Rattle.program.specs.Script.{Received, respond, response_to_line, response_to_meaning, responses_to}
use Rattle.program.specs.Told.{IsLineOf, AreLinesOf, IsScriptTold}
use Rattle.program.proofs.ResponseLemmas.{Alone}

only_add : OnlyAdd Alone
only_add before after same = subst (IsPrefix before) (sym same) (prefix_self before)

leads_nowhere : (request : UserRequest) (left : List Entry) → LeadsOn Alone request left left
leads_nowhere (Query query wanted) left = refl
leads_nowhere (Batch commands) left = refl
leads_nowhere (Audit range) left = refl

-- ---- one message

-- a message takes a turn, and its response is the line of the turn
record TurnFor (opening : SessionState) (journal : List Entry) (received : Received) (response : Response) : Type 0
  where
    turn : Turn
    takes : TakesTurn Alone opening journal turn response.journal
    is_line : IsLineOf opening received turn response.text
    accepted : IsAccepted opening journal → IsAccepted opening response.journal

module _ (opening : SessionState) (journal : List Entry) (received : Received) where
  -- nothing comes of it
  passed : (text : List ℕ) → IsLineOf opening received Passed text → TurnFor opening journal received
      (record { journal = journal; text = text })
  passed text is_line = record { turn = Passed; takes = inl refl; is_line = is_line; accepted = λ accepted. accepted }

  module _ (said : ScriptRequest) (means : script_meaning opening.public.edition received.line ≡ Ok said) where
    abbrev response : Response
    response = response_at opening journal received.memory.refused_at said.user said.request

    answer : IsAnsweredOnce Alone opening journal said.user said.request response.text response.journal
    answer = record {
      met = journal;
      refused_at = received.memory.refused_at;
      came = refl;
      says = refl;
      went = leads_nowhere said.request response.journal;
      begins = prefix_self response.journal;
    }

    -- a user's request is answered, or there is no memory for its text
    of_request : (b : Bool) → received.memory.refused_after ≡ b →
        TurnFor opening journal received
        (record { journal = response.journal; text = if b then fault_text OutOfMemory else response.text })
    of_request true refused = record {
      turn = TakenIn said.user said.request;
      takes = (response.text, answer);
      is_line = (means, refused, refl);
      accepted = response_accepted opening journal received.memory.refused_at said.user said.request;
    }
    of_request false goes_on = record {
      turn = Answered said.user said.request response.text;
      takes = answer;
      is_line = (means, refl);
      accepted = response_accepted opening journal received.memory.refused_at said.user said.request;
    }

  of_meaning : (meant : Result ScriptRequest RequestFault) →
      script_meaning opening.public.edition received.line ≡ meant →
      TurnFor opening journal received (response_to_meaning opening journal received.memory meant)
  of_meaning (Ok said) means = of_request said means received.memory.refused_after refl
  of_meaning (Err fault) means = passed (fault_text fault) (inr (fault, means, refl))

  of_refused : (b : Bool) → (received.memory.refused_before && is_message_text received.line) ≡ b →
      TurnFor opening journal received (if b then record { journal = journal; text = fault_text OutOfMemory }
      else response_to_meaning opening journal received.memory (script_meaning opening.public.edition received.line))
  of_refused true refused =
      let both = and_parts received.memory.refused_before (is_message_text received.line) refused in
      passed (fault_text OutOfMemory) (inl (both.0, both.1, refl))
  of_refused false goes_on = of_meaning (script_meaning opening.public.edition received.line) refl

  takes_turn : TurnFor opening journal received (response_to_line opening journal received)
  unfolding response_to_line
  takes_turn = of_refused (received.memory.refused_before && is_message_text received.line) refl

-- ---- messages

-- the conversation of the messages so far
record Converses (opening : SessionState) (received : List Received) (so_far : Response) : Type 0 where
  stops : List Stop
  conversation : IsConversation Alone opening stops
  lines : AreLinesOf opening received stops so_far.text
  journal : journal_now stops ≡ so_far.journal
  accepted : IsAccepted opening so_far.journal

module _ (opening : SessionState) where
  one_more : (received : List Received) (so_far : Response) (next : Received) → Converses opening received so_far →
      Converses opening (received ++ next ∷ []) (respond opening so_far next)
  one_more received so_far next before =
      let turn = takes_turn opening so_far.journal next in
      let after : List Entry = (response_to_line opening so_far.journal next).journal in
      let accepted : IsAccepted opening after = turn.accepted before.accepted in
      record {
        stops = record { turn = turn.turn; journal = after } ∷ before.stops;
        conversation = (
          subst (λ journal. TakesTurn Alone opening journal turn.turn after) (sym before.journal)
              turn.takes,
          accepted,
          before.conversation,
        );
        lines = (
          received,
          so_far.text,
          record {
            last = next;
            line = (response_to_line opening so_far.journal next).text;
            messages = refl;
            lines =
                refl;
            is_line = turn.is_line;
          },
          before.lines,
        );
        journal = refl;
        accepted = accepted;
      }

  more : (received later : List Received) (so_far : Response) → Converses opening received so_far → Converses opening
      (received ++ later) (fold (respond opening) so_far later)
  more received [] so_far before = subst (λ messages. Converses opening messages so_far) (sym (append-nil received))
      before
  more received (next ∷ later) so_far before =
      subst (λ messages. Converses opening messages (fold (respond opening) (respond opening so_far next) later))
      (append_assoc received (next ∷ []) later)
      (more (received ++ next ∷ []) later (respond opening so_far next) (one_more received so_far next before))

  script_converses : (received : List Received) → Converses opening received (responses_to opening received)
  unfolding responses_to
  script_converses received =
      more [] received (record { journal = []; text = [] })
      (record { stops = []; conversation = tt; lines = (refl, refl); journal = refl; accepted = tt })

  -- a script is told by a history
  pub script_told : (received : List Received) → IsScriptTold opening received
  script_told received =
      let converses = script_converses received in
      let told = telling Alone only_add opening converses.stops converses.conversation in
      record {
        stops = converses.stops;
        conversation = converses.conversation;
        lines = converses.lines;
        history = told.history;
        happened = told.happened;
        tells = told.tells;
        journal = told.journal ∙ converses.journal;
      }
