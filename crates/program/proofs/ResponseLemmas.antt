-- What a message's line leads to.
use Rattle.std.proofs.Common.{◌≡◌, inl, inr, ℕ, ◌+◌, true, false, List, [], ◌∷◌, ◌++◌, take, refl, sym, ap, subst, ◌∙◌}
use Rattle.std.specs.Prelude.{Result, Ok, Err, IfOk, IfErr, None, ◌&&◌, if◌then◌else◌}
use Rattle.session_state.specs.SessionState.{SessionState}
use Rattle.session_commands.specs.declared.entry.Entry.{Entry}
use Rattle.json_fields.specs.Reading.{Fails}
use Rattle.json_fields.specs.declared.request_fault.RequestFault.{RequestFault}
use Rattle.json_fields.specs.declared.request_fault.RequestFault.TheVariants.{
  TooLong,
  Malformed,
  UnknownRequest,
  BadField,
  OutOfMemory,
}
use Rattle.wire.specs.ReceiptText.{fault_text}
use Rattle.wire.specs.Dialect.{dialect_of}
use Rattle.wire.specs.Request.{most_message_bytes, is_message_text, said_of, script_meaning}
use Rattle.wire.specs.declared.source.Source.TheVariants.{Script}
use Rattle.wire.specs.declared.request.ScriptRequest.{ScriptRequest}
use Rattle.wire.specs.declared.request.UserRequest.{UserRequest}
use Rattle.wire.specs.declared.request.UserRequest.TheVariants.{Query, Batch, Audit}
use Rattle.request_answers.specs.Answering.{IsAnsweredOnce, IsTakenIn, LeadsOn}
use Rattle.request_answers.specs.Response.{Response, response_at}
use Rattle.wire.proofs.LineLemmas.{first_bytes_tell, said_is_text}
use Rattle.program.specs.Script.{MemoryRefusals, ample, response_to_line, response_to_meaning}
use Rattle.program.specs.Standing.{line_of}
use Rattle.program.specs.Writes.{Responds}

-- nobody else leads the journal on
abbrev pub Alone : List Entry → List Entry → Type 0
Alone before after = after ≡ before

left_alone : (request : UserRequest) (left now : List Entry) → LeadsOn Alone request left now → now ≡ left
left_alone (Query query since) left now went = went
left_alone (Batch commands) left now went = went
left_alone (Audit range) left now went = went

module _ (opening : SessionState) (journal : List Entry) (line : List ℕ) where
  -- memory was refused before there was any effect
  pub responds_no_memory : is_message_text line ≡ true → Responds opening journal line journal
      (fault_text OutOfMemory ++ 10 ∷ [])
  unfolding response_to_line
  responds_no_memory is =
      let memory : MemoryRefusals = record { refused_before = true; refused_at = None; refused_after = false } in
      let nothing : Response = record { journal = journal; text = fault_text OutOfMemory } in
      let step : response_to_line opening journal (record { line = line; memory = memory }) ≡ nothing =
      ap (λ b. if b then nothing else response_to_meaning opening journal memory
      (script_meaning opening.public.edition line)) is in
      record {
        memory = memory;
        journal_is = ap (λ (t : Response). t.journal) step;
        text_is =
            ap (λ (t : Response). t.text ++ 10 ∷ []) step;
      }

  -- with this memory, a line leads to what its meaning does
  response_by : (memory : MemoryRefusals) (meant : Result ScriptRequest RequestFault) → memory.refused_before ≡ false →
      script_meaning opening.public.edition line ≡ meant →
      response_to_line opening journal (record { line = line; memory = memory }) ≡ response_to_meaning opening journal
      memory meant
  unfolding response_to_line
  response_by memory meant goes_on means =
      ap (λ b. if b && is_message_text line then record { journal = journal; text = fault_text OutOfMemory }
      else response_to_meaning opening journal memory (script_meaning opening.public.edition line)) goes_on
      ∙ ap (response_to_meaning opening journal memory) means

  responds_by : (meant : Result ScriptRequest RequestFault) → script_meaning opening.public.edition line ≡ meant →
      Responds opening journal line (response_to_meaning opening journal ample meant).journal
      ((response_to_meaning opening journal ample meant).text ++ 10 ∷ [])
  responds_by meant means =
      let step = response_by ample meant refl means in
      record {
        memory = ample;
        journal_is = ap (λ (t : Response). t.journal) step;
        text_is =
            ap (λ (t : Response). t.text ++ 10 ∷ []) step;
      }

  -- what isn't read is answered by its fault
  pub responds_fault : (fault : RequestFault) → (fault ≡ OutOfMemory → is_message_text line ≡ true) →
      Fails fault (script_meaning opening.public.edition line)
      → Responds opening journal line journal (fault_text fault ++ 10 ∷ [])
  responds_fault TooLong memory fails = responds_by (Err TooLong) fails
  responds_fault Malformed memory fails = responds_by (Err Malformed) fails
  responds_fault UnknownRequest memory fails = responds_by (Err UnknownRequest) fails
  responds_fault BadField memory fails = responds_by (Err BadField) fails
  responds_fault OutOfMemory memory fails = responds_no_memory (memory refl)

  module _ (said : ScriptRequest) (means : script_meaning opening.public.edition line ≡ Ok said) (text : List ℕ)
      (after : List Entry)
      (answered : IsAnsweredOnce Alone opening journal said.user said.request text after) where
    -- the response where the request met the journal
    met : response_at opening journal answered.refused_at said.user said.request ≡ response_at opening answered.met
        answered.refused_at said.user said.request
    met = ap (λ j. response_at opening j answered.refused_at said.user said.request) (sym answered.came)

    left : (response_at opening answered.met answered.refused_at said.user said.request).journal ≡ after
    left = sym (left_alone said.request _ after answered.went)

    -- a request is answered by its text
    pub responds_answer : Responds opening journal line after (text ++ 10 ∷ [])
    responds_answer =
        let memory : MemoryRefusals = record {
          refused_before = false;
          refused_at = answered.refused_at;
          refused_after =
              false;
        } in
        let step = response_by memory (Ok said) refl means in
        record {
          memory = memory;
          journal_is = ap (λ (t : Response). t.journal) step ∙ ap (λ (t : Response). t.journal) met ∙ left;
          text_is = ap (λ (t : Response). t.text ++ 10 ∷ []) step ∙ ap (λ (t : Response). t.text ++ 10 ∷ []) met
              ∙ ap (λ bytes. bytes ++ 10 ∷ []) answered.says;
        }

    -- or there is no memory for it
    pub responds_untold : Responds opening journal line after (fault_text OutOfMemory ++ 10 ∷ [])
    responds_untold =
        let memory : MemoryRefusals = record {
          refused_before = false;
          refused_at = answered.refused_at;
          refused_after =
              true;
        } in
        let step = response_by memory (Ok said) refl means in
        record {
          memory = memory;
          journal_is = ap (λ (t : Response). t.journal) step ∙ ap (λ (t : Response). t.journal) met ∙ left;
          text_is = ap (λ (t : Response). t.text ++ 10 ∷ []) step;
        }

  -- where memory was refused, nothing came of a request, or all but its text
  pub responds_taken_in : (said : ScriptRequest) (after : List Entry) →
      script_meaning opening.public.edition line ≡ Ok said →
      IsTakenIn Alone opening journal said.user said.request after → Responds opening journal line after
      (fault_text OutOfMemory ++ 10 ∷ [])
  responds_taken_in said after means (inl same) =
      subst (λ j. Responds opening journal line j (fault_text OutOfMemory ++ 10 ∷ [])) (sym same)
      (responds_no_memory (said_is_text opening.public.edition line said means))
  responds_taken_in said after means (inr (text, answered)) = responds_untold said means text after answered

-- the first bytes of a line tell what it means
pub first_bytes_meant : (opening : SessionState) (line : List ℕ) →
    script_meaning opening.public.edition (take (most_message_bytes + 1) line) ≡ script_meaning opening.public.edition
    line
unfolding script_meaning
first_bytes_meant opening line = ap said_of (first_bytes_tell (dialect_of Script opening.public.edition) line)

-- a line of which as much is kept as tells what it means
pub responds_whole : (opening : SessionState) (journal : List Entry) (line whole : List ℕ) (after : List Entry)
    (text : List ℕ)
    → script_meaning opening.public.edition line ≡ script_meaning opening.public.edition whole
    → is_message_text line ≡ is_message_text whole →
    Responds opening journal line after text
    → Responds opening journal whole after text
unfolding response_to_line
responds_whole opening journal line whole after text same texts responds =
    let memory : MemoryRefusals = responds.memory in
    let step : response_to_line opening journal (record { line = line; memory = memory })
    ≡ response_to_line opening journal (record { line = whole; memory = memory }) =
    ap (λ meant. if memory.refused_before && is_message_text line then record {
      journal = journal;
      text =
          fault_text OutOfMemory;
    } else response_to_meaning opening journal memory meant) same
    ∙ ap (λ b. if memory.refused_before && b then record { journal = journal; text = fault_text OutOfMemory }
    else response_to_meaning opening journal memory (script_meaning opening.public.edition whole)) texts in
    record {
      memory = memory;
      journal_is = ap (λ (t : Response). t.journal) (sym step) ∙ responds.journal_is;
      text_is = ap (λ (t : Response). t.text ++ 10 ∷ []) (sym step) ∙ responds.text_is;
    }

-- a text whose line was ended, or for which there was no memory
pub responds_by_line : {S : Type 0} (bytes : S → List ℕ) (opening : SessionState) (journal : List Entry) (line : List ℕ)
    (after : List Entry) (text : List ℕ) (result : Result S RequestFault) →
    IfOk result (λ ended. bytes ended ≡ text ++ 10 ∷ []) → IfErr result (λ fault. fault ≡ OutOfMemory) →
    Responds opening journal line after (text ++ 10 ∷ []) → Responds opening journal line after
    (fault_text OutOfMemory ++ 10 ∷ []) → Responds opening journal line after (line_of bytes result)
responds_by_line bytes opening journal line after text (Ok ended) is_line no_memory responses_to untold =
    subst (Responds opening journal line after) (sym is_line) responses_to
responds_by_line bytes opening journal line after text (Err fault) is_line no_memory responses_to untold =
    subst (λ f. Responds opening journal line after (fault_text f ++ 10 ∷ [])) (sym no_memory) untold
