-- The text of a script as a whole.
use Rattle.std.proofs.Common.{◌≡◌, ℕ, List, [], ◌∷◌, ◌++◌, map, All, refl, sym, ap, ◌∙◌, append_assoc, append-nil}
use Rattle.std.specs.List.{fold}
use Rattle.std.proofs.lemmas.List.Elements.{All-head, All-tail}
use Rattle.std.proofs.lemmas.List.Sums.{fold-append}
use Rattle.script_lines.specs.Lines.{lines_of}
use Rattle.session_state.specs.SessionState.{SessionState}
use Rattle.request_answers.specs.Response.{Response}
use Rattle.program.specs.Script.{
  Received,
  ample,
  with_ample_memory,
  respond,
  responses_to,
  response_to_line,
  messages_among,
  script_text,
}

abbrev is_ample : Received → Type 0
is_ample received = received.memory ≡ ample

-- messages for which memory was ample are their lines, with ample memory
all_whole : (received : List Received) → All is_ample received → received ≡ map with_ample_memory
    (map (λ (h : Received). h.line) received)
all_whole [] whole = refl
all_whole (first ∷ received) whole =
    λ i. record { line = first.line; memory = All-head is_ample first received whole i } ∷ all_whole received
    (All-tail is_ample first received whole) i

pub one_text : (opening : SessionState) (input : List ℕ) (received : List Received) → map (λ (h : Received). h.line)
    received ≡ messages_among (lines_of input) → All is_ample received →
    (responses_to opening received).text ≡ script_text opening input
unfolding script_text
one_text opening input received each whole =
    ap (λ messages. (responses_to opening messages).text) (all_whole received whole ∙ ap (map with_ample_memory) each)

-- a text that more messages go on from
goes_on_from : (opening : SessionState) (so_far : Response) (later : List Received) → (more : List ℕ) ×
    ((fold (respond opening) so_far later).text ≡ so_far.text ++ more)
goes_on_from opening so_far [] = ([], sym (append-nil so_far.text))
goes_on_from opening so_far (next ∷ later) =
    let response : List ℕ = (response_to_line opening so_far.journal next).text ++ 10 ∷ [] in
    let rest = goes_on_from opening (respond opening so_far next) later in
    (response ++ rest.0, rest.1 ∙ append_assoc so_far.text response rest.0)

pub goes_on : (opening : SessionState) (received later : List Received) → (more : List ℕ) ×
    ((responses_to opening (received ++ later)).text ≡ (responses_to opening received).text ++ more)
unfolding responses_to
goes_on opening received later =
    let rest = goes_on_from opening (responses_to opening received) later in (
      rest.0,
      ap (λ (t : Response). t.text) (fold-append (respond opening) (record { journal = []; text = [] }) received
          later) ∙ rest.1,
    )
