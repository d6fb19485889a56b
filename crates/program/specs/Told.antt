-- The history of the session that tells a script: the lines that respond to its messages are the texts of what happened
-- there.
use Rattle.std.specs.Prelude.{◌≡◌, ◌⊎◌, ℕ, true, Ok, Err, List, [], ◌∷◌, ◌++◌}
use Rattle.session_state.specs.SessionState.{SessionState}
use Rattle.json_fields.specs.declared.request_fault.RequestFault.{RequestFault}
use Rattle.json_fields.specs.declared.request_fault.RequestFault.TheVariants.{OutOfMemory}
use Rattle.published_view.specs.World.{Moment, IsHistory, now}
use Rattle.wire.specs.ReceiptText.{fault_text}
use Rattle.wire.specs.Request.{is_message_text, script_meaning}
use Rattle.request_answers.specs.Conversing.{Turn, Answered, TakenIn, Passed, Stop, IsConversation, IsToldBy}
use Rattle.program.specs.Script.{Received, responses_to}

-- ---- lines

-- the line for a message of which nothing came: it is a text, and memory was refused before there was any effect, or it
-- means no request by the session's edition of the policy, and its fault responds to it
abbrev pub IsLineOfNothing : SessionState → Received → List ℕ → Type 0
IsLineOfNothing opening received line =
    ((received.memory.refused_before ≡ true) × (is_message_text received.line ≡ true) × (line ≡ fault_text OutOfMemory))
    ⊎ ((fault : RequestFault) × (script_meaning opening.public.edition received.line ≡ Err fault)
    × (line ≡ fault_text fault))

-- the line for a message that took a turn: the text of the user's request that it means, or that memory was refused for
-- that text
abbrev pub IsLineOf : SessionState → Received → Turn → List ℕ → Type 0
IsLineOf opening received (Answered user request text) line =
    (script_meaning opening.public.edition received.line ≡ Ok (record { user = user; request = request }))
    × (line ≡ text)
IsLineOf opening received (TakenIn user request) line =
    (script_meaning opening.public.edition received.line ≡ Ok (record { user = user; request = request }))
    × (received.memory.refused_after ≡ true) × (line ≡ fault_text OutOfMemory)
IsLineOf opening received Passed line = IsLineOfNothing opening received line

-- the last of the messages took this turn, and the text ends with its line
pub record EndsWithLine (opening : SessionState) (received : List Received) (turn : Turn) (text : List ℕ)
    (earlier : List Received) (before : List ℕ) : Type 0 where
  pub last : Received
  pub line : List ℕ
  pub messages : received ≡ earlier ++ last ∷ []
  pub lines : text ≡ before ++ (line ++ 10 ∷ [])
  pub is_line : IsLineOf opening last turn line

-- the messages took the turns of a conversation, in order, and the text is their lines and nothing else
abbrev pub AreLinesOf : SessionState → List Received → List Stop → List ℕ → Type 0
AreLinesOf opening received [] text = (received ≡ []) × (text ≡ [])
AreLinesOf opening received (stop ∷ earlier_stops) text =
    (earlier : List Received) × (before : List ℕ)
    × EndsWithLine opening received stop.turn text earlier before × AreLinesOf opening earlier earlier_stops before

-- ---- scripts

-- a script is a conversation in which nobody else leads the journal on. Its lines are those of the turns, and a history
-- of the session tells it and comes to the same journal
pub record IsScriptTold (opening : SessionState) (received : List Received) : Type 0 where
  pub stops : List Stop
  pub conversation : IsConversation (λ before after. after ≡ before) opening stops
  pub lines : AreLinesOf opening received stops (responses_to opening received).text
  pub history : List Moment
  pub happened : IsHistory opening history
  pub tells : IsToldBy opening stops history
  pub journal : (now history).journal ≡ (responses_to opening received).journal
