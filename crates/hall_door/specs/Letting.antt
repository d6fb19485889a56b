-- What the door of a hall answers a request.
use Rattle.std.specs.Prelude.{◌≡◌, ℕ, List, [], ◌∷◌, Option, codes}
use Rattle.http.specs.declared.request.Request.{Request}
use Rattle.http_server.specs.declared.response.Response.{Response}
use Rattle.http_server.specs.Response.{IsResponse}
use Rattle.hall_door.specs.SessionRequest.{MayEnter}

-- the fields of the answer that lets a request in, whose key is answered by this value (RFC 6455, 4.2.2)
abbrev pub entry_fields : List ℕ → List (List ℕ × List ℕ)
entry_fields accept =
    (codes "connection", codes "Upgrade") ∷ (codes "upgrade", codes "websocket")
    ∷ (codes "sec-websocket-accept", accept) ∷ []

-- a 101 is this one
abbrev pub IsEntryWith : List ℕ → Response → Type 0
IsEntryWith accept response = response.status ≡ 101 → IsResponse 101 (entry_fields accept) [] response

-- a request for the session is let in by a 101 only if it may enter, and then with the answer to its key and nothing else
abbrev pub AnswersEntry : Option (List ℕ) → Request (List ℕ) → Response → Type 0
AnswersEntry allowed request response =
    response.status ≡ 101 → (accept : List ℕ) × MayEnter allowed request accept
    × IsResponse 101 (entry_fields accept) [] response
