-- Which requests over HTTP ask for a session, and which of them may enter (RFC 6455, 4.2.1).
use Rattle.std.specs.Prelude.{◌≡◌, ◌⊎◌, ℕ, true, List, Option, Some, None, codes, map}
use Rattle.std.specs.Char.{to_ascii_lowercase}
use Rattle.http.specs.Request.{head_of}
use Rattle.http.specs.declared.request.Request.{Request}
use Rattle.http_header.specs.FieldValue.{FieldValue}
use Rattle.http_header.specs.HeaderMap.{get}
use Rattle.http_uri.specs.Uri.{uri_path}
use Rattle.websocket.specs.Handshake.{IsValidKey, accept_key_of}
use Rattle.hall_door.specs.Origins.{is_let_in}

-- there is a value, and it is such
abbrev pub HasValue : Option FieldValue → (List ℕ → Type 0) → Type 0
HasValue None Is = ⊥
HasValue (Some value) Is = Is value.bytes

module _ {X : Type 0} where
  -- the first value of a field of a request
  abbrev pub first_value : Request X → List ℕ → Option FieldValue
  first_value request name = get (head_of request).headers name

  -- it asks for a WebSocket, in letters of whatever case
  abbrev pub IsUpgrade : Request X → Type 0
  IsUpgrade request =
      HasValue (first_value request (codes "upgrade"))
      (λ bytes. map to_ascii_lowercase bytes ≡ map to_ascii_lowercase (codes "websocket"))

  -- own: it asks for a WebSocket, or for the path at which a page finds its session
  abbrev pub IsForSession : Request X → Type 0
  IsForSession request = IsUpgrade request ⊎ (uri_path (head_of request).uri ≡ codes "/session")

  -- it asks for a WebSocket of the standard's version with a key, which this value answers, and the origin that it names, if
  -- it names one, is let in
  pub record MayEnter (allowed : Option (List ℕ)) (request : Request X) (accept : List ℕ) : Type 0 where
    pub method : (head_of request).method ≡ codes "GET"
    pub upgrade : IsUpgrade request
    pub version : HasValue (first_value request (codes "sec-websocket-version")) (λ bytes. bytes ≡ codes "13")
    pub key :
        HasValue (first_value request (codes "sec-websocket-key"))
        (λ bytes. IsValidKey bytes × (accept ≡ accept_key_of bytes))
    pub origin : is_let_in allowed request ≡ true
