-- own: which requests may enter, by the origins that they name (RFC 6455, 10.2).
use Rattle.std.specs.Prelude.{ℕ, Bool, true, List, Option, None, Some, codes}
use Rattle.std.specs.List.{list_all}
use Rattle.std.specs.Str.{bytes_eq}
use Rattle.http.specs.Request.{head_of}
use Rattle.http.specs.declared.request.Request.{Request}
use Rattle.http_header.specs.FieldValue.{FieldValue}
use Rattle.http_header.specs.HeaderMap.{get_all}

-- the origins that a request names
abbrev pub origins_of : {X : Type 0} → Request X → List FieldValue
origins_of request = get_all (head_of request).headers (codes "origin")

-- whether an origin is this one
abbrev pub is_origin : List ℕ → FieldValue → Bool
is_origin allowed origin = bytes_eq origin.bytes allowed

-- whether each of them is
abbrev pub are_all_of : List ℕ → List FieldValue → Bool
are_all_of allowed origins = list_all (is_origin allowed) origins

-- whether a request is let in, where this origin alone may come, or any
abbrev pub is_let_in : {X : Type 0} → Option (List ℕ) → Request X → Bool
is_let_in None request = true
is_let_in (Some allowed) request = are_all_of allowed (origins_of request)
