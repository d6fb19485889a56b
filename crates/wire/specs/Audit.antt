-- The message that asks for an audit: an object in the member `audit`, which says the rows, and in a script the user's
-- name.
use Rattle.std.specs.Prelude.{◌≡◌, ℕ, ◌≤◌, List, [], ◌∷◌, nat_le, ◌&&◌, if◌then◌else◌, codes, Option, Some, None}
use Rattle.serde_json.specs.Data.{Data}
use Rattle.serde_json.specs.Find.{get}
use Rattle.wire.specs.declared.audit_range.AuditRange.{AuditRange}
use Rattle.wire.specs.declared.audit_reading.TheConstants.{MOST_ROWS}
use Rattle.wire.specs.declared.request.Request.{Request}
use Rattle.wire.specs.declared.request.RequestBody.TheVariants as body
use Rattle.wire.specs.declared.request.UserRequest.TheVariants as wanting
use Rattle.wire.specs.declared.source.Source.{Source}
use Rattle.json_fields.specs.Form.{Member, Form, form, ◌with◌, applied, has_only, formed}
use Rattle.json_fields.specs.Field.{number}
use Rattle.wire.specs.Source.{said_user}

-- ---- numbers from 1 to a limit

-- a number that isn't 0 and isn't above the limit
abbrev pub from_1_to : ℕ → Option ℕ → Option ℕ
from_1_to limit None = None
from_1_to limit (Some n) = if nat_le 1 n && nat_le n limit then Some n else None

-- what stands there is this number, which is from 1 to the limit
pub record IsCount (limit : ℕ) (o : Option Data) (n : ℕ) : Type 0 where
  pub is : number o ≡ Some n
  pub least : 1 ≤ n
  pub within : n ≤ limit

-- a member of this name that is a number from 1 to a limit
abbrev pub counted : List ℕ → ℕ → Member ℕ
counted name limit = record { name = name; value = λ o. from_1_to limit (number o); Is = IsCount limit }

-- ---- the rows that are asked for

-- the number of the first row: up to 2 ^ 64 - 1
abbrev pub first_row : Member ℕ
first_row = counted (codes "from") 18446744073709551615

-- how many rows at most
abbrev pub most_rows : Member ℕ
most_rows = counted (codes "limit") MOST_ROWS

-- which rows; an object with no word
abbrev pub audit_range : Form AuditRange
audit_range = form [] (λ first most. record { from = first; limit = most }) with first_row with most_rows

-- ---- the message

-- the members of a request for an audit
abbrev pub auditing : List (List ℕ)
auditing = codes "audit" ∷ codes "as" ∷ []

-- the request for an audit, and whose it is
abbrev pub an_audit : Option (List ℕ) → AuditRange → Request
an_audit user range = record { user = user; body = body.OfUser (wanting.Audit range) }

-- an audit of the rows that the first value says, and whose it is: these members and no other
unfoldable pub audit_of : Source → Data → Data → Option Request
audit_of source rows d =
    let whose = said_user source in
    if has_only auditing d
    then applied (applied (Some an_audit) (whose.value (get whose.name d))) (formed [] audit_range rows)
    else None
