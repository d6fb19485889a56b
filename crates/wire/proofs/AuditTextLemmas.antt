-- What is written of an audit has no float.
use Rattle.std.proofs.Common.{◌≡◌, ℕ, List, [], ◌∷◌, ◌||◌, map, false, refl, ap}
use Rattle.serde_json.specs.View.{items_of}
use Rattle.serde_json.specs.Written.{has_float, items_have_float}
use Rattle.session_book.specs.declared.audit.AuditRow.{AuditRow}
use Rattle.session_commands.specs.declared.actor.Actor.{Actor}
use Rattle.session_commands.specs.declared.actor.Actor.TheVariants.{User, Solver}
use Rattle.wire.specs.AuditText.{actor_data, audit_row_data, audit_data}

no_float_in_an_actor : (actor : Actor) → has_float (actor_data actor) ≡ false
no_float_in_an_actor (User name) = refl
no_float_in_an_actor Solver = refl

pub no_float_in_a_row : (row : AuditRow) → has_float (audit_row_data row) ≡ false
no_float_in_a_row row = ap (λ b. b || false) (no_float_in_an_actor row.actor)

no_float_in_rows : (rows : List AuditRow) → items_have_float (items_of (map audit_row_data rows)) ≡ false
no_float_in_rows [] = refl
no_float_in_rows (row ∷ rows) = λ i. no_float_in_a_row row i || no_float_in_rows rows i

pub no_float_in_an_audit : (rows : List AuditRow) (version : ℕ) → has_float (audit_data rows version) ≡ false
no_float_in_an_audit rows version = ap (λ b. b || false) (no_float_in_rows rows)
