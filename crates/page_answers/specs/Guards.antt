-- own: what each answer says of itself.
use Rattle.std.specs.Prelude.{List, [], ◌∷◌, codes}
use Rattle.http1.specs.Fields.{Header}
use Rattle.page_answers.specs.declared.guards.TheConstants.{POLICY}

-- it is asked for anew before it is used again, is of the type that it tells, tells no other site where its reader came from,
-- and loads what the policy lets it, and is shown where it does
abbrev pub guards : List Header
guards =
    (codes "cache-control", codes "no-cache") ∷ (codes "x-content-type-options", codes "nosniff")
    ∷ (codes "referrer-policy", codes "no-referrer") ∷ (codes "content-security-policy", POLICY.now) ∷ []
