use Rattle.std.proofs.Common.{◌∙◌, [], ◌∷◌, ◌++◌, codes, ap}
use Rattle.http_server.specs.Response.{fields_of}
use Rattle.page_answers.specs.declared.guards.TheConstants.{POLICY}
use Rattle.page_answers.proofs.GuardsLemmas.{one_by_one}
use Rattle.page_answers.proofs.guards.add_guards.Goals as goal

pub returns-clause-fields : goal.returns-clause-fields
returns-clause-fields c =
    let before = fields_of c.args.response.now in
    let first = c.in_ok-add_header.ensures.headers
    ∙ ap (λ value. before ++ (codes "cache-control", value.bytes) ∷ []) c.from_static.ensures in
    let second = c.in_ok-add_header-2.ensures.headers
    ∙ ap (λ value. fields_of c.add_header.new.self ++ (codes "x-content-type-options", value.bytes) ∷ [])
    c.from_static-2.ensures in
    let third = c.in_ok-add_header-3.ensures.headers
    ∙ ap (λ value. fields_of c.add_header-2.new.self ++ (codes "referrer-policy", value.bytes) ∷ [])
    c.from_static-3.ensures in
    one_by_one before (fields_of c.add_header.new.self) (fields_of c.add_header-2.new.self)
    (fields_of c.add_header-3.new.self) (fields_of c.add_policy.new.response) (codes "cache-control", codes "no-cache")
    (codes "x-content-type-options", codes "nosniff") (codes "referrer-policy", codes "no-referrer")
    (codes "content-security-policy", POLICY.now) first second third c.in_ok-add_policy.ensures.fields
