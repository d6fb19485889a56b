-- The request for a query, by its parts.
use Rattle.std.proofs.Common.{◌≡◌, ℕ, List, Option, Some, None, Ok, Err, refl, sym, ap, subst, ◌∙◌}
use Rattle.session_queries.specs.declared.query.Query.{Query}
use Rattle.json_fields.specs.Form.{applied}
use Rattle.json_fields.specs.Reading.{wanted, Gives}
use Rattle.json_fields.specs.declared.request_fault.RequestFault.{RequestFault}
use Rattle.json_fields.specs.declared.request_fault.RequestFault.TheVariants.{
  TooLong,
  Malformed,
  UnknownRequest,
  BadField,
  OutOfMemory,
}
use Rattle.wire.specs.declared.request.Request.{Request}
use Rattle.wire.specs.Request.{a_query}

-- the request that is made of its parts
abbrev pub made : Option (Option (List ℕ)) → Option ℕ → Option Query → Option Request
made name version query = applied (applied (applied (Some a_query) name) version) query

read_ok : {A : Type 0} (o : Option A) (x : A) → wanted o ≡ Ok x → o ≡ Some x
read_ok None x h = absurd (cc)
read_ok (Some y) x h = cc

made_of : (name : Option (Option (List ℕ))) (version : Option ℕ) (query : Option Query) (n : Option (List ℕ)) (v : ℕ) →
    wanted name ≡ Ok n → wanted version ≡ Ok v →
    made name version query ≡ made (Some n) (Some v) query
made_of name version query n v is at = ap (λ o. made o version query) (read_ok name n is)
    ∙ ap (λ o. made (Some n) o query) (read_ok version v at)

-- all parts are as they should be
pub query_made : (name : Option (Option (List ℕ))) (version : Option ℕ) (query : Option Query) (n : Option (List ℕ))
    (v : ℕ) (q : Query) →
    wanted name ≡ Ok n → wanted version ≡ Ok v → wanted query ≡ Ok q → wanted (made name version query) ≡ Ok
    (a_query n v q)
query_made name version query n v q is at h = ap wanted (made_of name version query n v is at
    ∙ ap (made (Some n) (Some v)) (read_ok query q h))

fails : (n : Option (List ℕ)) (v : ℕ) (query : Option Query) (fault : RequestFault) → Gives (Err fault) (wanted query) →
    Gives (Err fault) (wanted (made (Some n) (Some v) query))
fails n v None TooLong h = absurd (cc)
fails n v None Malformed h = absurd (cc)
fails n v None UnknownRequest h = absurd (cc)
fails n v None BadField h = refl
fails n v None OutOfMemory h = tt
fails n v (Some q) TooLong h = absurd (cc)
fails n v (Some q) Malformed h = absurd (cc)
fails n v (Some q) UnknownRequest h = absurd (cc)
fails n v (Some q) BadField h = absurd (cc)
fails n v (Some q) OutOfMemory h = tt

-- what is asked isn't as it should be, or memory was refused
pub query_fails : (name : Option (Option (List ℕ))) (version : Option ℕ) (query : Option Query) (n : Option (List ℕ))
    (v : ℕ) (fault : RequestFault) →
    wanted name ≡ Ok n → wanted version ≡ Ok v → Gives (Err fault) (wanted query) → Gives (Err fault)
    (wanted (made name version query))
query_fails name version query n v fault is at h = subst (λ o. Gives (Err fault) (wanted o))
    (sym (made_of name version query n v is at)) (fails n v query fault h)
