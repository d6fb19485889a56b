-- What a list of boards is, by its members.
use Rattle.std.proofs.Common.{
  ◌≡◌,
  ℕ,
  Bool,
  true,
  false,
  cond,
  Option,
  option_map,
  Some,
  None,
  Ok,
  Err,
  IsSome,
  IsSomeAnd,
  refl,
  ap,
  subst,
  sym,
  ◌∙◌,
}
use Rattle.query_filter.specs.Formula.{Formula}
use Rattle.session_queries.specs.declared.query.Query.{Query}
use Rattle.session_queries.specs.declared.query.Query.TheVariants as query
use Rattle.json_fields.specs.Form.{applied}
use Rattle.json_fields.specs.Reading.{wanted, Gives}
use Rattle.json_fields.specs.declared.request_fault.RequestFault.{RequestFault}
use Rattle.json_fields.specs.declared.request_fault.RequestFault.TheVariants.{
  TooLong,
  Malformed,
  UnknownRequest,
  BadField,
  OutOfMemory,
}
use Rattle.wire.specs.Query.{IsFiltered}

-- the list that is made of its members, where no other stands beside them
abbrev pub made : Bool → Option (Option Formula) → Option ℕ → Option ℕ → Option Query
made alone by start most =
    cond alone (applied (applied (applied (Some (λ f n k. query.List f n k)) by) start) most) None

read_ok : {A : Type 0} (o : Option A) (x : A) → wanted o ≡ Ok x → o ≡ Some x
read_ok None x h = absurd (cc)
read_ok (Some y) x h = cc

made_numbers : (alone : Bool) (by : Option (Option Formula)) (start most : Option ℕ) (n k : ℕ)
    → alone ≡ true → start ≡ Some n → most ≡ Some k → made alone by start most ≡ made true by (Some n) (Some k)
made_numbers alone by start most n k is first last =
    ap (λ b. made b by start most) is
    ∙ ap (λ o. made true by o most) first
    ∙ ap (λ o. made true by (Some n) o) last

-- all members are as they should be
pub list_made : (alone : Bool) (by : Option (Option Formula)) (start most : Option ℕ) (f : Option Formula) (n k : ℕ)
    → alone ≡ true → start ≡ Some n → most ≡ Some k → wanted by ≡ Ok f
    → wanted (made alone by start most) ≡ Ok (query.List f n k)
list_made alone by start most f n k is first last h =
    ap wanted (made_numbers alone by start most n k is first last ∙ ap (λ o. made true o (Some n) (Some k))
    (read_ok by f h))

no_filter : (alone : Bool) (start most : Option ℕ) → made alone None start most ≡ None
no_filter true start most = refl
no_filter false start most = refl

-- the filter isn't as it should be, or memory was refused
pub list_without_filter : (alone : Bool) (by : Option (Option Formula)) (start most : Option ℕ) (fault : RequestFault)
    → Gives (Err fault) (wanted by) → Gives (Err fault) (wanted (made alone by start most))
list_without_filter alone None start most TooLong h = absurd (cc)
list_without_filter alone None start most Malformed h = absurd (cc)
list_without_filter alone None start most UnknownRequest h = absurd (cc)
list_without_filter alone None start most BadField h = ap wanted (no_filter alone start most)
list_without_filter alone None start most OutOfMemory h = tt
list_without_filter alone (Some f) start most TooLong h = absurd (cc)
list_without_filter alone (Some f) start most Malformed h = absurd (cc)
list_without_filter alone (Some f) start most UnknownRequest h = absurd (cc)
list_without_filter alone (Some f) start most BadField h = absurd (cc)
list_without_filter alone (Some f) start most OutOfMemory h = tt

filtered : (by : Option (Option Formula)) (n k : ℕ) → IsSomeAnd by (λ f. IsSome f)
    → IsSomeAnd (made true by (Some n) (Some k)) IsFiltered
filtered None n k h = absurd h
filtered (Some f) n k h = h

-- a list that is made with a filter
pub list_filtered : (alone : Bool) (by : Option (Option Formula)) (start most : Option ℕ) (n k : ℕ)
    → alone ≡ true → start ≡ Some n → most ≡ Some k → IsSomeAnd by (λ f. IsSome f)
    → IsSomeAnd (made alone by start most) IsFiltered
list_filtered alone by start most n k is first last h =
    subst (λ o. IsSomeAnd o IsFiltered) (sym (made_numbers alone by start most n k is first last)) (filtered by n k h)

-- what is read is a filter, and so one is asked for
pub filter_stands : (o : Option Formula) → IsSome o → IsSomeAnd (option_map Some o) (λ f. IsSome f)
filter_stands None h = absurd (cc)
filter_stands (Some f) h = refl
