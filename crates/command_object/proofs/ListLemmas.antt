-- Where an element isn't read, the list isn't.
use Rattle.std.proofs.Common.{
  ◌≡◌,
  ℕ,
  zero,
  suc,
  ◌<◌,
  List,
  [],
  ◌∷◌,
  length,
  get_or,
  drop,
  Option,
  Some,
  None,
  Result,
  Ok,
  Err,
  refl,
  sym,
  ap,
  ◌∙◌,
  arith,
}
use Rattle.serde_json.specs.Data.{Data}
use Rattle.serde_json.specs.View.{view, items_view}
use Rattle.serde_json.specs.declared.value.Value.{Value}
use Rattle.json_fields.specs.Form.{first_then, each}
use Rattle.json_fields.specs.Reading.{wanted, Fails}
use Rattle.json_fields.specs.declared.request_fault.RequestFault.{RequestFault}
use Rattle.json_fields.specs.declared.request_fault.RequestFault.TheVariants.{
  TooLong,
  Malformed,
  UnknownRequest,
  BadField,
  OutOfMemory,
}
use Rattle.json_fields.proofs.ListLemmas.{with_front}

none_next : {A : Type 0} (read : Data → Option A) (values : List Value) (i : ℕ) (v : Value) → i < length values
    → v ≡ get_or values i v → read (view v) ≡ None → each read (items_view (drop i values)) ≡ None
none_next read [] i v below is none = absurd (omega arith)
none_next read (w ∷ values) zero v below is none =
    ap (λ o. first_then o (each read (items_view values))) (ap (λ x. read (view x)) (sym is) ∙ none)
none_next read (w ∷ values) (suc i) v below is none = none_next read values i v (omega arith) is none

each_refused : {A : Type 0} (read : Data → Option A) (front : List A) (values : List Value) (i : ℕ) (v : Value)
    (all : Option (List A))
    → with_front front (each read (items_view (drop i values))) ≡ all
    → i < length values → v ≡ get_or values i v → read (view v) ≡ None → all ≡ None
each_refused read front values i v all kept below is none =
    sym kept ∙ ap (with_front front) (none_next read values i v below is none)

read_fails : {A B : Type 0} (fault : RequestFault) (x : A) (r : Result B RequestFault) → Fails fault (Ok x) →
    Fails fault r
read_fails TooLong x r h = absurd (cc)
read_fails Malformed x r h = absurd (cc)
read_fails UnknownRequest x r h = absurd (cc)
read_fails BadField x r h = absurd (cc)
read_fails OutOfMemory x r h = tt

none_fails : (A : Type 0) {B : Type 0} (fault : RequestFault) (all : Option B) → all ≡ None →
    Fails fault (wanted {A = A} None) → Fails fault (wanted all)
none_fails A TooLong all none h = absurd (cc)
none_fails A Malformed all none h = absurd (cc)
none_fails A UnknownRequest all none h = absurd (cc)
none_fails A BadField all none h = ap wanted none
none_fails A OutOfMemory all none h = tt

fails_by : {A : Type 0} (fault : RequestFault) (o : Option A) (all : Option (List A)) → (o ≡ None → all ≡ None)
    → Fails fault (wanted o) → Fails fault (wanted all)
fails_by fault None all none h = none_fails _ fault all (none refl) h
fails_by fault (Some x) all none h = read_fails fault x (wanted all) h

-- and for the same fault
pub each_fails : {A : Type 0} (read : Data → Option A) (front : List A) (values : List Value) (i : ℕ) (v : Value)
    (all : Option (List A)) (fault : RequestFault)
    → with_front front (each read (items_view (drop i values))) ≡ all
    → i < length values → v ≡ get_or values i v → Fails fault (wanted (read (view v))) → Fails fault (wanted all)
each_fails read front values i v all fault kept below is h =
    fails_by fault (read (view v)) all (each_refused read front values i v all kept below is) h

pub fails : {A : Type 0} (fault : RequestFault) (read : Result A RequestFault) → read ≡ Err fault → Fails fault read
fails TooLong read h = h
fails Malformed read h = h
fails UnknownRequest read h = h
fails BadField read h = h
fails OutOfMemory read h = tt
