-- What is read of a list's members is what it is, and the other way round.
use Rattle.std.proofs.Common.{
  ◌≡◌,
  ℕ,
  ◌≤◌,
  nat_le,
  ◌&&◌,
  cond,
  Option,
  Some,
  None,
  option_map,
  option_and_then,
  refl,
  sym,
  ap,
  ◌∙◌,
  arith,
}
use Rattle.serde_json.specs.Data.{Data}
use Rattle.query_filter.specs.Formula.{Formula}
use Rattle.json_fields.specs.Filter.{filter_of}
use Rattle.json_fields.specs.Form.{Member}
use Rattle.json_fields.proofs.FormLemmas.{
  Agrees,
  numbered_agrees,
  kept,
  both_true,
  is_most,
  most_is,
  means_read,
  means_reads,
}
use Rattle.wire.specs.Optional.{read_or, IsOr, optional}
use Rattle.wire.specs.List.{
  filter_at,
  IsFilter,
  filter_asked,
  filter,
  from,
  most_listed,
  limit_numbered,
  limit_asked,
  limit,
}

-- ---- members that may be left out

or_read : {A : Type 0} (default : A) (m : Member A) → Agrees m → (o : Option Data) (x : A)
    → read_or default m.value o ≡ Some x → IsOr default m.Is o x
or_read default m agrees None x h = cc
or_read default m agrees (Some d) x h = agrees.read (Some d) x h

or_reads : {A : Type 0} (default : A) (m : Member A) → Agrees m → (o : Option Data) (x : A)
    → IsOr default m.Is o x → read_or default m.value o ≡ Some x
or_reads default m agrees None x is = ap Some (sym is)
or_reads default m agrees (Some d) x is = agrees.reads (Some d) x is

pub optional_agrees : {A : Type 0} (default : A) (m : Member A) → Agrees m → Agrees (optional default m)
optional_agrees default m agrees = record { read = or_read default m agrees; reads = or_reads default m agrees }

-- ---- filters

filter_found : (found : Option Formula) (asked : Option Formula) → option_map Some found ≡ Some asked
    → (f : Formula) × (found ≡ Some f) × (asked ≡ Some f)
filter_found None asked h = absurd (cc)
filter_found (Some f) asked h = (f, refl, cc)

filter_read : (o : Option Data) (asked : Option Formula) → filter_at o ≡ Some asked → IsFilter o asked
filter_read o None h = let parts = filter_found (option_and_then filter_of o) None h in absurd (cc (parts.2))
filter_read o (Some f) h =
    let parts = filter_found (option_and_then filter_of o) (Some f) h in parts.1 ∙ sym parts.2

filter_reads : (o : Option Data) (asked : Option Formula) → IsFilter o asked → filter_at o ≡ Some asked
filter_reads o None is = absurd is
filter_reads o (Some f) is = ap (option_map Some) is

filter_asked_agrees : Agrees filter_asked
filter_asked_agrees = record { read = filter_read; reads = filter_reads }

pub filter_agrees : Agrees filter
filter_agrees = optional_agrees None filter_asked filter_asked_agrees

-- ---- numbers

pub from_agrees : Agrees from
from_agrees = optional_agrees 1 _ (numbered_agrees _)

limit_is : (m n : ℕ) → limit_numbered m ≡ Some n → (m ≡ n) × (1 ≤ n) × (n ≤ most_listed)
limit_is m n h =
    let parts = kept (nat_le 1 m && nat_le m most_listed) (Some m) n h in
    let same : m ≡ n = cc (parts.1) in
    let both = both_true (nat_le 1 m) (nat_le m most_listed) parts.0 in
    let least = is_most 1 m both.0 in
    let most = is_most m most_listed both.1 in
    (same, omega arith, omega arith)

limit_back : (n : ℕ) → 1 ≤ n → n ≤ most_listed → limit_numbered n ≡ Some n
limit_back n least most =
    ap (λ b. cond (b && nat_le n most_listed) (Some n) None) (most_is 1 n least)
    ∙ ap (λ b. cond b (Some n) None) (most_is n most_listed most)

limit_asked_agrees : Agrees limit_asked
limit_asked_agrees = record {
  read = λ o n h.
      let found = means_read limit_numbered o n h in
      let range = limit_is found.0 n found.2 in
      record { is = found.1 ∙ ap Some range.0; least = range.1; most = range.2 };
  reads = λ o n is. means_reads limit_numbered o n n is.is (let most = is.most in omega arith)
      (limit_back n is.least is.most);
}

pub limit_agrees : Agrees limit
limit_agrees = optional_agrees most_listed limit_asked limit_asked_agrees
