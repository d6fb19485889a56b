-- An audit is read from its members, and what has such members is read as it is.
use Rattle.std.proofs.Common.{◌≡◌, ℕ, ◌≤◌, List, [], nat_le, true, cond, ◌&&◌, Option, Some, None, refl, ap, subst, ◌∙◌}
use Rattle.serde_json.specs.Data.{Data}
use Rattle.serde_json.specs.Find.{get}
use Rattle.wire.specs.declared.audit_range.AuditRange.{AuditRange}
use Rattle.wire.specs.declared.request.Request.{Request}
use Rattle.wire.specs.declared.source.Source.{Source}
use Rattle.wire.specs.Source.{said_user}
use Rattle.wire.specs.Grammar.{IsOf}
use Rattle.wire.specs.Audit.{from_1_to, counted, first_row, most_rows, audit_range, auditing, an_audit, audit_of}
use Rattle.json_fields.specs.Field.{number}
use Rattle.json_fields.specs.Form.{applied, has_only, formed, HasForm}
use Rattle.json_fields.proofs.FormLemmas.{
  Agrees,
  AgreesForm,
  form_agrees,
  with_agrees,
  formed_read,
  formed_reads,
  kept,
  both_true,
  is_most,
  most_is,
}
use Rattle.wire.proofs.SourceLemmas.{said_agrees}

-- ---- numbers from 1 to a limit

count_read : (limit : ℕ) (o : Option ℕ) (n : ℕ) → from_1_to limit o ≡ Some n → (o ≡ Some n) × (1 ≤ n) × (n ≤ limit)
count_read limit None n h = absurd (cc)
count_read limit (Some m) n h =
    let parts = kept (nat_le 1 m && nat_le m limit) (Some m) n h in
    let same : m ≡ n = cc (parts.1) in
    let bounds = both_true (nat_le 1 m) (nat_le m limit) parts.0 in
    (parts.1, subst (λ k. 1 ≤ k) same (is_most 1 m bounds.0), subst (λ k. k ≤ limit) same (is_most m limit bounds.1))

count_reads : (limit : ℕ) (o : Option ℕ) (n : ℕ) → o ≡ Some n → 1 ≤ n → n ≤ limit → from_1_to limit o ≡ Some n
count_reads limit o n is least within =
    ap (from_1_to limit) is
    ∙ ap (λ b. cond (b && nat_le n limit) (Some n) None) (most_is 1 n least)
    ∙ ap (λ b. cond b (Some n) None) (most_is n limit within)

counted_agrees : (name : List ℕ) (limit : ℕ) → Agrees (counted name limit)
counted_agrees name limit = record {
  read = λ o n h. let parts = count_read limit (number o) n h in record {
    is = parts.0;
    least = parts.1;
    within =
        parts.2;
  };
  reads = λ o n is. count_reads limit (number o) n is.is is.least is.within;
}

range_agrees : AgreesForm audit_range
range_agrees =
    with_agrees _ most_rows (with_agrees _ first_row (form_agrees _ _) (counted_agrees _ _)) (counted_agrees _ _)

-- ---- audits

-- the parts of an audit
pub record Audits (source : Source) (rows d : Data) (y : Request) : Type 0 where
  pub name : Option (List ℕ)
  pub range : AuditRange
  pub makes : an_audit name range ≡ y
  pub has : HasForm [] audit_range rows range
  pub listed : has_only auditing d ≡ true
  pub named : IsOf source d name

parts_of : (name : Option (Option (List ℕ))) (range : Option AuditRange) (y : Request)
    → applied (applied (Some an_audit) name) range ≡ Some y
    → (x : Option (List ℕ)) × (z : AuditRange) × (name ≡ Some x) × (range ≡ Some z) × (an_audit x z ≡ y)
parts_of None range y h = absurd (cc)
parts_of (Some x) None y h = absurd (cc)
parts_of (Some x) (Some z) y h = (x, z, refl, refl, cc)

module _ (source : Source) (rows d : Data) where
  -- whose it is, as it is read
  abbrev name : Option (Option (List ℕ))
  name = let whose = said_user source in whose.value (get whose.name d)

  pub audits : (y : Request) → audit_of source rows d ≡ Some y → Audits source rows d y
  unfolding audit_of
  audits y h =
      let range = formed [] audit_range rows in
      let listed = kept (has_only auditing d) (applied (applied (Some an_audit) name) range) y h in
      let parts = parts_of name range y listed.1 in
      record {
        name = parts.0;
        range = parts.1;
        makes = parts.4;
        has = formed_read [] audit_range range_agrees rows parts.1 parts.3;
        listed = listed.0;
        named = (said_agrees source).read _ parts.0 parts.2;
      }

  pub audited : (user : Option (List ℕ)) (range : AuditRange) → HasForm [] audit_range rows range
      → has_only auditing d ≡ true → IsOf source d user → audit_of source rows d ≡ Some (an_audit user range)
  unfolding audit_of
  audited user range has listed named =
      ap (λ b. cond b (applied (applied (Some an_audit) name) (formed [] audit_range rows)) None) listed
      ∙ ap (λ o. applied (applied (Some an_audit) o) (formed [] audit_range rows))
      ((said_agrees source).reads _ user named)
      ∙ ap (applied (Some (an_audit user))) (formed_reads [] audit_range range_agrees rows range has)
