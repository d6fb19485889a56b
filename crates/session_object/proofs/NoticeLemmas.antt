-- What is read of the members that tell of the session is what they say, and the other way round.
use Rattle.std.proofs.Common.{
  ◌≡◌,
  ◌≤◌,
  ℕ,
  nat_eq,
  nat_le,
  Bool,
  true,
  false,
  ◌&&◌,
  cond,
  List,
  [],
  length,
  codes,
  Option,
  Some,
  None,
  option_and_then,
  refl,
  sym,
  ap,
  subst,
  ◌∙◌,
  arith,
}
use Rattle.std.specs.Prelude.{◌<◌, IfSome, IfNone}
use Rattle.serde_json.specs.Data.{Data, Items}
use Rattle.serde_json.specs.Find.{as_str, as_array}
use Rattle.notices.specs.declared.notices.TheConstants.Notices.{MOST_REASONS}
use Rattle.notices.specs.declared.notice_text.TheConstants.NoticeText.{MOST}
use Rattle.json_fields.specs.Form.{item_count, each}
use Rattle.json_fields.specs.Field.{passing, is_shown_within}
use Rattle.json_fields.proofs.FormLemmas.{
  Agrees,
  kept,
  passing_read,
  tested_agrees,
  if_there_agrees,
  or_else_agrees,
  each_read,
  each_reads,
  is_most,
  most_is,
  both_true,
  each_count,
}
use Rattle.session_object.specs.NoticeMembers.{
  title,
  is_date,
  date,
  reason_said,
  IsReason,
  is_reason_count,
  reasons_in,
  reasons_said,
  AreReasons,
  SaysReasons,
  reasons,
}

pub title_agrees : Agrees title
title_agrees = if_there_agrees _ (tested_agrees (codes "title") _)

pub date_agrees : Agrees date
date_agrees = if_there_agrees _ (tested_agrees (codes "date") is_date)

-- ---- reasons

reason_read : (d : Data) (bytes : List ℕ) → reason_said d ≡ Some bytes → IsReason d bytes
reason_read d bytes h =
    let both = passing_read (is_shown_within MOST) (as_str d) bytes h in record { is = both.0; passes = both.1 }

reason_reads : (d : Data) (bytes : List ℕ) → IsReason d bytes → reason_said d ≡ Some bytes
reason_reads d bytes is =
    ap (passing (is_shown_within MOST)) is.is ∙ ap (λ b. cond b (Some bytes) None) is.passes

reasons_read : (items : Items) (said : List (List ℕ)) → reasons_in items ≡ Some said → AreReasons items said
unfolding reasons_in
reasons_read items said h =
    let both = kept (is_reason_count (item_count items)) (each reason_said items) said h in
    let counts = both_true (nat_le 1 (item_count items)) (nat_le (item_count items) MOST_REASONS) both.0 in
    let are = each_read reason_said IsReason reason_read items said both.1 in
    let many : item_count items ≡ length said = each_count IsReason items said are in
    record {
      each = are;
      least = subst (λ n. 1 ≤ n) many (is_most 1 (item_count items) counts.0);
      most = subst (λ n. n ≤ MOST_REASONS) many (is_most (item_count items) MOST_REASONS counts.1);
    }

reasons_reads : (items : Items) (said : List (List ℕ)) → AreReasons items said → reasons_in items ≡ Some said
unfolding reasons_in
reasons_reads items said are =
    let many : item_count items ≡ length said = each_count IsReason items said are.each in
    let least : nat_le 1 (item_count items) ≡ true = most_is 1 (item_count items) (subst (λ n. 1 ≤ n) (sym many) are.least)
    in
    let most : nat_le (item_count items) MOST_REASONS ≡ true = most_is (item_count items) MOST_REASONS
    (subst (λ n. n ≤ MOST_REASONS) (sym many) are.most) in
    ap (λ b. cond (b && nat_le (item_count items) MOST_REASONS) (each reason_said items) None) least
    ∙ ap (λ b. cond b (each reason_said items) None) most
    ∙ each_reads reason_said IsReason reason_reads items said are.each

in_a_list : (o : Option Items) (said : List (List ℕ)) → option_and_then reasons_in o ≡ Some said →
    (items : Items) × (o ≡ Some items) × AreReasons items said
in_a_list None said h = absurd (cc)
in_a_list (Some items) said h = (items, refl, reasons_read items said h)

pub reasons_agree : Agrees reasons
reasons_agree = or_else_agrees [] (record { name = codes "reasons"; value = reasons_said; Is = SaysReasons }) (record {
  read = λ o said h. in_a_list (option_and_then as_array o) said h;
  reads = λ o said is. ap (option_and_then reasons_in) is.1 ∙ reasons_reads is.0 said is.2;
})

-- ---- dates

ten : (n : ℕ) (rest : Bool) → (nat_eq n 10 && rest) ≡ true → n ≡ 10
ten n rest is = let both = both_true (nat_eq n 10) rest is in grind arith

-- a date isn't too long
pub date_is_short : (bytes : List ℕ) → is_date bytes ≡ true → length bytes ≡ 10
unfolding is_date
date_is_short bytes is = ten (length bytes) _ is

-- a date that is kept is the date, and there is room for it
pub date_kept : (found : Option (List ℕ)) (bytes : List ℕ) → is_date bytes ≡ true →
    IfSome found (λ notice. notice ≡ bytes) → IfNone found (MOST < length bytes) → found ≡ passing is_date (Some bytes)
date_kept None bytes is same long = absurd (omega (arith, long, date_is_short bytes is))
date_kept (Some notice) bytes is same long = ap Some same ∙ sym (ap (λ b. cond b (Some bytes) None) is)
