use Rattle.std.proofs.Common.{List, ℕ, [], chars, sym, ap, ◌∙◌}
use Rattle.std.proofs.lemmas.Result.{IfOk-weaker}
use Rattle.std.proofs.lemmas.Str.{chars_from_encodes}
use Rattle.unicode_normalization.specs.Forms.{nfkd}
use Rattle.sign_ins.specs.SignInName.{first_word, or_guest, sign_in_base, with_signs}
use Rattle.sign_ins.proofs.sign_in_name.sign_in_base.Goals as goal

pub returns : goal.returns
unfolding sign_in_base
returns c =
    let plain = c.as_str.result.now in
    let same = chars_from_encodes (nfkd (chars c.args.shown.now)) plain c.as_str.utf8 (sym (c.as_str.ensures.value ∙ c.in_ok-plain.ensures)) in
    IfOk-weaker c.or_guest.result _ _ (λ base is.
    is
    ∙ ap or_guest
    (c.in_ok-letters.ensures ∙ ap (λ (signs : List ℕ). with_signs [] (first_word signs)) (sym same))) c.or_guest.ensures
