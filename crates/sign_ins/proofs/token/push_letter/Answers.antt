use Rattle.std.proofs.Common.{◌≡◌, ℕ, List, ◌∷◌, [], ◌++◌, encode_utf8, OnOk, ap, subst, ◌∙◌, string_bytes}
use Rattle.sign_ins.proofs.TokenLemmas.{on_ok_pushed}
use Rattle.sign_ins.proofs.token.push_letter.Goals as goal

pub returns : goal.returns
returns c =
    let letter = c.letter_of.result in
    let spelled = c.push.ensures.ascii c.letter_of.ensures.ascii ∙ ap (λ (l : ℕ). l ∷ []) c.letter_of.ensures.letter in
    subst (λ (more : List ℕ). OnOk c.push.result (string_bytes c.push.new.self ≡ string_bytes c.args.text.now ++ more))
    spelled (on_ok_pushed c.push.result _ _ (encode_utf8 letter) c.push.ensures.bytes)
