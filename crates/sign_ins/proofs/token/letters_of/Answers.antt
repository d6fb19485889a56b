use Rattle.std.proofs.Common.{◌≡◌, ◌<◌, ◌+◌, ℕ, ◌∷◌, ◌++◌, [], length, take, get_or, sym, ap, ◌∙◌, arith}
use Rattle.std.proofs.lemmas.List.{take_more, length-take-le}
use Rattle.sign_ins.specs.Token.{dash_before, in_groups, token_letter}
use Rattle.sign_ins.proofs.TokenLemmas.{one_more}
use Rattle.sign_ins.proofs.token.letters_of.Goals as goal

pub loop-place-init : goal.loop-place-init
unfolding in_groups
loop-place-init c = c.new-text.ensures.bytes

pub loop-place-preserved : goal.loop-place-preserved
loop-place-preserved c =
    let bytes = c.args.bytes.now in
    let place = c.loop-place.place in
    let before = take place bytes in
    let byte = get_or bytes place 0 in
    let below : place < length bytes = omega arith in
    let at : length before + 0 ≡ place = omega (arith, length-take-le place bytes (omega arith)) in
    rw (c.in_ok-push_letter.ensures, c.in_ok-push_dash.ensures, c.loop-place.invariant, take_more bytes place 0 below)
    (sym (one_more before 0 byte
    ∙ ap (λ (k : ℕ). (in_groups 0 before ++ dash_before k) ++ token_letter byte ∷ []) at))
