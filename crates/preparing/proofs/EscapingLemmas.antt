-- A page's text, character by character.
use Rattle.std.proofs.Common.{◌≡◌, ℕ, List, [], ◌∷◌, ◌++◌, sym, ap, ◌∙◌, append_assoc, append-nil}
use Rattle.preparing.specs.Escaping.{escaped_sign, escaped_signs}

pub one_sign_more : (signs : List ℕ) (sign : ℕ)
    → escaped_signs (signs ++ sign ∷ []) ≡ escaped_signs signs ++ escaped_sign sign
one_sign_more [] sign = append-nil (escaped_sign sign)
one_sign_more (first ∷ signs) sign =
    ap (λ (rest : List ℕ). escaped_sign first ++ rest) (one_sign_more signs sign)
    ∙ sym (append_assoc (escaped_sign first) (escaped_signs signs) (escaped_sign sign))
