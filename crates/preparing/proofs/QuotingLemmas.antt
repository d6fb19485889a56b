-- A text in double quotes, character by character.
use Rattle.std.proofs.Common.{◌≡◌, ℕ, List, [], ◌∷◌, ◌++◌, sym, ap, ◌∙◌, append_assoc, append-nil}
use Rattle.preparing.specs.SignInList.{quoted_sign, quoted_signs}

pub one_quoted_more : (signs : List ℕ) (sign : ℕ)
    → quoted_signs (signs ++ sign ∷ []) ≡ quoted_signs signs ++ quoted_sign sign
one_quoted_more [] sign = append-nil (quoted_sign sign)
one_quoted_more (first ∷ signs) sign =
    ap (λ (rest : List ℕ). quoted_sign first ++ rest) (one_quoted_more signs sign)
    ∙ sym (append_assoc (quoted_sign first) (quoted_signs signs) (quoted_sign sign))
