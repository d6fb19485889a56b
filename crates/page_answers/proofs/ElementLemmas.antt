-- The elements of a list in a field's value.
use Rattle.std.proofs.Common.{◌≡◌, ◌∙◌, ◌||◌, ◌+◌, ◌-◌, ℕ, Bool, true, false, List, ◌∷◌, [], suc, length, take, drop, refl, ap, sym, add-one}
use Rattle.std.proofs.lemmas.List.{take_rest}
use Rattle.httparse.specs.Grammar.{trim_ows}
use Rattle.http1.specs.Fields.{elements, has_option}
use Rattle.http1.specs.Text.{eq_ignore_case}

-- a list has an element where the first one is it, or one of the others
pub first_or_other : (list wanted : List ℕ) (at : ℕ) (first : Bool)
    → elements list ≡ trim_ows (take at list) ∷ elements (drop (suc at) list)
    → first ≡ eq_ignore_case (trim_ows (take at list)) wanted
    → has_option wanted (elements list) ≡ (first || has_option wanted (elements (drop (suc at) list)))
first_or_other list wanted at first split is =
    ap (has_option wanted) split ∙ ap (λ test. test || has_option wanted (elements (drop (suc at) list))) (sym is)

or_false : (test : Bool) → (test || false) ≡ test
or_false true = refl
or_false false = refl

-- or where the only one is it
pub only_one : (list wanted : List ℕ) → elements list ≡ trim_ows list ∷ []
    → has_option wanted (elements list) ≡ eq_ignore_case (trim_ows list) wanted
only_one list wanted whole = ap (has_option wanted) whole ∙ or_false (eq_ignore_case (trim_ows list) wanted)

-- what stands behind an element
pub behind : (list : List ℕ) (at : ℕ) → take (length list - (at + 1)) (drop (at + 1) list) ≡ drop (suc at) list
behind list at = simp (take_rest, add-one) refl
