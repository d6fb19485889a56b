-- Fields that are added one by one.
use Rattle.std.proofs.Common.{◌≡◌, ◌∙◌, List, [], ◌∷◌, ◌++◌, ap, append_assoc}

add_one : {A : Type 0} (before so_far : List A) (rest : List A) (field : A) (after : List A) → so_far ≡ before ++ rest
    → after ≡ so_far ++ field ∷ [] → after ≡ before ++ (rest ++ field ∷ [])
add_one before so_far rest field after is adds =
    adds ∙ ap (λ fields. fields ++ field ∷ []) is ∙ append_assoc before rest (field ∷ [])

-- four fields stand there in their order
pub one_by_one : {A : Type 0} (before one two three four : List A) (a b c d : A) → one ≡ before ++ a ∷ []
    → two ≡ one ++ b ∷ [] → three ≡ two ++ c ∷ [] → four ≡ three ++ d ∷ [] → four ≡ before ++ (a ∷ b ∷ c ∷ d ∷ [])
one_by_one before one two three four a b c d first second third fourth =
    add_one before three (a ∷ b ∷ c ∷ []) d four
    (add_one before two (a ∷ b ∷ []) c three (add_one before one (a ∷ []) b two first second) third) fourth
