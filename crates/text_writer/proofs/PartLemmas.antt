-- Parts of a text, one after another, and one more.
use Rattle.std.proofs.Common.{◌≡◌, ℕ, ◌+◌, ◌<◌, List, [], ◌∷◌, ◌++◌, length, map, take, get_or, ap, ◌∙◌}
use Rattle.std.specs.List.{concat}
use Rattle.std.proofs.lemmas.List.{append-nil, map_more}
use Rattle.std.proofs.lemmas.List.Folds.{concat-append}

-- a part more stands after all the others
pub concat_more : (parts : List (List ℕ)) (part : List ℕ) → concat (parts ++ part ∷ []) ≡ concat parts ++ part
concat_more parts part = concat-append parts (part ∷ []) ∙ ap (λ t. concat parts ++ t) (append-nil part)

-- so does what is written of an item more
pub concat_map_more : {A : Type 0} (f : A → List ℕ) (xs : List A) (k : ℕ) (d : A) → k < length xs →
    concat (map f (take (k + 1) xs)) ≡ concat (map f (take k xs)) ++ f (get_or xs k d)
concat_map_more f xs k d below =
    ap concat (map_more f xs k d below) ∙ concat_more (map f (take k xs)) (f (get_or xs k d))
