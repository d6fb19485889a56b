-- What a loop makes of each item of a list, in order.
use Rattle.std.proofs.Common.{
  ◌≡◌,
  ℕ,
  ◌+◌,
  ◌<◌,
  List,
  [],
  ◌∷◌,
  ◌++◌,
  length,
  get_or,
  take,
  map,
  sym,
  ap,
  ◌∙◌,
  append_assoc,
}
use Rattle.std.specs.Prelude.{Option}
use Rattle.std.specs.List.{filter_map, cons_option}
use Rattle.std.proofs.lemmas.List.{map_more, take_more}
use Rattle.std.proofs.lemmas.List.Elements.{filter_map-append}

-- one more is made, and comes last
pub next_made : {A B : Type 0} (make : A → B) (front : List B) (xs : List A) (i : ℕ) (x : A) (made all : List B) (y : B)
    → made ≡ front ++ map make (take i xs) → i < length xs → x ≡ get_or xs i x → y ≡ make x → all ≡ made ++ y ∷ []
    → all ≡ front ++ map make (take (i + 1) xs)
next_made make front xs i x made all y before below is made_of pushed =
    pushed
    ∙ (ap (λ ys. ys ++ y ∷ []) before
    ∙ (append_assoc front (map make (take i xs)) (y ∷ [])
    ∙ ap (λ ys. front ++ ys) (ap (λ z. map make (take i xs) ++ z ∷ []) (made_of ∙ ap make is)
    ∙ sym (map_more make xs i x below))))

-- what is given of the first items, and of one more
pub filter_map_more : {X Y : Type 0} (f : X → Option Y) (xs : List X) (k : ℕ) (d : X) → k < length xs →
    filter_map f (take (k + 1) xs) ≡ filter_map f (take k xs) ++ cons_option (f (get_or xs k d)) []
filter_map_more f xs k d below = ap (filter_map f) (take_more xs k d below) ∙ filter_map-append f (take k xs)
    (get_or xs k d ∷ [])
