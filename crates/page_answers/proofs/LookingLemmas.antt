-- Looking for an element of a list that stands for another.
use Rattle.std.proofs.Common.{◌≡◌, Bool, true, false, cond, List, [], ◌∷◌, map, Option, Some, None, option_map, find, refl, sym, ap, ◌∙◌}

find_step : {A B : Type 0} (of : A → B) (x : A) (found : Option A) (rest : Option B) (test : Bool)
    → rest ≡ option_map of found → cond test (Some (of x)) rest ≡ option_map of (cond test (Some x) found)
find_step of x found rest true is = refl
find_step of x found rest false is = is

-- the first that stands for one which passes
pub find_of_map : {A B : Type 0} (of : A → B) (test : B → Bool) (xs : List A)
    → find test (map of xs) ≡ option_map of (find (λ x. test (of x)) xs)
find_of_map of test [] = refl
find_of_map of test (x ∷ xs) =
    find_step of x (find (λ y. test (of y)) xs) (find test (map of xs)) (test (of x)) (find_of_map of test xs)

map_twice : {A B C : Type 0} (f : A → B) (g : B → C) (found : Option A)
    → option_map (λ x. g (f x)) found ≡ option_map g (option_map f found)
map_twice f g None = refl
map_twice f g (Some x) = refl

-- what is lent of the list that others stand for
pub found_of_map : {A B C : Type 0} (now : A → B) (of : B → C) (test : C → Bool) (found : Option A) (xs : List B)
    → option_map now found ≡ find (λ x. test (of x)) xs → option_map (λ x. of (now x)) found ≡ find test (map of xs)
found_of_map now of test found xs is =
    map_twice now of found ∙ ap (option_map of) is ∙ sym (find_of_map of test xs)
