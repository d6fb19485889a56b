use Rattle.std.proofs.Common.{◌≡◌, ◌∙◌, refl, ap, Bool, List, [], ◌∷◌, map, rules, tests}
use Rattle.std.specs.Prelude.{string_bytes, ◌||◌}
use Rattle.std.specs.List.{list_any}
use Rattle.std.proofs.lemmas.Iterator.{YieldsList-from_slice}
use Rattle.std.proofs.lemmas.Iterator.Search.{any_from_yields_List}
use Rattle.server_words.specs.CommandLine.{is_option}
use Rattle.server_words.proofs.options_named.is_named.Goals as goal

-- a test of what is made of each element
list_any_map : {X Y : Type 0} (test : Y → Bool) (made : X → Y) (xs : List X)
    → list_any (λ x. test (made x)) xs ≡ list_any test (map made xs)
list_any_map test made [] = refl
list_any_map test made (x ∷ xs) = ap (λ (b : Bool). test (made x) || b) (list_any_map test made xs)

pub returns : goal.returns
returns c =
    let words = c.args.words.now in
    let test = is_option c.args.alone.now c.args.beginning.now in
    any_from_yields_List (λ word. test (string_bytes word)) _ _ c.any.result c.any.ensures.ran
    (YieldsList-from_slice words cc) (λ x b q k. search (rules, tests))
    ∙ list_any_map test string_bytes words
