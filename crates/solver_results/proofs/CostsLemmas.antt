-- The costs' places, filled with numbers.
use Rattle.std.proofs.Common.{
  ◌≡◌,
  ℕ,
  ◌+◌,
  ◌-◌,
  ◌≤◌,
  List,
  ◌++◌,
  length,
  drop,
  replicate,
  refl,
  ap,
  ◌∙◌,
  arith,
  length-append,
  length-drop,
}
use Rattle.std.proofs.Math.Seq.{drop-append_seam}
use Rattle.std.proofs.lemmas.List.{drop-replicate}
use Rattle.solver_results.specs.CostPlaces.{IsCosts}

back_up : (n : ℕ) → n ≤ 52 → n + (52 - n) ≡ 52
back_up n h = omega arith

-- the places of no number
pub no_places : IsCosts (record { numbers = replicate 52 0; len = 0 })
no_places = record { places = refl; short = omega arith; rest = refl }

-- the places, once the numbers stand in their front
pub places_filled : (front numbers : List ℕ) → front ≡ numbers → length numbers ≤ 52 →
    IsCosts (record { numbers = front ++ drop (length numbers) (replicate 52 0); len = length numbers })
places_filled front numbers is short = record {
  places =
      length-append front (drop (length numbers) (replicate 52 0))
      ∙ ap (λ n. length front + n) (length-drop (length numbers) (replicate 52 0))
      ∙ ap (λ ns. length ns + (52 - length numbers)) is
      ∙ back_up (length numbers) short;
  short = short;
  rest =
      ap (λ ns. drop (length numbers) (ns ++ drop (length numbers) (replicate 52 0))) is
      ∙ drop-append_seam numbers (drop (length numbers) (replicate 52 0)) ∙ drop-replicate (length numbers) 52 0;
}
