-- Outcomes are one exactly where what tells them apart is the same.
use Rattle.std.proofs.Common.{◌≡◌, ℕ, List, [], ◌∷◌, refl, sym, ap, ◌∙◌}
use Rattle.std.specs.Prelude.{if◌then◌else◌, ◌==◌}
use Rattle.std.specs.Bool.{Decides}
use Rattle.std.proofs.lemmas.Bool.Decides.{Decides-eqb}
use Rattle.std.specs.Cmp.Lexicographic.{pointwise_decides}
use Rattle.table_terms.specs.declared.place.Place.{Place}
use Rattle.table_terms.specs.declared.place.Place.TheVariants.{North, East, South, West}
use Rattle.table_terms.specs.declared.strain.Strain.{Strain}
use Rattle.table_terms.specs.declared.strain.Strain.TheVariants.{Spades, Hearts, Diamonds, Clubs, NoTrump}
use Rattle.table_terms.specs.Place.{place_letter}
use Rattle.table_terms.specs.Strain.{strain_letter}
use Rattle.scoring.specs.declared.doubling.Doubling.{Doubling}
use Rattle.scoring.specs.declared.doubling.Doubling.TheVariants.{Undoubled, Doubled, Redoubled}
use Rattle.scoring.specs.declared.outcome.Outcome.{Outcome}
use Rattle.scoring.specs.declared.outcome.Outcome.TheVariants.{PassedOut, Played}
use Rattle.scoring.specs.Doubling.{times_doubled}
use Rattle.scoring.specs.Outcome.{outcome_parts, same_outcome}

abbrev strain_of : ℕ → Strain
strain_of letter =
    if letter == 83 then Spades else if letter == 72 then Hearts else if letter == 68 then Diamonds else if letter == 67
    then Clubs else NoTrump

strain_of-letter : (strain : Strain) → strain_of (strain_letter strain) ≡ strain
strain_of-letter Spades = refl
strain_of-letter Hearts = refl
strain_of-letter Diamonds = refl
strain_of-letter Clubs = refl
strain_of-letter NoTrump = refl

abbrev place_of : ℕ → Place
place_of letter = if letter == 78 then North else if letter == 69 then East else if letter == 83 then South else West

place_of-letter : (place : Place) → place_of (place_letter place) ≡ place
place_of-letter North = refl
place_of-letter East = refl
place_of-letter South = refl
place_of-letter West = refl

abbrev doubling_of : ℕ → Doubling
doubling_of times = if times == 0 then Undoubled else if times == 1 then Doubled else Redoubled

doubling_of-times : (doubling : Doubling) → doubling_of (times_doubled doubling) ≡ doubling
doubling_of-times Undoubled = refl
doubling_of-times Doubled = refl
doubling_of-times Redoubled = refl

-- the outcome that such numbers tell
abbrev outcome_of : List ℕ → Outcome
outcome_of (level ∷ strain ∷ declarer ∷ times ∷ tricks ∷ []) =
    Played (record {
      level = level;
      strain = strain_of strain;
      declarer = place_of declarer;
      doubling =
          doubling_of times;
    }) tricks
outcome_of _ = PassedOut

outcome_of-marks : (outcome : Outcome) → outcome_of (outcome_parts outcome) ≡ outcome
outcome_of-marks PassedOut = refl
outcome_of-marks (Played contract tricks) = λ i. Played (record {
  level = contract.level;
  strain = strain_of-letter contract.strain i;
  declarer = place_of-letter contract.declarer i;
  doubling = doubling_of-times contract.doubling i;
}) tricks

-- two outcomes are found the same exactly where they are one
pub same_outcome_decides : (a b : Outcome) → Decides (same_outcome a b) (a ≡ b)
same_outcome_decides a b =
    let marks = pointwise_decides Decides-eqb (outcome_parts a) (outcome_parts b) in (
      λ same. sym (outcome_of-marks a) ∙ ap outcome_of (marks.0 same) ∙ outcome_of-marks b,
      λ one. marks.1 (ap outcome_parts one),
    )
