-- How a board ended at a table, compared.
use Rattle.std.specs.Prelude.{ℕ, Bool, nat_eq, List, [], ◌∷◌}
use Rattle.std.specs.Cmp.Lexicographic.{pointwise}
use Rattle.table_terms.specs.Place.{place_letter}
use Rattle.table_terms.specs.Strain.{strain_letter}
use Rattle.scoring.specs.declared.outcome.Outcome.{Outcome}
use Rattle.scoring.specs.declared.outcome.Outcome.TheVariants.{PassedOut, Played}
use Rattle.scoring.specs.Doubling.{times_doubled}

-- what tells one outcome from another: nothing where all four players passed; else the level, the strain, the declarer,
-- the doubling and the tricks
abbrev pub outcome_parts : Outcome → List ℕ
outcome_parts PassedOut = []
outcome_parts (Played contract tricks) =
    contract.level ∷ strain_letter contract.strain ∷ place_letter contract.declarer
    ∷ times_doubled contract.doubling ∷ tricks ∷ []

-- whether two outcomes are one
abbrev pub same_outcome : Outcome → Outcome → Bool
same_outcome a b = pointwise nat_eq (outcome_parts a) (outcome_parts b)
