-- Scoring units by score (Law 78A): the units of each result on a board that has this score.
use Rattle.std.specs.Prelude.{ℕ, ◌+◌, ◌-◌, ◌*◌, ℤ, List, count_by, int_lt}
use Rattle.std.specs.Ordering.{int_eq}

-- two units for each score that this one beats, and one for each other that it equals; it stands among the scores
-- itself
abbrev pub units_of_score : List ℤ → ℤ → ℕ
units_of_score scores score =
    2 * count_by (λ other. int_lt other score) scores + (count_by (λ other. int_eq other score) scores - 1)
