-- Ranges of numbers and of scores. Where the least is above the most, nothing lies between them.
use Rattle.std.specs.Prelude.{ℕ, ℤ, Bool, nat_le, int_le, ◌&&◌}
use Rattle.query_filter.specs.declared.bounds.Bounds.{Bounds}
use Rattle.query_filter.specs.declared.bounds.ScoreBounds.{ScoreBounds}

-- from the least to the most
abbrev pub is_between : Bounds → ℕ → Bool
is_between bounds number = nat_le bounds.min number && nat_le number bounds.max

-- from the least to the most, below zero too
abbrev pub is_score_between : ScoreBounds → ℤ → Bool
is_score_between bounds points = int_le bounds.min points && int_le points bounds.max
