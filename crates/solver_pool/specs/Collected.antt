-- own: which jobs were given, by their numbers from 1, and whether the result of each was collected.
use Rattle.std.specs.Prelude.{ℕ, zero, suc, Bool, true, List, Option, None, slice_get, slice_set}

-- whether the result of the job of a number was collected, if there is such a job
abbrev pub is_collected : List Bool → ℕ → Option Bool
is_collected jobs zero = None
is_collected jobs (suc before) = slice_get jobs before

-- the same jobs, with the result of this one collected
abbrev pub with_collected : List Bool → ℕ → List Bool
with_collected jobs zero = jobs
with_collected jobs (suc before) = slice_set jobs before true
