-- Law 78A of the Laws of Duplicate Bridge 2017: matchpoint scoring, in scoring units.
use Rattle.std.specs.Prelude.{ℕ, ◌+◌, ◌*◌, ℤ, pos, List, slice_index_or, remove, count_by, int_lt}
use Rattle.std.specs.Ordering.{int_eq}

-- a score gets two units for each other score on the board that it beats, and one for each that it equals
abbrev pub units : List ℤ → ℕ → ℕ
units scores place =
    let mine = slice_index_or scores place (pos 0) in
    let others = remove scores place in
    2 * count_by (λ other. int_lt other mine) others + count_by (λ other. int_eq other mine) others
