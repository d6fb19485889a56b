-- The boards of a set: those whose numbers, counted from 0, have the set's as their quotient.
use Rattle.std.proofs.Common.{◌≡◌, ℕ, ◌+◌, ◌-◌, ◌*◌, ◌/◌, ◌<◌, ◌≤◌, ap, ◌∙◌, arith}
use Rattle.std.proofs.lemmas.Nat.{div-mul-add, mul-le}
use Rattle.std.proofs.Math.Nat.{add-sub_cancel, suc-mul}
use Rattle.std.proofs.Math.Numerals.{add-one}
use Rattle.movement.specs.Movement.{Section, IsOfSet, boards_of}

-- a board of a set has the set as its quotient
pub set_of_board : (section : Section) (set board : ℕ) → IsOfSet section (set + 1) board →
    (board - 1) / section.per_set ≡ set
set_of_board section set board is_of_set =
    let p : ℕ = section.per_set in
    let after : set * p < board = rw add-sub_cancel at is_of_set.after in
    let next : (set + 1) * p ≡ set * p + p = rw add-one (suc-mul set p) in
    let within = is_of_set.within in
    let same : board - 1 ≡ set * p + (board - 1 - set * p) = omega arith in
    ap (λ (n : ℕ). n / p) same ∙ div-mul-add set p (board - 1 - set * p) (omega arith)

-- two sets that have the same board are one
pub same_set : (section : Section) (first second board : ℕ) → 1 ≤ first → 1 ≤ second →
    IsOfSet section first board → IsOfSet section second board → first ≡ second
same_set section first second board one_first one_second in_first in_second =
    let a : (first - 1) + 1 ≡ first = omega arith in
    let b : (second - 1) + 1 ≡ second = omega arith in
    let first_quotient = set_of_board section (first - 1) board (rw a in_first) in
    let second_quotient = set_of_board section (second - 1) board (rw b in_second) in
    omega arith

-- the boards of one of the sets are boards of the section
pub within-boards : (section : Section) (set board : ℕ) → set < section.sets → IsOfSet section (set + 1) board →
    (1 ≤ board) × (board ≤ boards_of section)
within-boards section set board set_below is_of_set =
    let p : ℕ = section.per_set in
    let most : (set + 1) * p ≤ section.sets * p = mul-le (set + 1) p section.sets p (omega arith) (omega arith) in
    let after = is_of_set.after in
    let within = is_of_set.within in
    (omega arith, omega arith)
