use Rattle.std.proofs.Common.{get_or, arith}
use Rattle.std.specs.Int.{IsInRange}
use Rattle.table_terms.proofs.PairReadingLemmas.{first_of_number, reads_number}
use Rattle.table_terms.proofs.pair_reading.read_number.Goals as goal

pub returns-in-49-to-57-clause-number : goal.returns-in-49-to-57-clause-number
returns-in-49-to-57-clause-number c =
    let first : IsInRange 49 57 (get_or c.as_bytes.result.now 0 0) = (omega arith, omega arith) in
    rw c.ok.ensures.value (reads_number c.args.digits.now c.parse.result c.parse.ensures.value.0
    (rw c.as_bytes.ensures.value at first)).0

pub returns-in-49-to-57-clause-none : goal.returns-in-49-to-57-clause-none
returns-in-49-to-57-clause-none c =
    let first : IsInRange 49 57 (get_or c.as_bytes.result.now 0 0) = (omega arith, omega arith) in
    rw c.ok.ensures.value (reads_number c.args.digits.now c.parse.result c.parse.ensures.value.0
    (rw c.as_bytes.ensures.value at first)).1

pub returns-in_default-clause-none : goal.returns-in_default-clause-none
returns-in_default-clause-none c = λ n low high is.
    let first = rw (is, ← c.as_bytes.ensures.value) at (first_of_number n low high) in omega arith

pub returns-in_default-2-clause-none : goal.returns-in_default-2-clause-none
returns-in_default-2-clause-none c = λ n low high is.
    let first = rw (is, ← c.as_bytes.ensures.value) at (first_of_number n low high) in omega arith

pub returns-in_default-3-clause-none : goal.returns-in_default-3-clause-none
returns-in_default-3-clause-none c = λ n low high is.
    let first = rw (is, ← c.as_bytes.ensures.value) at (first_of_number n low high) in omega arith
