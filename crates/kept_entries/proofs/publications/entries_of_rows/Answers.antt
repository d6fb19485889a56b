use Rattle.std.proofs.Common.{◌≡◌, ◌++◌, length, take, drop, map, ap, ◌∙◌, arith}
use Rattle.std.proofs.Math.Seq.{take-append_seam}
use Rattle.kept_entries.specs.RowTexts.{entry_told}
use Rattle.kept_entries.proofs.ReadLemmas.{told_as_before}
use Rattle.kept_entries.proofs.publications.entries_of_rows.Goals as goal

pub returns-clause-fault : goal.returns-clause-fault
returns-clause-fault g c =
    let solved = c.solve_all.new.read in
    let count : c.in-Ok.read.len ≡ length solved = omega (arith, c.solve_all.ensures.each, c.as_mut_slice.ensures.len) in
    let now : c.as_slice.result.now ≡ solved = c.as_slice.ensures.value
    ∙ ap (λ n. take n (solved ++ drop (length solved) c.in-Ok.read.items)) count
    ∙ take-append_seam solved (drop (length solved) c.in-Ok.read.items) in
    let same : map entry_told c.as_slice.result.now ≡ map entry_told c.in-Ok.read.items = ap (map entry_told) now
    ∙ c.solve_all.ensures.told ∙ ap (map entry_told) c.as_mut_slice.ensures.value in
    c.compare_rows.ensures.fault (told_as_before c.args.rows.now c.as_slice.result.now c.in-Ok.read.items
    c.in-Ok.ensures.told same)
