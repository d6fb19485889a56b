use Rattle.std.proofs.Common.{◌≡◌, ℕ, ◌*◌, ◌<◌, ◌≤◌, List, [], ◌∷◌, ◌++◌, length, map, sym, ap, ◌∙◌, arith}
use Rattle.std.specs.List.{range_with_len}
use Rattle.std.proofs.lemmas.List.{take_more_set, length-set}
use Rattle.std.proofs.lemmas.List.FromFn.{map-range_with_len_more}
use Rattle.movement.specs.declared.row.Row.{Row}
use Rattle.named_movements.proofs.RowsLemmas.{row_by_place, named_rows_are}
use Rattle.named_movements.proofs.SizeLemmas.{sizes, few_rows}
use Rattle.named_movements.proofs.named_movement.put_rows.Goals as goal

pub bounds-rows-place : goal.bounds-rows-place
bounds-rows-place c =
    let named = c.args.named in
    let few : named.rounds * named.tables ≤ 256 = few_rows named.word named.tables named.rounds
    (sizes named.word named.tables named.rounds c.requires.tables c.requires.rounds) in
    let many : c.from.result * c.from-2.result ≡ named.rounds * named.tables =
    λ i. c.from.ensures i * c.from-2.ensures i in
    omega arith

pub loop-place-preserved : goal.loop-place-preserved
loop-place-preserved c =
    let place = c.loop-place.place in
    let row = row_by_place c.args.named in
    let few : place < 256 = bounds-rows-place c in
    let long : length c.loop-place.rows ≡ 256 = c.loop-place.invariant.long in
    let within : place < length c.loop-place.rows = omega arith in
    record {
      long = length-set c.loop-place.rows place c.row_at.result ∙ long;
      rows = take_more_set c.loop-place.rows place c.row_at.result within
          ∙ ap (λ (rows : List Row). rows ++ c.row_at.result ∷ []) c.loop-place.invariant.rows
          ∙ ap (λ (next : Row). map row (range_with_len 0 place) ++ next ∷ []) c.row_at.ensures
          ∙ sym (map-range_with_len_more row 0 place place (omega arith));
    }

pub returns-clause-rows : goal.returns-clause-rows
returns-clause-rows c =
    let named = c.args.named in
    let many : c.from.result * c.from-2.result ≡ named.rounds * named.tables =
    λ i. c.from.ensures i * c.from-2.ensures i in
    let all : c.loop-place.place ≡ named.rounds * named.tables = omega arith in
    let there : c.from.result * c.from-2.result ≡ c.loop-place.place = omega arith in
    rw there (c.loop-place.invariant.rows
    ∙ ap (λ (n : ℕ). map (row_by_place named) (range_with_len 0 n)) all
    ∙ sym (named_rows_are named))

pub returns-clause-many : goal.returns-clause-many
returns-clause-many c =
    let named = c.args.named in
    let few : named.rounds * named.tables ≤ 256 = few_rows named.word named.tables named.rounds
    (sizes named.word named.tables named.rounds c.requires.tables c.requires.rounds) in
    let many : c.from.result * c.from-2.result ≡ named.rounds * named.tables =
    λ i. c.from.ensures i * c.from-2.ensures i in
    omega arith
