use Rattle.std.proofs.Common.{◌≡◌, ◌++◌, ◌∷◌, [], ap, sym, ◌∙◌, append-nil, arith}
use Rattle.std.specs.List.{cons_option, filter_map, range_with_len}
use Rattle.std.specs.Option.{option_map}
use Rattle.movement.specs.Kept.{row_at, row_of_sitting, kept_rows}
use Rattle.movement.proofs.KeptRowLemmas.{kept_with_next}
use Rattle.movement.proofs.sittings.rows_of.Goals as goal
use Rattle.movement.proofs.sittings.rows_of.Goals.{in-Some+in_ok-push, in_default}

pub loop-place-preserved : goal.loop-place-preserved
loop-place-preserved c =
    let f = row_at c.args.sittings.now in
    let place = c.loop-place.place in
    elim c.match-sittings-place.branch [
      | in-Some+in_ok-push w ↦
          (λ i. (w.listed-is i).items)
          ∙ w.in_ok-push.ensures.items
          ∙ (λ i. c.loop-place.invariant i ++ w.row_of_sitting.ensures i ∷ [])
          ∙ (λ i. filter_map f (range_with_len 0 place)
          ++ cons_option (option_map (row_of_sitting place) (sym w.in-Some.is i)) [])
          ∙ sym (kept_with_next f place)
      | in_default w ↦
          (λ i. (w.listed-is i).items)
          ∙ c.loop-place.invariant
          ∙ sym (append-nil (filter_map f (range_with_len 0 place)))
          ∙ (λ i. filter_map f (range_with_len 0 place)
          ++ cons_option (option_map (row_of_sitting place) (sym w.in_default.is i)) [])
          ∙ sym (kept_with_next f place)
    ]

pub returns : goal.returns
unfolding kept_rows
returns c =
    let all : c.loop-place.place ≡ 496 = omega (arith, c.loop-place-test.false, c.loop-place.auto.place-end) in
    c.loop-place.invariant ∙ ap (λ n. filter_map (row_at c.args.sittings.now) (range_with_len 0 n)) all
