use Rattle.std.proofs.Common.{◌≡◌, ◌+◌, ◌-◌, ◌<◌, length, take, Some, sym, subst, ap, ◌∙◌}
use Rattle.std.specs.Prelude.{slice_get, slice_set}
use Rattle.movement.specs.Movement.{boards_of, most_boards}
use Rattle.session_opening.specs.Opening.{marks_of, opening_marks}
use Rattle.session_opening.proofs.OpeningLemmas.{given_at, one_on, below_all, marks_more}
use Rattle.session_opening.proofs.opening.marks.Goals as goal

pub loop-place-preserved : goal.loop-place-preserved
loop-place-preserved c =
    let boards = c.args.config.now.boards in
    let place = c.loop-place.place in
    let test = subst (λ n. place < n) c.boards-place-end.ensures.boards c.loop-place-test.true in
    let within : place < length boards = below_all place (boards_of c.args.config.now.movement) (length boards) test
    c.requires in
    let below : place < most_boards = below_all place (boards_of c.args.config.now.movement) most_boards test
    c.boards-place-end.ensures.section.not_too_many_boards in
    let given = given_at boards place within in
    let here : slice_get boards (place + 1 - 1) ≡ Some given.0 = ap (slice_get boards) (one_on place) ∙ given.1 in
    (λ i. slice_set (c.loop-place.invariant i) place (record {
      dealer = c.dealer.ensures given.0 here i;
      vulnerability =
          c.vulnerability.ensures given.0 here i;
    }))
    ∙ ap (λ board. slice_set (opening_marks (take place boards)) place (marks_of board)) (sym given.2)
    ∙ marks_more boards place given.0 within below
