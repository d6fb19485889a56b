use Rattle.std.proofs.Common.{◌≡◌, ◌+◌, ◌-◌, ◌<◌, ◌++◌, ◌∷◌, [], map, length, take, Some, sym, subst, ap, ◌∙◌, arith}
use Rattle.std.specs.Prelude.{slice_get}
use Rattle.std.proofs.lemmas.List.{map_more}
use Rattle.movement.specs.Movement.{boards_of}
use Rattle.pbn_records.specs.declared.board.Board.{Board}
use Rattle.session_opening.proofs.OpeningLemmas.{given_at, one_on, below_all}
use Rattle.session_opening.proofs.opening.deals.Goals as goal

pub loop-place-preserved : goal.loop-place-preserved
loop-place-preserved c =
    let boards = c.args.config.now.boards in
    let place = c.loop-place.place in
    let test = subst (λ n. place < n) c.boards-boards.ensures.boards c.loop-place-test.true in
    let within : place < length boards = below_all place (boards_of c.args.config.now.movement) (length boards) test
    c.requires in
    let given = given_at boards place within in
    let here : slice_get boards (place + 1 - 1) ≡ Some given.0 = ap (slice_get boards) (one_on place) ∙ given.1 in
    record {
      items = c.put_item.ensures.items
          ∙ (λ i. c.loop-place.invariant.items i ++ c.deal.ensures given.0 here i ∷ [])
          ∙ ap (λ (board : Board). map (λ (board : Board). board.deal) (take place boards) ++ board.deal ∷ [])
          (sym given.2)
          ∙ sym (map_more (λ (board : Board). board.deal) boards place given.0 within);
      counted = c.put_item.ensures.len ∙ ap (λ n. n + 1) c.loop-place.invariant.counted;
      room = omega (arith, c.loop-place.invariant.room, c.put_item.ensures.capacity);
    }
