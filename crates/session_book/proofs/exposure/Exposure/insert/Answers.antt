use Rattle.std.proofs.Common.{◌<◌, [], length, ap, ◌∙◌, arith}
use Rattle.std.specs.Prelude.{◌||◌, slice_set}
use Rattle.std.proofs.lemmas.List.{get_or_default}
use Rattle.movement.specs.Movement.{most_boards}
use Rattle.small_sets.specs.Numbers.{with_number}
use Rattle.session_book.specs.ExposureTable.{is_noted, one_board}
use Rattle.session_book.proofs.ExposureTableLemmas.{noted_set}
use Rattle.session_book.proofs.exposure.Exposure.insert.Goals as goal

pub returns : goal.returns
returns c p b from to =
    let table = c.self.inside.boards.items in
    let below : c.args.place < length table = omega (
      arith,
      c.self.inside.boards.ok.0,
      c.self.invariant,
      c.requires.place,
    ) in
    let read = c.index_mut.ensures.value ∙ get_or_default table c.args.place c.index_mut.result.now [] below in
    ap (λ row. is_noted (slice_set table c.args.place row) p b)
    (c.insert.ensures ∙ ap (λ row. with_number most_boards row c.args.board) read)
    ∙ noted_set table c.args.place c.args.board p b below from to
    ∙ ap (λ table. is_noted table p b || one_board c.args.place c.args.board p b) c.self.view_is
