use Rattle.std.proofs.Common.{◌<◌, [], length, ap, ◌∙◌, arith}
use Rattle.std.proofs.lemmas.List.{get_or_default}
use Rattle.small_sets.specs.Numbers.{has_number}
use Rattle.session_book.specs.ExposureTable.{is_noted}
use Rattle.session_book.proofs.exposure.Exposure.contains.Goals as goal

pub returns : goal.returns
returns c =
    let table = c.self.inside.boards.items in
    let below : c.args.place < length table = omega (
      arith,
      c.self.inside.boards.ok.0,
      c.self.invariant,
      c.requires.place,
    ) in
    c.contains.ensures.has
    ∙ ap (λ row. has_number row c.args.board) (c.index.ensures ∙ get_or_default table c.args.place c.index.result.now []
    below)
    ∙ ap (λ table. is_noted table c.args.place c.args.board) c.self.view_is
