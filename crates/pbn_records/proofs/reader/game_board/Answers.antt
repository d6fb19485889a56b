use Rattle.std.proofs.Common.{sym, ap, ◌∙◌}
use Rattle.pbn_records.specs.Shown.{as_written, as_read, values_read}
use Rattle.pbn_records.proofs.ReaderLemmas.{board_of_tags}
use Rattle.pbn_records.proofs.reader.game_board.Goals as goal

pub returns : goal.returns
returns c =
    c.number_within.ensures c.in-Some-board.board.value.now c.in-Some-board.board.numbered
    ∙ sym (board_of_tags c.args.boards (values_read c.args.values.now)
    (record { offset = c.in-Some.deal.offset; value = c.in-Some.deal.value.now })
    (record { offset = c.in-Some-board.board.offset; value = c.in-Some-board.board.value.now })
    (ap (λ tag. as_read (as_written tag)) c.in-Some.is) (ap (λ tag. as_read (as_written tag)) c.in-Some-board.is)
    (sym c.is_open.ensures ∙ c.if-is_open.false))
