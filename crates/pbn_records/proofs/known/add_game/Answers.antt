use Rattle.std.proofs.Common.{sym, ◌∙◌}
use Rattle.std.specs.Prelude.{Some, None}
use Rattle.pbn_records.specs.Shown.{values_read}
use Rattle.pbn_records.proofs.KnownLemmas.{
  game_finds,
  game_fault,
  knows_ignored,
  knows_again,
  knows_new,
  from_one,
  no_fault_at_first,
  none_of_some,
}
use Rattle.pbn_records.proofs.known.add_game.Goals as goal

pub returns-in-Some-clause-fault : goal.returns-in-Some-clause-fault
returns-in-Some-clause-fault c = λ games knows.
    game_fault c.args.boards games (values_read c.args.values.now) c.in-Some.fault _ c.error.ensures
    (game_finds c.args.boards games c.args.known.now (values_read c.args.values.now) c.game_board-board.result
    c.known_board-earlier.result
    (Some c.in-Some.fault) c.game_board-board.ensures c.known_board-earlier.ensures.some
    c.known_board-earlier.ensures.none c.in-Some.ensures knows)

pub returns-in_default-board-clause-known : goal.returns-in_default-board-clause-known
returns-in_default-board-clause-known c = λ games knows.
    knows_ignored c.args.boards games c.args.known.now (values_read c.args.values.now) (sym c.in_default-board.ensures)
    knows

pub returns-in_default-board-clause-faultless : goal.returns-in_default-board-clause-faultless
returns-in_default-board-clause-faultless c = λ games knows.
    game_finds c.args.boards games c.args.known.now (values_read c.args.values.now) c.game_board-board.result
    c.known_board-earlier.result
    None c.game_board-board.ensures c.known_board-earlier.ensures.some c.known_board-earlier.ensures.none
    c.in_default.ensures knows

pub returns-then-is_some-clause-known : goal.returns-then-is_some-clause-known
returns-then-is_some-clause-known c = λ games knows.
    knows_again c.args.boards games c.args.known.now (values_read c.args.values.now) c.in-Some-board.number
    c.known_board-earlier.result
    c.in-Some-board.ensures (c.known_board-earlier.ensures.some _ c.in-Some-board.is)
    (sym c.is_some.ensures ∙ c.if-is_some.true) knows

pub returns-then-is_some-clause-faultless : goal.returns-then-is_some-clause-faultless
returns-then-is_some-clause-faultless c = λ games knows.
    game_finds c.args.boards games c.args.known.now (values_read c.args.values.now) c.game_board-board.result
    c.known_board-earlier.result
    None c.game_board-board.ensures c.known_board-earlier.ensures.some c.known_board-earlier.ensures.none
    c.in_default.ensures knows

pub board_in-requires : goal.board_in-requires
board_in-requires c = from_one c.args.boards c.in-Some-board.number (values_read c.args.values.now)
    c.in-Some-board.ensures

pub returns-in_default-board_in-clause-known : goal.returns-in_default-board_in-clause-known
returns-in_default-board_in-clause-known c = λ games knows.
    absurd (no_fault_at_first c.args.boards c.in-Some-board.number (values_read c.args.values.now)
    c.game_board-board.result c.known_board-earlier.result
    c.in-Some-board.is (none_of_some c.known_board-earlier.result c.is_some.result c.is_some.ensures c.if-is_some.false)
    c.in_default.ensures
    (c.in_default-board_in.ensures.none c.args.boards (sym c.in-Some-board.ensures)))

pub returns-in_default-board_in-clause-faultless : goal.returns-in_default-board_in-clause-faultless
returns-in_default-board_in-clause-faultless c = λ games knows.
    game_finds c.args.boards games c.args.known.now (values_read c.args.values.now) c.game_board-board.result
    c.known_board-earlier.result
    None c.game_board-board.ensures c.known_board-earlier.ensures.some c.known_board-earlier.ensures.none
    c.in_default.ensures knows

pub returns-clause-known : goal.returns-clause-known
returns-clause-known c = λ games knows.
    knows_new c.args.boards games c.args.known.now c.add.new.self (values_read c.args.values.now) c.in-Some-board.number
    c.known_board-earlier.result
    c.in-Some-board_in.read c.in-Some-board.ensures (c.known_board-earlier.ensures.some _ c.in-Some-board.is)
    (none_of_some c.known_board-earlier.result c.is_some.result c.is_some.ensures c.if-is_some.false)
    c.in-Some-board_in.ensures.board c.add.ensures.added c.add.ensures.others knows

pub returns-clause-faultless : goal.returns-clause-faultless
returns-clause-faultless c = λ games knows.
    game_finds c.args.boards games c.args.known.now (values_read c.args.values.now) c.game_board-board.result
    c.known_board-earlier.result
    None c.game_board-board.ensures c.known_board-earlier.ensures.some c.known_board-earlier.ensures.none
    c.in_default.ensures knows
