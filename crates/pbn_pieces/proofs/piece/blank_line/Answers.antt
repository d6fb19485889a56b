use Rattle.std.proofs.Common.{true, false}
use Rattle.pbn_pieces.proofs.PieceLemmas.{
  blank_of,
  no_blank_of,
  end_feed,
  end_return,
  no_end,
  no_end_return,
  some_of,
  none_of,
}
use Rattle.pbn_pieces.proofs.piece.blank_line.Goals as goal

pub returns-in-Some-clause-line : goal.returns-in-Some-clause-line
returns-in-Some-clause-line c = (
  c.split_off.result.0.now,
  false,
  blank_of c.args.text.now _ _ _ false c.split_off.ensures
      (end_feed c.split_off.result.1.now _ c.in-Some.ensures),
)

pub returns-in-None-clause-none : goal.returns-in-None-clause-none
returns-in-None-clause-none c =
    no_blank_of c.args.text.now _ _ c.split_off.ensures (no_end c.split_off.result.1.now c.in_default.ensures
    c.in-None.ensures)

pub returns-in-Some-after_byte-clause-line : goal.returns-in-Some-after_byte-clause-line
returns-in-Some-after_byte-clause-line c =
    some_of c.after_byte-in-Some-after_byte.result _ _ _
    (λ rest e. (
      c.split_off.result.0.now,
      true,
      blank_of c.args.text.now _ _ _ true c.split_off.ensures
          (end_return c.split_off.result.1.now _ _ c.in-Some-after_byte.ensures e),
    ))
    c.after_byte-in-Some-after_byte.ensures

pub returns-in-Some-after_byte-clause-none : goal.returns-in-Some-after_byte-clause-none
returns-in-Some-after_byte-clause-none c =
    none_of c.after_byte-in-Some-after_byte.result _ _ _
    (λ e. no_blank_of c.args.text.now _ _ c.split_off.ensures
    (no_end_return c.split_off.result.1.now _ c.in_default.ensures c.in-Some-after_byte.ensures e))
    c.after_byte-in-Some-after_byte.ensures
