use Rattle.std.proofs.Common.{sym, refl}
use Rattle.pbn_pieces.specs.Cutting.{tag_at}
use Rattle.pbn_pieces.proofs.tag_text.tag.Goals as goal

pub returns-in-Some-after_byte-2 : goal.returns-in-Some-after_byte-2
unfolding tag_at
returns-in-Some-after_byte-2 c = (
  record {
    before = c.split_off.result.0.now;
    name = c.in-Some.name.now;
    between = c.split_off-2.result.0.now;
    value =
        c.in-Some-quoted.value.now;
    after = c.split_off-3.result.0.now;
  },
  rw (sym c.split_off.ensures)
      (rw c.in-Some.ensures
      (rw (sym c.split_off-2.ensures)
      (rw c.in-Some-after_byte.ensures
      (rw c.in-Some-quoted.ensures (rw (sym c.split_off-3.ensures) (rw c.in-Some-after_byte-2.ensures refl)))))),
  refl,
  refl,
)
