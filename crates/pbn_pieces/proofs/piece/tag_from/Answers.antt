use Rattle.std.proofs.Common.{refl, ap}
use Rattle.pbn_pieces.specs.Pieces.{Tagged, Broken}
use Rattle.pbn_pieces.specs.Cutting.{tagged_at}
use Rattle.pbn_pieces.proofs.piece.tag_from.Goals as goal

pub returns-in-Some : goal.returns-in-Some
returns-in-Some c =
    let tag = c.in-Some.ensures in
    (Tagged tag.0, ap (tagged_at c.args.after.now) tag.1, (tag.0, refl, tag.2, tag.3))

pub returns-in-None : goal.returns-in-None
returns-in-None c = (
  Broken c.args.after.now,
  ap (tagged_at c.args.after.now) c.in-None.ensures,
  (c.args.after.now, refl),
)
