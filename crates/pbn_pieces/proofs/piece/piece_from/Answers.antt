use Rattle.std.proofs.Common.{◌≡◌, false}
use Rattle.std.specs.Prelude.{◌==◌, ◌&&◌}
use Rattle.std.proofs.lemmas.Bool.{and_left, and_right, ne_eqb}
use Rattle.pbn_pieces.proofs.PieceLemmas.{cuts_plain}
use Rattle.pbn_pieces.proofs.piece.piece_from.Goals as goal
use Rattle.pbn_pieces.proofs.piece.piece_from.Goals.{
  else-first-eq37-via-then-first-eq37+else-starting,
  else-first-eq37-via-else-first-eq37,
}

pub returns-clause-piece : goal.returns-clause-piece
returns-clause-piece c =
    let no_escape : (c.args.first == 37 && c.args.starting) ≡ false =
    elim c.else-first-eq37.branch [
      | else-first-eq37-via-then-first-eq37+else-starting w ↦ and_right (c.args.first == 37) c.args.starting
          w.if-starting.false
      | else-first-eq37-via-else-first-eq37 w ↦ and_left (c.args.first == 37) c.args.starting
          (ne_eqb c.args.first 37 w.if-first-eq37.false)
    ] in
    cuts_plain c.args.starting c.args.first c.args.after.now c.if-first-eq123.false c.if-first-eq59.false no_escape
    c.if-first-eq34.false c.if-first-eq91.false
