use Rattle.std.proofs.Common.{sym, subst}
use Rattle.pbn_pieces.specs.Told.{Uncut, Takes}
use Rattle.pbn_pieces.proofs.WalkLemmas.{closes_on}
use Rattle.pbn_pieces.proofs.pieces.Pieces.next_piece.Goals as goal

pub invariant_of-self-2 : goal.invariant_of-self-2
invariant_of-self-2 c = closes_on _ _ _ _ _ c.in-Some.ensures.piece c.next_piece.ensures.unclosed

pub returns-clause-piece : goal.returns-clause-piece
returns-clause-piece c =
    let cuts = c.in-Some.ensures.piece in
    let new : Uncut = record { starting = c.ends_line-self-inside.result; rest = c.in-Some.rest.now } in
    subst (λ (old : Uncut). Takes old c.in-Some.found new) c.self.view_is
    (record { cuts = cuts; starts = sym (c.ends_line-self-inside.ensures cuts.piece cuts.shown) })
