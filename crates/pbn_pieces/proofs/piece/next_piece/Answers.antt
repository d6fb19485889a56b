use Rattle.std.proofs.Common.{sym, ◌∙◌}
use Rattle.std.proofs.lemmas.Bool.{true≢false}
use Rattle.pbn_pieces.proofs.PieceLemmas.{cuts_blank, cuts_front}
use Rattle.pbn_pieces.proofs.piece.next_piece.Goals as goal
use Rattle.pbn_pieces.proofs.piece.next_piece.Goals.{then-starting+in_default, else-starting}

pub returns-in-Some-clause-piece : goal.returns-in-Some-clause-piece
returns-in-Some-clause-piece c =
    let line = c.in-Some.ensures.line in
    cuts_blank _ _ _ line.0 line.1 c.if-starting.true line.2

pub returns-clause-piece : goal.returns-clause-piece
returns-clause-piece c =
    cuts_front _ _ _ _ c.in-len1-up.len_at_least
    (λ starts. elim c.if-starting.branch [
      | then-starting+in_default w ↦ w.in_default.ensures.none
      | else-starting w ↦ absurd (true≢false (sym starts ∙ w.if-starting.false))
    ])
    c.piece_from.ensures.piece
