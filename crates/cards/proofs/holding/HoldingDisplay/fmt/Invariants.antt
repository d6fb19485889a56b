use Rattle.std.proofs.Common.{take}
use Rattle.std.specs.Fmt.{HasWritten, IsPlainFormatter}
use Rattle.cards.specs.HandText.{held_letters}
use Rattle.cards.proofs.holding.HoldingDisplay.fmt.Given as goal

-- the letters of the ranks so far are written
abbrev pub invariant-loop-rank : goal.invariant-loop-rank
invariant-loop-rank g l =
    IsPlainFormatter l.initial.f → HasWritten g.W.Write.write_str_gives l.initial.f
    (held_letters l.hand l.suit (take l.rank-index l.rank-items)) l.f
