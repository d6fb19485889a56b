use Rattle.std.proofs.Common.{◌≡◌, take}
use Rattle.std.specs.Prelude.{string_bytes}
use Rattle.cards.specs.HandText.{held_letters}
use Rattle.report_texts.proofs.hands.held_letters.Given as goal

-- the letters of the ranks so far
abbrev pub invariant-loop-rank : goal.invariant-loop-rank
invariant-loop-rank l = string_bytes l.letters ≡ held_letters l.hand l.suit (take l.rank-index l.rank-items)
