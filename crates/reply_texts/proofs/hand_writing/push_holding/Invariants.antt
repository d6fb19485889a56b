use Rattle.std.proofs.Common.{◌≡◌, ◌++◌, take, string_bytes}
use Rattle.cards.specs.HandText.{held_letters}
use Rattle.reply_texts.proofs.hand_writing.push_holding.Given as goal

-- the letters of the ranks so far stand behind the text
abbrev pub invariant-loop-rank : goal.invariant-loop-rank
invariant-loop-rank l =
    string_bytes l.text ≡ string_bytes l.initial.text ++ held_letters l.hand l.suit (take l.rank-index l.rank-items)
