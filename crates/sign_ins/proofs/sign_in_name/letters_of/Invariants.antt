use Rattle.std.proofs.Common.{◌≡◌, [], length, drop, chars, string_bytes}
use Rattle.sign_ins.proofs.WordLemmas.{letters_behind}
use Rattle.sign_ins.proofs.sign_in_name.letters_of.Given as goal

abbrev pub invariant-loop-sign : goal.invariant-loop-sign
invariant-loop-sign l =
    letters_behind (string_bytes l.letters) (drop (length l.yielded) (chars l.plain)) ≡ letters_behind [] (chars l.plain)
