use Rattle.std.proofs.Common.{◌≡◌, take, string_bytes}
use Rattle.sign_ins.specs.Token.{token_text}
use Rattle.sign_ins.proofs.token.letters_of.Given as goal

abbrev pub invariant-loop-place : goal.invariant-loop-place
invariant-loop-place l = string_bytes l.text ≡ token_text (take l.place l.bytes)
