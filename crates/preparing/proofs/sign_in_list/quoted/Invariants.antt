use Rattle.std.proofs.Common.{◌≡◌, ◌++◌, codes, string_bytes}
use Rattle.preparing.specs.SignInList.{quoted_signs}
use Rattle.preparing.proofs.sign_in_list.quoted.Given as goal

abbrev pub invariant-loop-sign : goal.invariant-loop-sign
invariant-loop-sign l = string_bytes l.field ≡ codes "\"" ++ quoted_signs l.yielded
