use Rattle.std.proofs.Common.{◌≡◌, take, string_bytes}
use Rattle.std.specs.List.{flat_map}
use Rattle.preparing.specs.Guests.{guest_line}
use Rattle.preparing.specs.SignInList.{sign_in_list_text}
use Rattle.preparing.proofs.sign_in_list.sign_in_list.Given as goal

abbrev pub invariant-loop-guest : goal.invariant-loop-guest
invariant-loop-guest l = string_bytes l.list ≡ sign_in_list_text (flat_map guest_line (take l.guest-index l.guests))
