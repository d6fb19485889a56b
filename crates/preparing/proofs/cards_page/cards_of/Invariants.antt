use Rattle.std.proofs.Common.{◌≡◌, take, string_bytes}
use Rattle.std.specs.List.{flat_map}
use Rattle.preparing.specs.Guests.{guest_card}
use Rattle.preparing.proofs.cards_page.cards_of.Given as goal

abbrev pub invariant-loop-guest : goal.invariant-loop-guest
invariant-loop-guest l = string_bytes l.cards ≡ flat_map (guest_card l.address) (take l.guest-index l.guests)
