-- own: what happens on a connection on which nobody signs in, from the handshake on.
use Rattle.std.specs.Prelude.{true, false, List, [], ◌∷◌}
use Rattle.hall_terms.specs.Times.{Happening}
use Rattle.hall_terms.specs.declared.client_event.ClientEvent.{ClientEvent}
use Rattle.hall_terms.specs.declared.client_event.ClientEvent.TheVariants.{Accepted, Upgraded, Heard, Waits, Taken}

-- it is no beginning, and nobody signs in by it
abbrev pub SignsNobodyIn : ClientEvent → Type 0
SignsNobodyIn Accepted = ⊥
SignsNobodyIn Upgraded = ⊥
SignsNobodyIn (Heard true) = ⊥
SignsNobodyIn (Heard false) = Unit {0}
SignsNobodyIn Waits = Unit {0}
SignsNobodyIn Taken = Unit {0}

-- none of them is, and nobody does
abbrev pub NobodySignsIn : List Happening → Type 0
NobodySignsIn [] = Unit {0}
NobodySignsIn (now ∷ earlier) = SignsNobodyIn now.event × NobodySignsIn earlier
