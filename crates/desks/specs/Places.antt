-- The places of desks, and the count of what desks enter: it is cut into a part for each desk, and one that no desk has.
use Rattle.std.specs.Prelude.{◌≡◌, ℕ, ◌+◌}
use Rattle.desks.specs.declared.desk_places.TheConstants.{MOST_DESKS}

-- how many places for desks a server has
abbrev pub most_desks : ℕ
most_desks = MOST_DESKS

-- a new count is that of the server which has this name for it and cuts it into so many parts
abbrev pub IsTallyOf : ℕ → ℕ → ℕ → ℕ → Type 0
IsTallyOf name parts tally_name tally_parts =
    (tally_name ≡ name) × (tally_parts ≡ parts) × (parts ≡ most_desks + 1)
