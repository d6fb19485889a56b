-- Numbers, and lists of them, as JSON.
use Rattle.std.specs.Prelude.{ℕ, List, map}
use Rattle.serde_json.specs.Data.{Data, number, unsigned, array}
use Rattle.serde_json.specs.View.{items_of}

-- a whole number
abbrev pub written_number : ℕ → Data
written_number n = number (unsigned n)

-- numbers, one after another
abbrev pub numbers_data : List ℕ → Data
numbers_data ns = array (items_of (map written_number ns))
