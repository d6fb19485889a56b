-- Numbers, lists and what may be absent, as JSON.
use Rattle.std.specs.Prelude.{ℕ, List, map, Option, Some, None}
use Rattle.serde_json.specs.Data.{Data, null, number, unsigned, array}
use Rattle.serde_json.specs.View.{items_of}

abbrev pub number_data : ℕ → Data
number_data n = number (unsigned n)

-- a list, with what each element is written as
abbrev pub list_data : {A : Type 0} → (A → Data) → List A → Data
list_data data_of xs = array (items_of (map data_of xs))

-- what is absent is null
abbrev pub option_data : {A : Type 0} → (A → Data) → Option A → Data
option_data data_of None = null
option_data data_of (Some x) = data_of x
