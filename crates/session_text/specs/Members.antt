-- The members of an object, of which some may be left out.
use Rattle.std.specs.Prelude.{ℕ, List, [], ◌∷◌, Option, Some, None}
use Rattle.serde_json.specs.Data.{Data, Members, no_members, put, object}

-- the members with one more at its place in the order of names, or without it where there is no value for it
abbrev pub put_if_there : List ℕ → Option Data → Members → Members
put_if_there name None members = members
put_if_there name (Some d) members = put name d members

-- members with others, one after another
abbrev pub put_all : Members → List (List ℕ × Option Data) → Members
put_all members [] = members
put_all members (row ∷ rows) = put_all (put_if_there row.0 row.1 members) rows

-- the object that has these members, but for those without a value
abbrev pub object_with : List (List ℕ × Option Data) → Data
object_with rows = object (put_all no_members rows)
