-- Objects of one member.
use Rattle.std.specs.Prelude.{List, Option, Some, None, ℕ}
use Rattle.serde_json.specs.Data.{Data, Members, no_members, member, null, boolean, number, string, array, object}

-- the one member, by its name and its value
abbrev pub sole : Members → Option (List ℕ × Data)
sole no_members = None
sole (member name d no_members) = Some (name, d)
sole (member name d (member other e ms)) = None

-- the one member of an object
abbrev pub sole_member : Data → Option (List ℕ × Data)
sole_member null = None
sole_member (boolean b) = None
sole_member (number n) = None
sole_member (string s) = None
sole_member (array ds) = None
sole_member (object ms) = sole ms
