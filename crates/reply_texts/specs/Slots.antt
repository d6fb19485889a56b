-- Members of an object of which some may be left out.
use Rattle.std.specs.Prelude.{ℕ, Option, Some, None, List, [], ◌∷◌}
use Rattle.serde_json.specs.Data.{Data, Members, no_members, member, put}

-- a place for a member: its name, and what stands there, or nothing where it is left out
pub record Slot : Type 0 where
  pub name : List ℕ
  pub value : Option Data

-- a member that is always there
abbrev pub always : List ℕ → Data → Slot
always name d = record { name = name; value = Some d }

-- a member that may be left out
abbrev pub perhaps : List ℕ → Option Data → Slot
perhaps name o = record { name = name; value = o }

-- a member, if it isn't left out, before the others
abbrev pub with_slot : List ℕ → Option Data → Members → Members
with_slot name None others = others
with_slot name (Some d) others = member name d others

-- the members that aren't left out, in this order
abbrev pub members_of : List Slot → Members
members_of [] = no_members
members_of (slot ∷ slots) = with_slot slot.name slot.value (members_of slots)

-- ---- for private clauses

-- a member, if it isn't left out, put in its place among others
abbrev pub put_slot : List ℕ → Option Data → Members → Members
put_slot name None members = members
put_slot name (Some d) members = put name d members

-- each of them, one after another
abbrev pub put_slots : List Slot → Members → Members
put_slots [] members = members
put_slots (slot ∷ slots) members = put_slots slots (put_slot slot.name slot.value members)
