-- Members that are put in the order of their names stand in that order.
use Rattle.std.proofs.Common.{◌≡◌, ℕ, Bool, true, false, List, [], ◌∷◌, ◌++◌, refl, ap, ◌∙◌}
use Rattle.std.proofs.lemmas.List.{append_assoc}
use Rattle.std.specs.Prelude.{Option, Some, None, ◌&&◌}
use Rattle.std.specs.Cmp.Lexicographic.{slice_cmp}
use Rattle.std.specs.declared.cmp.Ordering.{Ordering}
use Rattle.std.specs.declared.cmp.Ordering.TheVariants.{Less, Equal, Greater}
use Rattle.std.specs.Ordering.{nat_cmp, match_ordering}
use Rattle.serde_json.specs.Data.{Data, Members, no_members, member, put}
use Rattle.json_fields.proofs.FormLemmas.{both_true}
use Rattle.reply_texts.specs.Slots.{Slot, with_slot, members_of, put_slot, put_slots}

abbrev is_greater : Ordering → Bool
is_greater Less = false
is_greater Equal = false
is_greater Greater = true

greater : (o : Ordering) → is_greater o ≡ true → o ≡ Greater
greater Less h = absurd (cc)
greater Equal h = absurd (cc)
greater Greater h = refl

-- the name comes after those of the slots
abbrev is_after : List ℕ → List Slot → Bool
is_after name [] = true
is_after name (slot ∷ slots) = is_greater (slice_cmp nat_cmp name slot.name) && is_after name slots

-- the slots' names ascend, and come after those of others
abbrev pub are_ascending : List Slot → List Slot → Bool
are_ascending before [] = true
are_ascending before (slot ∷ slots) = is_after slot.name before && are_ascending (before ++ slot ∷ []) slots

-- a slot is put behind another one
behind : (name other : List ℕ) (o e : Option Data) (ms : Members) → slice_cmp nat_cmp name other ≡ Greater →
    put_slot name o (with_slot other e ms) ≡ with_slot other e (put_slot name o ms)
behind name other None e ms greater_is = refl
behind name other (Some d) None ms greater_is = refl
behind name other (Some d) (Some x) ms greater_is =
    ap (λ order. match_ordering order (member name d (member other x ms)) (member other d ms)
    (member other x (put name d ms))) greater_is

alone : (name : List ℕ) (o : Option Data) → put_slot name o no_members ≡ with_slot name o no_members
alone name None = refl
alone name (Some d) = refl

-- a slot whose name comes after all others stands last
at_the_end : (slots : List Slot) (slot : Slot) → is_after slot.name slots ≡ true →
    put_slot slot.name slot.value (members_of slots) ≡ members_of (slots ++ slot ∷ [])
at_the_end [] slot after = alone slot.name slot.value
at_the_end (first ∷ slots) slot after =
    let both = both_true (is_greater (slice_cmp nat_cmp slot.name first.name)) (is_after slot.name slots) after in
    behind slot.name first.name slot.value first.value (members_of slots) (greater _ both.0)
    ∙ ap (with_slot first.name first.value) (at_the_end slots slot both.1)

pub in_order : (before slots : List Slot) → are_ascending before slots ≡ true →
    put_slots slots (members_of before) ≡ members_of (before ++ slots)
in_order before [] ascending = ap members_of (sym_nil before)
  where
    sym_nil : (xs : List Slot) → xs ≡ xs ++ []
    sym_nil [] = refl
    sym_nil (x ∷ xs) = ap (λ rest. x ∷ rest) (sym_nil xs)
in_order before (slot ∷ slots) ascending =
    let both = both_true (is_after slot.name before) (are_ascending (before ++ slot ∷ []) slots) ascending in
    ap (put_slots slots) (at_the_end before slot both.0)
    ∙ (in_order (before ++ slot ∷ []) slots both.1 ∙ ap members_of (append_assoc before (slot ∷ []) slots))
