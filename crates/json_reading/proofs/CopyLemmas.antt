-- Items and members that are copied one after another.
use Rattle.std.proofs.Common.{
  ◌≡◌,
  ◌<◌,
  ◌+◌,
  ℕ,
  zero,
  suc,
  List,
  [],
  ◌∷◌,
  ◌++◌,
  length,
  take,
  get_or,
  map,
  Option,
  Some,
  None,
  option_and_then,
  option_map,
  Bor,
  Global,
  refl,
  ap,
  sym,
  ◌∙◌,
  arith,
}
use Rattle.std.proofs.lemmas.List.{map-append, take_more}
use Rattle.json.specs.declared.value.Value.{Value as Borrowed}
use Rattle.json.specs.Value.{value_view, items_view as borrowed_items, members_view as borrowed_members}
use Rattle.serde_json.specs.Data.{Data, Items, item as an_item, Members, put}
use Rattle.serde_json.specs.Read.{of_json, of_items, of_members}
use Rattle.serde_json.specs.View.{view, items_view}
use Rattle.serde_json.specs.declared.value.Value.{Value}

-- ---- items

-- what each item is
abbrev pub read_each : List (Borrowed Global) → List (Option Data)
read_each items = map (λ item. of_json (value_view item)) items

-- what is there of each copy
abbrev pub seen_each : List Value → List (Option Data)
seen_each copies = map (λ copy. Some (view copy)) copies

-- one more item is copied
pub item_copied : (items : List (Borrowed Global)) (copies : List Value) (i : ℕ) (item : Borrowed Global) (copy : Value)
    → i < length items → item ≡ get_or items i item → read_each (take i items) ≡ seen_each copies
    → of_json (value_view item) ≡ Some (view copy)
    → read_each (take (i + 1) items) ≡ seen_each (copies ++ copy ∷ [])
item_copied items copies i item copy low at same is =
    ap read_each (take_more items i item low ∙ ap (λ x. take i items ++ x ∷ []) (sym at))
    ∙ (map-append (λ x. of_json (value_view x)) (take i items) (item ∷ [])
    ∙ (rw (same, is) (sym (map-append (λ x. Some (view x)) copies (copy ∷ [])))))

pub all_copied : (items : List (Borrowed Global)) (copies : List Value) → read_each items ≡ seen_each copies
    → of_items (borrowed_items items) ≡ Some (items_view copies)
all_copied [] [] same = refl
all_copied [] (copy ∷ copies) same = absurd (grind (arith, same))
all_copied (item ∷ items) [] same = absurd (grind (arith, same))
all_copied (item ∷ items) (copy ∷ copies) same =
    let first : of_json (value_view item) ≡ Some (view copy) = grind (arith, same) in
    let others : read_each items ≡ seen_each copies = grind (arith, same) in
    rw (first, all_copied items copies others) refl

-- what comes of an item, where nothing comes of the others
with_none : (first : Option Data) (others : Option Items) → others ≡ None
    → option_and_then (λ d. option_map (an_item d) others) first ≡ None
with_none None others none = refl
with_none (Some d) others none = rw none refl

-- nothing comes of items of which one is nothing
pub item_refused : (items : List (Borrowed Global)) (i : ℕ) (refused : Borrowed Global) → i < length items
    → refused ≡ get_or items i refused → of_json (value_view refused) ≡ None → of_items (borrowed_items items) ≡ None
item_refused [] i refused low at none = absurd (omega arith)
item_refused (first ∷ items) zero refused low at none = rw (← at, none) refl
item_refused (first ∷ items) (suc i) refused low at none =
    with_none (of_json (value_view first)) (of_items (borrowed_items items))
    (item_refused items i refused (omega arith) at none)

-- ---- members

abbrev pub Member : Type 0
Member = Bor (List ℕ) × Borrowed Global

-- what comes of the first member, where there is one
over_first : (f g : Data → Option Members) (found more : Members) (first : Option Data)
    → ((d : Data) → f d ≡ Some found → g d ≡ Some more) → option_and_then f first ≡ Some found
    → option_and_then g first ≡ Some more
over_first f g found more None goes all = absurd (grind (arith, all))
over_first f g found more (Some d) goes all = goes d all

-- one more member is put with those before it
member_last : (members : List Member) (last : Member) (before found : Members) (d : Data)
    → of_members (borrowed_members members) before ≡ Some found → of_json (value_view last.1) ≡ Some d
    → of_members (borrowed_members (members ++ last ∷ [])) before ≡ Some (put last.0.now d found)
member_last [] last before found d all is =
    let same : before ≡ found = grind (arith, all) in rw (is, same) refl
member_last (member ∷ members) last before found d all is =
    over_first (λ e. of_members (borrowed_members members) (put member.0.now e before))
    (λ e. of_members (borrowed_members (members ++ last ∷ [])) (put member.0.now e before)) found
    (put last.0.now d found) (of_json (value_view member.1))
    (λ e given. member_last members last (put member.0.now e before) found d given is) all

-- one more member is copied
pub member_copied : (members : List Member) (i : ℕ) (member : Member) (before found : Members) (d : Data)
    → i < length members → member ≡ get_or members i member
    → of_members (borrowed_members (take i members)) before ≡ Some found → of_json (value_view member.1) ≡ Some d
    → of_members (borrowed_members (take (i + 1) members)) before ≡ Some (put member.0.now d found)
member_copied members i member before found d low at all is =
    ap (λ ms. of_members (borrowed_members ms) before)
    (take_more members i member low ∙ ap (λ x. take i members ++ x ∷ []) (sym at))
    ∙ member_last (take i members) member before found d all is

over_none : (f : Data → Option Members) (first : Option Data) → ((d : Data) → f d ≡ None)
    → option_and_then f first ≡ None
over_none f None none = refl
over_none f (Some d) none = none d

-- nothing comes of members of which one is nothing
pub member_refused : (members : List Member) (i : ℕ) (refused : Member) (before : Members) → i < length members
    → refused ≡ get_or members i refused → of_json (value_view refused.1) ≡ None
    → of_members (borrowed_members members) before ≡ None
member_refused [] i refused before low at none = absurd (omega arith)
member_refused (first ∷ members) zero refused before low at none = rw (← at, none) refl
member_refused (first ∷ members) (suc i) refused before low at none =
    over_none (λ d. of_members (borrowed_members members) (put first.0.now d before)) (of_json (value_view first.1))
    (λ d. member_refused members i refused (put first.0.now d before) (omega arith) at none)
