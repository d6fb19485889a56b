-- What an object of such members has at each name, which names it has, and what holds of all that stands in it.
use Rattle.std.proofs.Common.{
  ◌≡◌,
  ◌≤◌,
  ◌+◌,
  ℕ,
  Bool,
  true,
  false,
  ◌&&◌,
  ◌||◌,
  cond,
  if◌then◌else◌,
  List,
  [],
  ◌∷◌,
  Option,
  Some,
  None,
  is_none,
  Ordering,
  Less,
  Equal,
  Greater,
  nat_cmp,
  refl,
  sym,
  ap,
  subst,
  ◌∙◌,
  arith,
}
use Rattle.std.specs.List.{list_any}
use Rattle.std.specs.Str.{bytes_eq}
use Rattle.std.specs.Ordering.{match_ordering}
use Rattle.std.specs.Cmp.Lexicographic.{slice_cmp}
use Rattle.std.proofs.lemmas.Slice.Eq.{bytes_eq-Decides}
use Rattle.serde_json.specs.Data.{Data, Members, no_members, member, put, depth, members_depth}
use Rattle.serde_json.specs.Written.{has_float, members_have_float}
use Rattle.serde_json.specs.Find.{get_member, get}
use Rattle.serde_json.proofs.Views.{get_member-put, get_member-put_other}
use Rattle.json_fields.specs.Form.{names_are, has_only}
use Rattle.session_text.specs.Members.{put_if_there, put_all, object_with}

-- ---- what stands at a name

-- what is put there, or else what stood there
abbrev pub or_else : Option Data → Option Data → Option Data
or_else None before = before
or_else (Some d) before = Some d

-- what the rows leave at a name where this stood before
abbrev pub left_at : List ℕ → List (List ℕ × Option Data) → Option Data → Option Data
left_at name [] before = before
left_at name (row ∷ rows) before = left_at name rows (if bytes_eq row.0 name then or_else row.1 before else before)

pub or_none : (o : Option Data) → or_else o None ≡ o
or_none None = refl
or_none (Some d) = refl

unequal : (name key : List ℕ) → bytes_eq key name ≡ false → name ≡ key → ⊥
unequal name key is same =
    let also : bytes_eq key name ≡ true = (bytes_eq-Decides key name).1 (sym same) in absurd (cc (is, also))

one_put : (name key : List ℕ) (o : Option Data) (ms : Members) (same : Bool) → bytes_eq key name ≡ same
    → get_member name (put_if_there key o ms)
    ≡ cond same (or_else o (get_member name ms)) (get_member name ms)
one_put name key None ms true is = refl
one_put name key None ms false is = refl
one_put name key (Some d) ms true is =
    subst (λ k. get_member name (put k d ms) ≡ Some d) (sym ((bytes_eq-Decides key name).0 is))
    (get_member-put name d ms)
one_put name key (Some d) ms false is = get_member-put_other name key d ms (unequal name key is)

all_put : (name : List ℕ) (rows : List (List ℕ × Option Data)) (ms : Members)
    → get_member name (put_all ms rows) ≡ left_at name rows (get_member name ms)
all_put name [] ms = refl
all_put name (row ∷ rows) ms =
    all_put name rows (put_if_there row.0 row.1 ms)
    ∙ ap (left_at name rows) (one_put name row.0 row.1 ms _ refl)

-- what an object has at a name
pub stands : (name : List ℕ) (rows : List (List ℕ × Option Data))
    → get name (object_with rows) ≡ left_at name rows None
stands name rows = all_put name rows no_members

-- ---- what holds of members that are put one after another

by_order : (P : Members → Type 0) (o : Ordering) (a b c : Members) → P a → P b → P c → P (match_ordering o a b c)
by_order P Less a b c is_a is_b is_c = is_a
by_order P Equal a b c is_a is_b is_c = is_b
by_order P Greater a b c is_a is_b is_c = is_c

-- ---- names

abbrev is_listed : List (List ℕ) → List ℕ → Bool
is_listed listed name = list_any (λ other. bytes_eq other name) listed

-- the name of each row that has a value is listed
abbrev pub rows_listed : List (List ℕ) → List (List ℕ × Option Data) → Bool
rows_listed listed [] = true
rows_listed listed (row ∷ rows) = (is_listed listed row.0 || is_none row.1) && rows_listed listed rows

and_true : (a b : Bool) → a ≡ true → b ≡ true → (a && b) ≡ true
and_true true b is also = also
and_true false b is also = absurd (cc)

first_true : (a b : Bool) → (a && b) ≡ true → a ≡ true
first_true true b h = refl
first_true false b h = absurd (cc)

second_true : (a b : Bool) → (a && b) ≡ true → b ≡ true
second_true true b h = h
second_true false b h = absurd (cc)

names_put : (listed : List (List ℕ)) (key : List ℕ) (d : Data) (ms : Members) → is_listed listed key ≡ true
    → names_are listed ms ≡ true → names_are listed (put key d ms) ≡ true
names_put listed key d no_members is are = and_true _ _ is refl
names_put listed key d (member l e ms) is are =
    by_order (λ ms. names_are listed ms ≡ true) (slice_cmp nat_cmp key l) _ _ _
    (and_true _ _ is are) are
    (and_true _ _ (first_true (is_listed listed l) (names_are listed ms) are)
    (names_put listed key d ms is (second_true (is_listed listed l) (names_are listed ms) are)))

or_true : (a : Bool) → (a || false) ≡ true → a ≡ true
or_true true h = refl
or_true false h = absurd (cc)

names_put_if : (listed : List (List ℕ)) (key : List ℕ) (o : Option Data) (ms : Members)
    → (is_listed listed key || is_none o) ≡ true → names_are listed ms ≡ true
    → names_are listed (put_if_there key o ms) ≡ true
names_put_if listed key None ms is are = are
names_put_if listed key (Some d) ms is are = names_put listed key d ms (or_true (is_listed listed key) is) are

names_all : (listed : List (List ℕ)) (rows : List (List ℕ × Option Data)) (ms : Members)
    → rows_listed listed rows ≡ true → names_are listed ms ≡ true
    → names_are listed (put_all ms rows) ≡ true
names_all listed [] ms is are = are
names_all listed (row ∷ rows) ms is are =
    names_all listed rows (put_if_there row.0 row.1 ms)
    (second_true (is_listed listed row.0 || is_none row.1) (rows_listed listed rows) is)
    (names_put_if listed row.0 row.1 ms
    (first_true (is_listed listed row.0 || is_none row.1) (rows_listed listed rows) is) are)

-- an object has no other names than those of its rows
pub only_listed : (listed : List (List ℕ)) (rows : List (List ℕ × Option Data)) → rows_listed listed rows ≡ true
    → has_only listed (object_with rows) ≡ true
only_listed listed rows is = names_all listed rows no_members is refl

-- ---- how deep it nests

-- a value that may not be there nests so deep at most
abbrev pub IsShallow : ℕ → Option Data → Type 0
IsShallow most None = Unit {0}
IsShallow most (Some d) = depth d ≤ most

-- each row's value does
abbrev pub AreShallow : ℕ → List (List ℕ × Option Data) → Type 0
AreShallow most [] = Unit {0}
AreShallow most (row ∷ rows) = IsShallow most row.1 × AreShallow most rows

put_shallow : (most : ℕ) (key : List ℕ) (d : Data) (ms : Members) → depth d ≤ most → members_depth ms ≤ most
    → members_depth (put key d ms) ≤ most
put_shallow most key d no_members is are = omega (arith, is)
put_shallow most key d (member l e ms) is are =
    by_order (λ ms. members_depth ms ≤ most) (slice_cmp nat_cmp key l) _ _ _
    (omega (arith, is, are)) (omega (arith, is, are))
    (let rest = put_shallow most key d ms is (omega (arith, are)) in omega (arith, rest, are))

put_if_shallow : (most : ℕ) (key : List ℕ) (o : Option Data) (ms : Members) → IsShallow most o
    → members_depth ms ≤ most → members_depth (put_if_there key o ms) ≤ most
put_if_shallow most key None ms is are = are
put_if_shallow most key (Some d) ms is are = put_shallow most key d ms is are

all_shallow : (most : ℕ) (rows : List (List ℕ × Option Data)) (ms : Members) → AreShallow most rows
    → members_depth ms ≤ most → members_depth (put_all ms rows) ≤ most
all_shallow most [] ms is are = are
all_shallow most (row ∷ rows) ms is are =
    all_shallow most rows (put_if_there row.0 row.1 ms) is.1 (put_if_shallow most row.0 row.1 ms is.0 are)

pub object_shallow : (most : ℕ) (rows : List (List ℕ × Option Data)) → AreShallow most rows
    → depth (object_with rows) ≤ most + 1
object_shallow most rows is =
    let few = all_shallow most rows no_members is (omega arith) in omega (arith, few)

-- ---- its numbers are whole

abbrev pub IsWhole : Option Data → Type 0
IsWhole None = Unit {0}
IsWhole (Some d) = has_float d ≡ false

abbrev pub AreWhole : List (List ℕ × Option Data) → Type 0
AreWhole [] = Unit {0}
AreWhole (row ∷ rows) = IsWhole row.1 × AreWhole rows

or_false : (a b : Bool) → a ≡ false → b ≡ false → (a || b) ≡ false
or_false true b is also = absurd (cc)
or_false false b is also = also

first_false : (a b : Bool) → (a || b) ≡ false → a ≡ false
first_false true b h = absurd (cc)
first_false false b h = refl

second_false : (a b : Bool) → (a || b) ≡ false → b ≡ false
second_false true b h = absurd (cc)
second_false false b h = h

put_whole : (key : List ℕ) (d : Data) (ms : Members) → has_float d ≡ false → members_have_float ms ≡ false
    → members_have_float (put key d ms) ≡ false
put_whole key d no_members is are = or_false _ _ is refl
put_whole key d (member l e ms) is are =
    by_order (λ ms. members_have_float ms ≡ false) (slice_cmp nat_cmp key l) _ _ _
    (or_false _ _ is are)
    (or_false _ _ is (second_false (has_float e) (members_have_float ms) are))
    (or_false _ _ (first_false (has_float e) (members_have_float ms) are)
    (put_whole key d ms is (second_false (has_float e) (members_have_float ms) are)))

put_if_whole : (key : List ℕ) (o : Option Data) (ms : Members) → IsWhole o → members_have_float ms ≡ false
    → members_have_float (put_if_there key o ms) ≡ false
put_if_whole key None ms is are = are
put_if_whole key (Some d) ms is are = put_whole key d ms is are

all_whole : (rows : List (List ℕ × Option Data)) (ms : Members) → AreWhole rows
    → members_have_float ms ≡ false → members_have_float (put_all ms rows) ≡ false
all_whole [] ms is are = are
all_whole (row ∷ rows) ms is are =
    all_whole rows (put_if_there row.0 row.1 ms) is.1 (put_if_whole row.0 row.1 ms is.0 are)

pub object_whole : (rows : List (List ℕ × Option Data)) → AreWhole rows → has_float (object_with rows) ≡ false
object_whole rows is = all_whole rows no_members is refl
