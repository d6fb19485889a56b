-- What is read of a member, of a form and of a list is what it is, and the other way round.
use Rattle.std.proofs.Common.{
  ◌≡◌,
  ℕ,
  zero,
  suc,
  ◌<◌,
  ◌≤◌,
  List,
  [],
  ◌∷◌,
  length,
  nat_lt,
  nat_le,
  Bool,
  true,
  false,
  cond,
  ◌&&◌,
  Option,
  Some,
  None,
  option_map,
  option_and_then,
  refl,
  sym,
  ap,
  subst,
  ◌∙◌,
  arith,
}
use Rattle.std.proofs.lemmas.Option.{same_Some}
use Rattle.serde_json.specs.Data.{Data, Items, no_items, item}
use Rattle.serde_json.specs.Find.{get}
use Rattle.scoring.specs.declared.doubling.Doubling.{Doubling}
use Rattle.scoring.specs.declared.doubling.Doubling.TheVariants.{Undoubled, Doubled, Redoubled}
use Rattle.scoring.specs.Doubling.{times_doubled}
use Rattle.user_names.specs.declared.name.TheConstants.Name.{MOST}
use Rattle.json_fields.specs.Form.{
  Member,
  Form,
  read_if_there,
  IsIfThere,
  if_there,
  read_or_else,
  IsOrElse,
  or_else,
  applied,
  form,
  ◌with◌,
  formed,
  HasForm,
  item_count,
  first_then,
  each,
  AreEach,
}
use Rattle.json_fields.specs.Field.{
  text,
  number,
  below_256,
  small,
  numbered,
  short_name,
  passing,
  tested,
  named,
  at_most,
  limited,
  called,
  written,
  elements,
  listed,
}
use Rattle.json_fields.specs.Doubling.{doubling_numbered}

-- what is read of the member is what it is
pub record Agrees {A : Type 0} (m : Member A) : Type 0 where
  pub read : (o : Option Data) (x : A) → m.value o ≡ Some x → m.Is o x
  pub reads : (o : Option Data) (x : A) → m.Is o x → m.value o ≡ Some x

-- and so of a form's members
pub record AgreesForm {A : Type 0} (f : Form A) : Type 0 where
  pub read : (d : Data) (x : A) → f.value d ≡ Some x → f.Is d x
  pub reads : (d : Data) (x : A) → f.Is d x → f.value d ≡ Some x

-- ---- forms

pub applied_some : {A B : Type 0} (f : Option (A → B)) (o : Option A) (y : B) → applied f o ≡ Some y
    → (make : A → B) × (x : A) × (f ≡ Some make) × (o ≡ Some x) × (make x ≡ y)
applied_some None o y h = absurd (cc)
applied_some (Some make) None y h = absurd (cc)
applied_some (Some make) (Some x) y h = (make, x, refl, refl, cc)

pub form_agrees : {A : Type 0} (word : List ℕ) (make : A) → AgreesForm (form word make)
form_agrees word make = record { read = λ d x h. cc; reads = λ d x is. ap Some is }

pub with_agrees : {A B : Type 0} (f : Form (A → B)) (m : Member A) → AgreesForm f → Agrees m → AgreesForm (f with m)
with_agrees f m of_form of_member = record {
  read = λ d y h.
      let parts = applied_some (f.value d) (m.value (get m.name d)) y h in
      (parts.0, parts.1, of_form.read d parts.0 parts.2, of_member.read (get m.name d) parts.1 parts.3, parts.4);
  reads = λ d y is.
      ap (λ make. applied make (m.value (get m.name d))) (of_form.reads d is.0 is.2)
      ∙ ap (applied (Some is.0)) (of_member.reads (get m.name d) is.1 is.3)
      ∙ ap Some is.4;
}

-- ---- a member that may be missing

inside : {A : Type 0} (o : Option A) (x : A) → option_map (λ y. Some y) o ≡ Some (Some x) → o ≡ Some x
inside None x h = absurd (cc)
inside (Some y) x h = same_Some (Some y) (Some x) h

never_none : {A : Type 0} (o : Option A) → ¬ (option_map (λ (y : A). Some y) o ≡ Some None)
never_none None h = absurd (cc)
never_none (Some y) h = absurd (cc)

if_there_read : {A : Type 0} (m : Member A) → Agrees m → (o : Option Data) (x : Option A) →
    read_if_there m.value o ≡ Some x → IsIfThere m.Is o x
if_there_read m agrees None None h = tt
if_there_read m agrees None (Some x) h = absurd (cc)
if_there_read m agrees (Some d) None h = absurd (never_none (m.value (Some d)) h)
if_there_read m agrees (Some d) (Some x) h = agrees.read (Some d) x (inside (m.value (Some d)) x h)

if_there_reads : {A : Type 0} (m : Member A) → Agrees m → (o : Option Data) (x : Option A) → IsIfThere m.Is o x →
    read_if_there m.value o ≡ Some x
if_there_reads m agrees None None is = refl
if_there_reads m agrees None (Some x) is = absurd is
if_there_reads m agrees (Some d) None is = absurd is
if_there_reads m agrees (Some d) (Some x) is = ap (option_map (λ y. Some y)) (agrees.reads (Some d) x is)

or_else_read : {A : Type 0} (other : A) (m : Member A) → Agrees m → (o : Option Data) (x : A) →
    read_or_else other m.value o ≡ Some x → IsOrElse other m.Is o x
or_else_read other m agrees None x h = same_Some other x h
or_else_read other m agrees (Some d) x h = agrees.read (Some d) x h

or_else_reads : {A : Type 0} (other : A) (m : Member A) → Agrees m → (o : Option Data) (x : A) →
    IsOrElse other m.Is o x → read_or_else other m.value o ≡ Some x
or_else_reads other m agrees None x is = ap Some is
or_else_reads other m agrees (Some d) x is = agrees.reads (Some d) x is

pub or_else_agrees : {A : Type 0} (other : A) (m : Member A) → Agrees m → Agrees (or_else other m)
or_else_agrees other m agrees = record { read = or_else_read other m agrees; reads = or_else_reads other m agrees }

pub if_there_agrees : {A : Type 0} (m : Member A) → Agrees m → Agrees (if_there m)
if_there_agrees m agrees = record { read = if_there_read m agrees; reads = if_there_reads m agrees }

-- a value that is kept where a test passes
pub kept : {A : Type 0} (b : Bool) (o : Option A) (x : A) → cond b o None ≡ Some x → (b ≡ true) × (o ≡ Some x)
kept true o x h = (refl, h)
kept false o x h = absurd (cc)

pub formed_read : {A : Type 0} (others : List (List ℕ)) (f : Form A) → AgreesForm f → (d : Data) (x : A)
    → formed others f d ≡ Some x → HasForm others f d x
formed_read others f of_form d x h =
    let both = kept _ (f.value d) x h in record { listed = both.0; made = of_form.read d x both.1 }

pub formed_reads : {A : Type 0} (others : List (List ℕ)) (f : Form A) → AgreesForm f → (d : Data) (x : A)
    → HasForm others f d x → formed others f d ≡ Some x
formed_reads others f of_form d x has = ap (λ b. cond b (f.value d) None) has.listed ∙ of_form.reads d x has.made

-- ---- numbers and names

is_below : (m n : ℕ) → nat_lt m n ≡ true → m < n
is_below m n h = grind arith

below_is : (m n : ℕ) → m < n → nat_lt m n ≡ true
below_is m n h = grind arith

pub is_most : (m n : ℕ) → nat_le m n ≡ true → m ≤ n
is_most m n h = grind arith

pub most_is : (m n : ℕ) → m ≤ n → nat_le m n ≡ true
most_is m n h = grind arith

pub small_read : (o : Option ℕ) (n : ℕ) → below_256 o ≡ Some n → (o ≡ Some n) × (n < 256)
small_read None n h = absurd (cc)
small_read (Some m) n h =
    let both = kept (nat_lt m 256) (Some m) n h in
    let same : m ≡ n = cc (both.1) in
    (ap Some same, subst (λ k. k < 256) same (is_below m 256 both.0))

pub small_reads : (o : Option ℕ) (n : ℕ) → o ≡ Some n → n < 256 → below_256 o ≡ Some n
small_reads o n is below = ap below_256 is ∙ ap (λ b. cond b (Some n) None) (below_is n 256 below)

pub numbered_agrees : (name : List ℕ) → Agrees (numbered name)
numbered_agrees name = record {
  read = λ o n h. let both = small_read (number o) n h in record { is = both.0; below = both.1 };
  reads = λ o n is. small_reads (number o) n is.is is.below;
}

pub name_read : (o : Option (List ℕ)) (name : List ℕ) → short_name o ≡ Some name → (o ≡ Some name) ×
    (length name ≤ MOST)
name_read None name h = absurd (cc)
name_read (Some text) name h =
    let both = kept (nat_le (length text) MOST) (Some text) name h in
    let same : text ≡ name = cc (both.1) in
    (ap Some same, subst (λ t. length t ≤ MOST) same (is_most (length text) MOST both.0))

pub name_reads : (o : Option (List ℕ)) (name : List ℕ) → o ≡ Some name → length name ≤ MOST → short_name o ≡ Some name
name_reads o name is short = ap short_name is ∙ ap (λ b. cond b (Some name) None) (most_is (length name) MOST short)

pub named_read : {A : Type 0} (read : List ℕ → Option A) (text_of : A → List ℕ) (reads : (text : List ℕ) (x : A) →
    read text ≡ Some x → text ≡ text_of x)
    (o : Option (List ℕ)) (x : A) → option_and_then read o ≡ Some x → o ≡ Some (text_of x)
named_read read text_of reads None x h = absurd (cc)
named_read read text_of reads (Some text) x h = ap Some (reads text x h)

pub named_agrees : {A : Type 0} (name : List ℕ) (read : List ℕ → Option A) (text_of : A → List ℕ)
    → ((text : List ℕ) (x : A) → read text ≡ Some x → text ≡ text_of x) → ((x : A) → Some x ≡ read (text_of x))
    → Agrees (named name read text_of)
named_agrees name read text_of reads found = record {
  read = λ o x h. named_read read text_of reads (text o) x h;
  reads = λ o x is. ap (option_and_then read) is ∙ sym (found x);
}

-- ---- numbers that mean something

-- a number that means something
means_below : {A : Type 0} (b : Bool) (of_number : ℕ → Option A) (n : ℕ) (x : A)
    → option_and_then of_number (cond b (Some n) None) ≡ Some x → of_number n ≡ Some x
means_below true of_number n x h = h
means_below false of_number n x h = absurd (cc)

means_at : {A : Type 0} (of_number : ℕ → Option A) (o : Option ℕ) (x : A)
    → option_and_then of_number (below_256 o) ≡ Some x → (n : ℕ) × (o ≡ Some n) × (of_number n ≡ Some x)
means_at of_number None x h = absurd (cc)
means_at of_number (Some n) x h = (n, refl, means_below (nat_lt n 256) of_number n x h)

pub means_read : {A : Type 0} (of_number : ℕ → Option A) (o : Option Data) (x : A)
    → option_and_then of_number (small o) ≡ Some x → (n : ℕ) × (number o ≡ Some n) × (of_number n ≡ Some x)
means_read of_number o x h = means_at of_number (number o) x h

pub means_reads : {A : Type 0} (of_number : ℕ → Option A) (o : Option Data) (n : ℕ) (x : A) → number o ≡ Some n →
    n < 256
    → of_number n ≡ Some x → option_and_then of_number (small o) ≡ Some x
means_reads of_number o n x is below means = ap (option_and_then of_number) (small_reads (number o) n is below) ∙ means

pub doubling_is : (n : ℕ) (x : Doubling) → doubling_numbered n ≡ Some x → n ≡ times_doubled x
doubling_is zero x h = let same : x ≡ Undoubled = cc in ap times_doubled (sym same)
doubling_is (suc zero) x h = let same : x ≡ Doubled = cc in ap times_doubled (sym same)
doubling_is (suc (suc zero)) x h = let same : x ≡ Redoubled = cc in ap times_doubled (sym same)
doubling_is (suc (suc (suc n))) x h = absurd (cc)

pub doubling_small : (x : Doubling) → times_doubled x < 256
doubling_small Undoubled = omega arith
doubling_small Doubled = omega arith
doubling_small Redoubled = omega arith

pub doubling_back : (x : Doubling) → doubling_numbered (times_doubled x) ≡ Some x
doubling_back Undoubled = refl
doubling_back Doubled = refl
doubling_back Redoubled = refl

pub both_true : (a b : Bool) → (a && b) ≡ true → (a ≡ true) × (b ≡ true)
both_true true b h = (refl, h)
both_true false b h = absurd (cc)

-- ---- elements

first_then_read : {A : Type 0} (first : Option A) (rest : Option (List A)) (xs : List A)
    → first_then first rest ≡ Some xs
    → (x : A) × (more : List A) × (first ≡ Some x) × (rest ≡ Some more) × (x ∷ more ≡ xs)
first_then_read None rest xs h = absurd (cc)
first_then_read (Some x) None xs h = absurd (cc)
first_then_read (Some x) (Some more) xs h = (x, more, refl, refl, cc)

pub each_read : {A : Type 0} (read : Data → Option A) (Is : Data → A → Type 0)
    → ((d : Data) (x : A) → read d ≡ Some x → Is d x)
    → (ds : Items) (xs : List A) → each read ds ≡ Some xs → AreEach Is ds xs
each_read read Is so no_items [] h = tt
each_read read Is so no_items (x ∷ xs) h = absurd (cc)
each_read read Is so (item d ds) [] h =
    let parts = first_then_read (read d) (each read ds) [] h in absurd (cc (parts.4))
each_read read Is so (item d ds) (x ∷ xs) h =
    let parts = first_then_read (read d) (each read ds) (x ∷ xs) h in
    let same : parts.0 ≡ x = cc (parts.4) in
    let others : parts.1 ≡ xs = cc (parts.4) in
    (so d x (parts.2 ∙ ap Some same), each_read read Is so ds xs (parts.3 ∙ ap Some others))

pub each_reads : {A : Type 0} (read : Data → Option A) (Is : Data → A → Type 0)
    → ((d : Data) (x : A) → Is d x → read d ≡ Some x)
    → (ds : Items) (xs : List A) → AreEach Is ds xs → each read ds ≡ Some xs
each_reads read Is so no_items [] all = refl
each_reads read Is so no_items (x ∷ xs) all = absurd all
each_reads read Is so (item d ds) [] all = absurd all
each_reads read Is so (item d ds) (x ∷ xs) all =
    ap (λ first. first_then first (each read ds)) (so d x all.0)
    ∙ ap (first_then (Some x)) (each_reads read Is so ds xs all.1)

pub each_count : {A : Type 0} (Is : Data → A → Type 0) (ds : Items) (xs : List A) → AreEach Is ds xs
    → item_count ds ≡ length xs
each_count Is no_items [] all = refl
each_count Is no_items (x ∷ xs) all = absurd all
each_count Is (item d ds) [] all = absurd all
each_count Is (item d ds) (x ∷ xs) all = omega (arith, each_count Is ds xs all.1)

-- ---- limits, names, texts and lists

pub limit_read : (most : ℕ) (o : Option ℕ) (n : ℕ) → at_most most o ≡ Some n → (o ≡ Some n) × (n ≤ most)
limit_read most None n h = absurd (cc)
limit_read most (Some m) n h =
    let both = kept (nat_le m most) (Some m) n h in
    let same : m ≡ n = cc (both.1) in
    (ap Some same, subst (λ k. k ≤ most) same (is_most m most both.0))

pub limited_agrees : (name : List ℕ) (most : ℕ) → Agrees (limited name most)
limited_agrees name most = record {
  read = λ o n h. let both = limit_read most (number o) n h in record { is = both.0; within = both.1 };
  reads = λ o n is. ap (at_most most) is.is ∙ ap (λ b. cond b (Some n) None) (most_is n most is.within);
}

pub called_agrees : (name : List ℕ) → Agrees (called name)
called_agrees name = record {
  read = λ o bytes h. let both = name_read (text o) bytes h in record { is = both.0; short = both.1 };
  reads = λ o bytes is. name_reads (text o) bytes is.is is.short;
}

pub passing_read : (test : List ℕ → Bool) (o : Option (List ℕ)) (bytes : List ℕ) → passing test o ≡ Some bytes
    → (o ≡ Some bytes) × (test bytes ≡ true)
passing_read test None bytes h = absurd (cc)
passing_read test (Some other) bytes h =
    let both = kept (test other) (Some other) bytes h in
    let same : other ≡ bytes = cc (both.1) in
    (ap Some same, subst (λ t. test t ≡ true) same both.0)

pub tested_agrees : (name : List ℕ) (test : List ℕ → Bool) → Agrees (tested name test)
tested_agrees name test = record {
  read = λ o bytes h. let both = passing_read test (text o) bytes h in record { is = both.0; passes = both.1 };
  reads = λ o bytes is. ap (passing test) is.is ∙ ap (λ b. cond b (Some bytes) None) is.passes;
}

pub written_agrees : (name : List ℕ) → Agrees (written name)
written_agrees name = record { read = λ o bytes h. h; reads = λ o bytes is. is }

pub elements_read : {A : Type 0} (read : Data → Option A) (Is : Data → A → Type 0)
    → ((d : Data) (x : A) → read d ≡ Some x → Is d x)
    → (o : Option Items) (xs : List A) → option_and_then (λ ds. each read ds) o ≡ Some xs
    → (ds : Items) × (o ≡ Some ds) × AreEach Is ds xs
elements_read read Is so None xs h = absurd (cc)
elements_read read Is so (Some ds) xs h = (ds, refl, each_read read Is so ds xs h)

pub listed_agrees : {A : Type 0} (name : List ℕ) (read : Data → Option A) (Is : Data → A → Type 0)
    → ((d : Data) (x : A) → read d ≡ Some x → Is d x) → ((d : Data) (x : A) → Is d x → read d ≡ Some x)
    → Agrees (listed name read Is)
listed_agrees name read Is one other = record {
  read = λ o xs h. elements_read read Is one (elements o) xs h;
  reads = λ o xs is. ap (option_and_then (λ ds. each read ds)) is.1 ∙ each_reads read Is other is.0 xs is.2;
}
