-- Forms: what an object says by its members. A form is a line of a table, as
-- `form (codes "Confirm") Confirm with table with board with outcome`.
use Rattle.std.specs.Prelude.{
  ◌≡◌,
  ◌⊎◌,
  ℕ,
  List,
  [],
  ◌∷◌,
  ◌++◌,
  ◌+◌,
  Bool,
  true,
  false,
  ◌&&◌,
  if◌then◌else◌,
  Option,
  Some,
  None,
  option_map,
}
use Rattle.std.specs.List.{list_any}
use Rattle.std.specs.Str.{bytes_eq}
use Rattle.serde_json.specs.Data.{Data, Items, no_items, item, Members, no_members, member}
use Rattle.serde_json.specs.Find.{get, as_object}

-- a member: its name; what is read of what stands there, which is nothing where it isn't as it should be; and when what
-- stands there is a value, said of its text or number alone
pub record Member (A : Type 0) : Type 1 where
  pub name : List ℕ
  pub value : Option Data → Option A
  pub Is : Option Data → A → Type 0

-- what is read of a member that may be missing: nothing where it is
abbrev pub read_if_there : {A : Type 0} → (Option Data → Option A) → Option Data → Option (Option A)
read_if_there read None = Some None
read_if_there read (Some d) = option_map (λ x. Some x) (read (Some d))

abbrev pub IsIfThere : {A : Type 0} → (Option Data → A → Type 0) → Option Data → Option A → Type 0
IsIfThere Is None None = Unit {0}
IsIfThere Is None (Some x) = ⊥
IsIfThere Is (Some d) None = ⊥
IsIfThere Is (Some d) (Some x) = Is (Some d) x

-- a member that may be missing
abbrev pub if_there : {A : Type 0} → Member A → Member (Option A)
if_there m = record { name = m.name; value = read_if_there m.value; Is = IsIfThere m.Is }

-- what is read of a member that may be missing and then is another value
abbrev pub read_or_else : {A : Type 0} → A → (Option Data → Option A) → Option Data → Option A
read_or_else other read None = Some other
read_or_else other read (Some d) = read (Some d)

abbrev pub IsOrElse : {A : Type 0} → A → (Option Data → A → Type 0) → Option Data → A → Type 0
IsOrElse other Is None x = other ≡ x
IsOrElse other Is (Some d) x = Is (Some d) x

-- a member that may be missing, and is another value then
abbrev pub or_else : {A : Type 0} → A → Member A → Member A
or_else other m = record { name = m.name; value = read_or_else other m.value; Is = IsOrElse other m.Is }

-- a form: its word, the names of its members, the value that they make, and when they make a value
pub record Form (A : Type 0) : Type 1 where
  pub word : List ℕ
  pub names : List (List ℕ)
  pub value : Data → Option A
  pub Is : Data → A → Type 0

-- a value of which one part more is there
abbrev pub applied : {A B : Type 0} → Option (A → B) → Option A → Option B
applied None o = None
applied (Some f) None = None
applied (Some f) (Some x) = Some (f x)

-- a word, and what its members make
abbrev pub form : {A : Type 0} → List ℕ → A → Form A
form word make = record { word = word; names = []; value = λ d. Some make; Is = λ d x. make ≡ x }

-- a form with one member more
infixl 10 ◌with◌
abbrev pub ◌with◌ : {A B : Type 0} → Form (A → B) → Member A → Form B
◌with◌ {A} {B} f m = record {
  word = f.word;
  names = f.names ++ m.name ∷ [];
  value = λ d. applied (f.value d) (m.value (get m.name d));
  Is = λ d y. (make : A → B) × (x : A) × f.Is d make × m.Is (get m.name d) x × (make x ≡ y);
}

-- ---- an object's members. A name that comes twice in a text has its last value in the data.

-- each member's name is listed
abbrev pub names_are : List (List ℕ) → Members → Bool
names_are listed no_members = true
names_are listed (member name d ms) = list_any (λ other. bytes_eq other name) listed && names_are listed ms

-- there are members, and each one's name is listed
abbrev pub members_are : List (List ℕ) → Option Members → Bool
members_are listed None = false
members_are listed (Some ms) = names_are listed ms

-- the value is an object, and each of its members' names is listed
abbrev pub has_only : List (List ℕ) → Data → Bool
has_only listed d = members_are listed (as_object d)

-- what an object of the form says: it has the form's members and these others, and no more
abbrev pub formed : {A : Type 0} → List (List ℕ) → Form A → Data → Option A
formed others f d = if has_only (others ++ f.names) d then f.value d else None

-- ---- tables

-- the words of a table
abbrev pub words : {A : Type 0} → List (Form A) → List (List ℕ)
words [] = []
words (f ∷ fs) = f.word ∷ words fs

-- a form of the table has the word
abbrev pub is_word_of : {A : Type 0} → List (Form A) → List ℕ → Bool
is_word_of fs word = list_any (λ other. bytes_eq word other) (words fs)

-- what an object says by the form of its word
abbrev pub by_word : {A : Type 0} → List (List ℕ) → List (Form A) → List ℕ → Data → Option A
by_word others [] word d = None
by_word others (f ∷ fs) word d = if bytes_eq word f.word then formed others f d else by_word others fs word d

-- the object has the form's members, which make the value, and beside them no other than these
pub record HasForm {A : Type 0} (others : List (List ℕ)) (f : Form A) (d : Data) (x : A) : Type 0 where
  pub listed : has_only (others ++ f.names) d ≡ true
  pub made : f.Is d x

-- the word is that of a form of the table, and the object has this form
abbrev pub HasFormOf : {A : Type 0} → List (List ℕ) → List (Form A) → List ℕ → Data → A → Type 0
HasFormOf others [] word d x = ⊥
HasFormOf others (f ∷ fs) word d x = ((word ≡ f.word) × HasForm others f d x) ⊎ HasFormOf others fs word d x

-- ---- lists of elements

-- how many elements a list has
abbrev pub item_count : Items → ℕ
item_count no_items = 0
item_count (item d ds) = item_count ds + 1

-- a value before others, where all of them are there
abbrev pub first_then : {A : Type 0} → Option A → Option (List A) → Option (List A)
first_then first rest = applied (applied (Some (λ x xs. x ∷ xs)) first) rest

-- what each element is read as
abbrev pub each : {A : Type 0} → (Data → Option A) → Items → Option (List A)
each read no_items = Some []
each read (item d ds) = first_then (read d) (each read ds)

-- each element is the value in its place
abbrev pub AreEach : {A : Type 0} → (Data → A → Type 0) → Items → List A → Type 0
AreEach Is no_items [] = Unit {0}
AreEach Is no_items (x ∷ xs) = ⊥
AreEach Is (item d ds) [] = ⊥
AreEach Is (item d ds) (x ∷ xs) = Is d x × AreEach Is ds xs
