-- Members that are a number, a name, a text or a list.
use Rattle.std.specs.Prelude.{
  ◌≡◌,
  ℕ,
  ◌<◌,
  ◌≤◌,
  true,
  Bool,
  ◌&&◌,
  List,
  length,
  nat_lt,
  nat_le,
  if◌then◌else◌,
  Option,
  Some,
  None,
  option_and_then,
}
use Rattle.serde_json.specs.Data.{Data, Items}
use Rattle.serde_json.specs.Find.{get, as_str, as_number, as_u64, as_array}
use Rattle.user_names.specs.declared.name.TheConstants.Name.{MOST}
use Rattle.user_names.specs.ShownText.{is_shown_text}
use Rattle.json_fields.specs.Form.{Member, each, AreEach}

-- a whole number: a token without point and exponent, other than `-0`, from 0 to 2 ^ 64 - 1
abbrev pub whole : Data → Option ℕ
whole d = option_and_then as_u64 (as_number d)

-- a text that stands there
abbrev pub text : Option Data → Option (List ℕ)
text o = option_and_then as_str o

-- a whole number that stands there
abbrev pub number : Option Data → Option ℕ
number o = option_and_then whole o

-- the text of the member of this name
abbrev pub text_at : List ℕ → Data → Option (List ℕ)
text_at name d = text (get name d)

-- ---- small numbers: 0 to 255

-- a number up to 255, and nothing above
abbrev pub below_256 : Option ℕ → Option ℕ
below_256 None = None
below_256 (Some n) = if nat_lt n 256 then Some n else None

-- such a number that stands there
abbrev pub small : Option Data → Option ℕ
small o = below_256 (number o)

-- what stands there is this number, and it is small
pub record IsSmall (o : Option Data) (n : ℕ) : Type 0 where
  pub is : number o ≡ Some n
  pub below : n < 256

-- a member of this name that is such a number
abbrev pub numbered : List ℕ → Member ℕ
numbered name = record { name = name; value = small; Is = IsSmall }

-- ---- numbers up to a limit

-- a number that isn't above the limit
abbrev pub at_most : ℕ → Option ℕ → Option ℕ
at_most most None = None
at_most most (Some n) = if nat_le n most then Some n else None

-- what stands there is this number, and it isn't above the limit
pub record IsAtMost (most : ℕ) (o : Option Data) (n : ℕ) : Type 0 where
  pub is : number o ≡ Some n
  pub within : n ≤ most

-- a member of this name that is a number up to a limit
abbrev pub limited : List ℕ → ℕ → Member ℕ
limited name most = record { name = name; value = λ o. at_most most (number o); Is = IsAtMost most }

-- ---- names

-- a text that isn't too long for a name
abbrev pub short_name : Option (List ℕ) → Option (List ℕ)
short_name None = None
short_name (Some name) = if nat_le (length name) MOST then Some name else None

-- what stands there is this name
pub record SaysName (o : Option Data) (name : List ℕ) : Type 0 where
  pub is : text o ≡ Some name
  pub short : length name ≤ MOST

-- a member of this name that is a name itself
abbrev pub called : List ℕ → Member (List ℕ)
called name = record { name = name; value = λ o. short_name (text o); Is = SaysName }

-- ---- texts that pass a test

-- a text that passes
abbrev pub passing : (List ℕ → Bool) → Option (List ℕ) → Option (List ℕ)
passing test None = None
passing test (Some bytes) = if test bytes then Some bytes else None

-- what stands there is this text, and it passes
pub record SaysPassing (test : List ℕ → Bool) (o : Option Data) (bytes : List ℕ) : Type 0 where
  pub is : text o ≡ Some bytes
  pub passes : test bytes ≡ true

-- a member of this name that is a text which passes a test
abbrev pub tested : List ℕ → (List ℕ → Bool) → Member (List ℕ)
tested name test = record { name = name; value = λ o. passing test (text o); Is = SaysPassing test }

-- a text that may be shown, of so many bytes at most
unfoldable pub is_shown_within : ℕ → List ℕ → Bool
is_shown_within most bytes = nat_le (length bytes) most && is_shown_text bytes

-- a member of this name that is such a text
abbrev pub shown_within : List ℕ → ℕ → Member (List ℕ)
shown_within name most = tested name (is_shown_within most)

-- ---- texts that name something

-- a member whose text names a value: by which names are read, and how the value is written
abbrev pub named : {A : Type 0} → List ℕ → (List ℕ → Option A) → (A → List ℕ) → Member A
named name read text_of = record {
  name = name;
  value = λ o. option_and_then read (text o);
  Is = λ o x. text o ≡ Some (text_of x);
}

-- ---- texts of any kind, and lists

-- a member of this name that is a text
abbrev pub written : List ℕ → Member (List ℕ)
written name = record { name = name; value = text; Is = λ o bytes. text o ≡ Some bytes }

-- the elements of a list that stands there
abbrev pub elements : Option Data → Option Items
elements o = option_and_then as_array o

-- a list stands there, and each element of it is the value in its place
abbrev pub IsList : {A : Type 0} → (Data → A → Type 0) → Option Data → List A → Type 0
IsList Is o xs = (ds : Items) × (elements o ≡ Some ds) × AreEach Is ds xs

-- a member of this name that is a list: as which an element is read, and what an element is
abbrev pub listed : {A : Type 0} → List ℕ → (Data → Option A) → (Data → A → Type 0) → Member (List A)
listed name read Is =
    record { name = name; value = λ o. option_and_then (λ ds. each read ds) (elements o); Is = IsList Is }
