-- Names to sign in by.
use Rattle.std.specs.Prelude.{
  ◌≡◌,
  ◌≤◌,
  ◌<◌,
  ℕ,
  Bool,
  true,
  false,
  ◌&&◌,
  ◌||◌,
  not,
  nat_eq,
  nat_le,
  nat_lt,
  List,
  [],
  ◌∷◌,
  ◌++◌,
  length,
  if◌then◌else◌,
  codes,
  chars,
}
use Rattle.std.specs.Char.{is_ascii_alphanumeric, is_whitespace, to_ascii_lowercase}
use Rattle.std.specs.Fmt.{decimal}
use Rattle.std.specs.List.{list_any}
use Rattle.unicode_normalization.specs.Forms.{nfkd}
use Rattle.user_names.specs.declared.name.TheConstants.Name.{MOST}
use Rattle.rbac.specs.Account.{same_name}
use Rattle.sign_ins.specs.declared.sign_in_name.TheConstants.{MOST_LETTERS, MOST_NAMES}

-- ---- the name that is made of a name to show

-- what a letter is spelt by that isn't one of ASCII with a mark; other signs aren't spelt
unfoldable pub spelt_out : ℕ → List ℕ
spelt_out sign =
    if nat_eq sign 0xDF || nat_eq sign 0x1E9E
    then codes "ss"
    else if nat_eq sign 0xE6 || nat_eq sign 0xC6
    then codes "ae"
    else if nat_eq sign 0x153 || nat_eq sign 0x152
    then codes "oe"
    else if nat_eq sign 0xF8 || nat_eq sign 0xD8
    then codes "o"
    else if nat_eq sign 0x142 || nat_eq sign 0x141
    then codes "l"
    else if nat_eq sign 0x111 || nat_eq sign 0x110 || nat_eq sign 0xF0 || nat_eq sign 0xD0
    then codes "d"
    else if nat_eq sign 0xFE || nat_eq sign 0xDE
    then codes "th"
    else if nat_eq sign 0x127 || nat_eq sign 0x126
    then codes "h"
    else if nat_eq sign 0x131 then codes "i" else if nat_eq sign 0x14B || nat_eq sign 0x14A then codes "n" else []

-- what a sign is spelt by: a letter or a digit of ASCII by itself, small
abbrev pub spelt : ℕ → List ℕ
spelt sign = if is_ascii_alphanumeric sign then to_ascii_lowercase sign ∷ [] else spelt_out sign

-- with those of one sign more, where fewer letters stand than a name to begin with has
abbrev pub with_sign : List ℕ → ℕ → List ℕ
with_sign letters sign = if nat_lt (length letters) MOST_LETTERS then letters ++ spelt sign else letters

-- with those of more signs
abbrev pub with_signs : List ℕ → List ℕ → List ℕ
with_signs letters [] = letters
with_signs letters (sign ∷ signs) = with_signs (with_sign letters sign) signs

-- the signs before the first blank
abbrev pub before_blank : List ℕ → List ℕ
before_blank [] = []
before_blank (sign ∷ signs) = if is_whitespace sign then [] else sign ∷ before_blank signs

-- the first word: from the first sign on that is spelt, and before the next blank
abbrev pub first_word : List ℕ → List ℕ
first_word [] = []
first_word (sign ∷ signs) = if nat_eq (length (spelt sign)) 0 then first_word signs else sign ∷ before_blank signs

-- the letters, or `guest` where there are none
abbrev pub or_guest : List ℕ → List ℕ
or_guest [] = codes "guest"
or_guest (letter ∷ letters) = letter ∷ letters

-- the letters of the first word, whose marks stand behind their letters (NFKD of Unicode) and aren't spelt
unfoldable pub sign_in_base : List ℕ → List ℕ
sign_in_base shown = or_guest (with_signs [] (first_word (nfkd (chars shown))))

-- ---- a name that isn't taken

-- one of these names is this one
abbrev pub is_name_taken : List (List ℕ) → List ℕ → Bool
is_name_taken taken name = list_any (λ other. same_name other name) taken

-- the name of a number: the first is the one to begin with, and each other one has its number behind it
abbrev pub numbered_name : List ℕ → ℕ → List ℕ
numbered_name base number = if nat_le number 1 then base else base ++ decimal number

-- a text can be a name, and nobody has it
abbrev pub is_free : List (List ℕ) → List ℕ → Bool
is_free taken text = nat_le (length text) MOST && not (is_name_taken taken text)

-- the first name that is free
pub record IsFirstFree (taken : List (List ℕ)) (base name : List ℕ) : Type 0 where
  pub number : ℕ
  pub least : 1 ≤ number
  pub most : number ≤ MOST_NAMES
  pub is : name ≡ numbered_name base number
  pub free : is_free taken name ≡ true
  pub first : (k : ℕ) → 1 ≤ k → k < number → is_free taken (numbered_name base k) ≡ false

-- none of the names is free
abbrev pub NoneIsFree : List (List ℕ) → List ℕ → Type 0
NoneIsFree taken base = (k : ℕ) → 1 ≤ k → k ≤ MOST_NAMES → is_free taken (numbered_name base k) ≡ false
