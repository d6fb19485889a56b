-- The values of the tags Dealer and Vulnerable (PBN 2.1, in this project's profile).
use Rattle.std.specs.Prelude.{
  ◌≡◌,
  ℕ,
  Bool,
  true,
  false,
  ◌||◌,
  List,
  [],
  ◌∷◌,
  map,
  codes,
  bytes_eq,
  ◌⊎◌,
  Option,
  Some,
  None,
}
use Rattle.std.specs.Char.{to_ascii_lowercase, to_ascii_uppercase}
use Rattle.table_terms.specs.declared.place.Place.{Place}
use Rattle.table_terms.specs.declared.vulnerability.Vulnerability.{Vulnerability}
use Rattle.table_terms.specs.declared.vulnerability.Vulnerability.TheVariants.{Neither, NorthSouth, EastWest, Both}
use Rattle.table_terms.specs.Place.{place_letter}
use Rattle.table_terms.specs.Law2.{IsDealer, IsMarked}
use Rattle.pbn_records.specs.Tags.{Valued}

-- a value that says nothing: none, or `?`
abbrev pub is_open : List ℕ → Bool
is_open value = bytes_eq value [] || bytes_eq value (codes "?")

-- the value is this word, in either case
abbrev pub IsWord : List ℕ → List ℕ → Type 0
IsWord word value = map to_ascii_lowercase value ≡ map to_ascii_lowercase word

-- the value is the player's letter, in either case
abbrev pub IsDealerValue : List ℕ → Place → Type 0
IsDealerValue value place = map to_ascii_uppercase value ≡ place_letter place ∷ []

-- the value is a word of the marking
abbrev pub IsVulnerableValue : List ℕ → Vulnerability → Type 0
IsVulnerableValue value Neither = IsWord (codes "None") value ⊎ IsWord (codes "Love") value ⊎ IsWord (codes "-") value
IsVulnerableValue value NorthSouth = IsWord (codes "NS") value
IsVulnerableValue value EastWest = IsWord (codes "EW") value
IsVulnerableValue value Both = IsWord (codes "All") value ⊎ IsWord (codes "Both") value

-- the dealer of a board by its tag, and where that is missing or open by Law 2
abbrev pub ReadsDealer : ℕ → Option Valued → Place → Type 0
ReadsDealer board None place = IsDealer board place
ReadsDealer board (Some tag) place =
    (is_open tag.value ≡ true → IsDealer board place) × (is_open tag.value ≡ false → IsDealerValue tag.value place)

-- the marking of a board by its tag, and where that is missing or open by Law 2
abbrev pub ReadsVulnerable : ℕ → Option Valued → Vulnerability → Type 0
ReadsVulnerable board None vulnerability = IsMarked board vulnerability
ReadsVulnerable board (Some tag) vulnerability =
    (is_open tag.value ≡ true → IsMarked board vulnerability) ×
    (is_open tag.value ≡ false → IsVulnerableValue tag.value vulnerability)

-- neither open nor a player's letter
pub record IsBadDealer (value : List ℕ) : Type 0 where
  pub there : is_open value ≡ false
  pub none : (place : Place) → ¬ IsDealerValue value place

-- neither open nor a word of a marking
pub record IsBadVulnerable (value : List ℕ) : Type 0 where
  pub there : is_open value ≡ false
  pub none : (vulnerability : Vulnerability) → ¬ IsVulnerableValue value vulnerability
