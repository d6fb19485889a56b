-- Members that say who a user is, which roles one has, and where one sits.
use Rattle.std.specs.Prelude.{
  ◌≡◌,
  ℕ,
  ◌≤◌,
  true,
  List,
  [],
  ◌∷◌,
  ◌++◌,
  map,
  codes,
  Option,
  Some,
  None,
  option_and_then,
  Result,
  Ok,
  Err,
}
use Rattle.std.specs.List.{find, range_with_len}
use Rattle.std.specs.Str.{bytes_eq}
use Rattle.hex.specs.declared.error.FromHexError.{FromHexError}
use Rattle.hex.specs.Hex.{decode_sized}
use Rattle.serde_json.specs.Data.{Data}
use Rattle.serde_json.specs.Find.{as_str}
use Rattle.table_terms.specs.declared.pair.Pair.{Pair}
use Rattle.table_terms.specs.declared.place.Place.{Place}
use Rattle.table_terms.specs.declared.side.Side.{Side}
use Rattle.table_terms.specs.declared.side.Side.TheVariants.{NorthSouth, EastWest}
use Rattle.table_terms.specs.Pair.{pair_text}
use Rattle.table_terms.specs.Place.{place_letter}
use Rattle.session_roles.specs.declared.edition.Edition.{Edition}
use Rattle.session_roles.specs.declared.role.Role.{Role}
use Rattle.session_roles.specs.Role.{roles_of, is_role_of, role_name}
use Rattle.user_names.specs.declared.digest.Digest.{Digest}
use Rattle.user_names.specs.MemberNumber.{is_member_number}
use Rattle.user_names.specs.ShownName.{is_shown_name, is_shown_or_none}
use Rattle.json_fields.specs.Form.{Member, if_there, or_else}
use Rattle.json_fields.specs.Field.{text, called, tested, named, listed}
use Rattle.json_fields.specs.Letter.{place_named}

-- the name of a user
abbrev pub user_name : Member (List ℕ)
user_name = called (codes "name")

-- the name by which a user is shown, and the empty text where none is given
abbrev pub shown_name : Member (List ℕ)
shown_name = or_else [] (tested (codes "shown") is_shown_name)

-- a new name by which a user is shown; the empty text takes away the one that there is
abbrev pub new_shown : Member (List ℕ)
new_shown = tested (codes "shown") is_shown_or_none

-- the number that a user has as a member of a club or a federation, where it is given
abbrev pub member_number : Member (Option (List ℕ))
member_number = if_there (tested (codes "number") is_member_number)

-- ---- digests: 64 hexadecimal digits, capital or small

-- the bytes that digits stand for, if they stand for some
abbrev pub stood_for : Result (List ℕ) FromHexError → Option Digest
stood_for (Ok bytes) = Some (record { bytes = bytes })
stood_for (Err error) = None

-- the 32 bytes of 64 hexadecimal digits
abbrev pub digest_named : List ℕ → Option Digest
digest_named digits = stood_for (decode_sized digits 32)

-- what stands there are 64 hexadecimal digits, which stand for these bytes
abbrev pub IsDigest : Option Data → Digest → Type 0
IsDigest o digest = (digits : List ℕ) × (text o ≡ Some digits) × (decode_sized digits 32 ≡ Ok digest.bytes)

-- the digest of a user's token
abbrev pub digest : Member Digest
digest = record { name = codes "digest"; value = λ o. option_and_then digest_named (text o); Is = IsDigest }

-- ---- roles: those that an edition of the policy knows

-- the role of a name
unfoldable pub role_named : Edition → List ℕ → Option Role
role_named edition word = find (λ role. bytes_eq (role_name role) word) (roles_of edition)

-- the role that stands there
unfoldable pub role_of : Edition → Data → Option Role
role_of edition d = option_and_then (role_named edition) (as_str d)

-- the text is the name of the role, and the edition knows it
pub record IsRole (edition : Edition) (word : Option (List ℕ)) (role : Role) : Type 0 where
  pub is : word ≡ Some (role_name role)
  pub known : is_role_of edition role ≡ true

-- the roles of a user, in the order of the list
abbrev pub user_roles : Edition → Member (List Role)
user_roles edition = listed (codes "roles") (role_of edition) (λ d role. IsRole edition (as_str d) role)

-- ---- seats

-- the pairs of a side, by their numbers
abbrev pub side_pairs : Side → List Pair
side_pairs side = map (λ number. record { side = side; number = number }) (range_with_len 1 255)

-- the pair whose text it is; numbers are 1 to 255
unfoldable pub pair_named : List ℕ → Option Pair
pair_named word = find (λ pair. bytes_eq (pair_text pair) word) (side_pairs NorthSouth ++ side_pairs EastWest)

-- the pair whose text stands there
abbrev pub pair_said : Option Data → Option Pair
pair_said o = option_and_then pair_named (text o)

-- what stands there is the text of this pair
pub record IsPair (o : Option Data) (pair : Pair) : Type 0 where
  pub is : text o ≡ Some (pair_text pair)
  pub least : 1 ≤ pair.number
  pub most : pair.number ≤ 255

-- a pair in the member of this name
abbrev pub paired : List ℕ → Member Pair
paired name = record { name = name; value = pair_said; Is = IsPair }

-- the pair in which a user sits
abbrev pub pair : Member Pair
pair = paired (codes "pair")

-- the pair of a session that is absent, if one is
abbrev pub absent : Member (Option Pair)
absent = if_there (paired (codes "absent"))

-- and the place
abbrev pub place : Member Place
place = named (codes "place") place_named (λ place. place_letter place ∷ [])
