-- Tokens: random bytes as letters.
use Rattle.std.specs.Prelude.{
  ◌≡◌,
  ◌%◌,
  ℕ,
  suc,
  ◌&&◌,
  nat_eq,
  nat_le,
  List,
  [],
  ◌∷◌,
  ◌++◌,
  slice_index,
  if◌then◌else◌,
  codes,
  string_bytes,
}
use Rattle.sha2.specs.Sha256.{sha256}
use Rattle.sign_ins.specs.declared.sign_in_token.SignInToken.{SignInToken}

-- the letters of tokens: the 32 of Crockford's base 32, small, in which no two are taken for one another
abbrev pub token_letters : List ℕ
token_letters = codes "0123456789abcdefghjkmnpqrstvwxyz"

-- the five bits of a byte that count: the last ones
abbrev pub bits_that_count : ℕ → ℕ
bits_that_count byte = byte % 32

-- the letter of a byte
unfoldable pub token_letter : ℕ → ℕ
token_letter byte = slice_index token_letters (bits_that_count byte)

-- what stands before the letter at a place, counted from 0: a dash at 4, 8, 12 and so on
abbrev pub dash_before : ℕ → List ℕ
dash_before place = if nat_le 1 place && nat_eq (place % 4) 0 then codes "-" else []

-- the letters of bytes one after another, in groups of four; the first stands at this place
unfoldable pub in_groups : ℕ → List ℕ → List ℕ
in_groups place [] = []
in_groups place (byte ∷ bytes) = dash_before place ++ (token_letter byte ∷ in_groups (suc place) bytes)

-- the text of a token of these bytes
abbrev pub token_text : List ℕ → List ℕ
token_text bytes = in_groups 0 bytes

-- the token is the text of these bytes, and its digest is that of the text
pub record IsToken (bytes : List ℕ) (token : SignInToken) : Type 0 where
  pub text : string_bytes token.text ≡ token_text bytes
  pub digest : token.digest.bytes ≡ sha256 (string_bytes token.text)
