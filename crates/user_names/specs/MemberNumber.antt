-- own: the number of a club's or a federation's member, as its text's bytes.
use Rattle.std.specs.Prelude.{◌≡◌, Bool, true, List, ℕ, ◌&&◌, length, take, nat_le}
use Rattle.std.specs.Char.{is_ascii_alphanumeric}
use Rattle.std.specs.List.{list_all}
use Rattle.user_names.specs.declared.member_number.MemberNumber.TheInside.{Inside}
use Rattle.user_names.specs.declared.member_number.TheConstants.MemberNumber.{MOST}
use Rattle.user_names.specs.Places.{IsInPlaces, in_places, kept_length, kept_places}

-- 1 to 16 letters and digits of ASCII
unfoldable pub is_member_number : List ℕ → Bool
is_member_number text = nat_le 1 (length text) && (nat_le (length text) MOST && list_all is_ascii_alphanumeric text)

-- the text lies in the number's places, and is such
pub record IsNumberInPlaces (number : Inside) : Type 0 where
  pub places : IsInPlaces MOST number.bytes number.len
  pub characters : is_member_number (take number.len number.bytes) ≡ true

-- the text
abbrev pub text_of : Inside → List ℕ
text_of number = take number.len number.bytes

-- the fields of a text
abbrev pub member_number_of : List ℕ → Inside
member_number_of text = record { bytes = in_places MOST text; len = length text }

-- the text gives the fields back
pub member_number_of-text_of : (number : Inside) → IsNumberInPlaces number → member_number_of (text_of number) ≡ number
member_number_of-text_of number kept =
    λ i. record {
      bytes = kept_places MOST number.bytes number.len kept.places i;
      len = kept_length MOST number.bytes number.len kept.places i;
    }
