-- The name of a user, as its text's bytes.
use Rattle.std.specs.Prelude.{◌≡◌, List, ℕ, length, take}
use Rattle.user_names.specs.declared.name.Name.TheInside.{Inside}
use Rattle.user_names.specs.declared.name.TheConstants.Name.{MOST}
use Rattle.user_names.specs.Places.{IsInPlaces, in_places, kept_length, kept_places}

-- the text lies in the name's places
abbrev pub IsNameInPlaces : Inside → Type 0
IsNameInPlaces name = IsInPlaces MOST name.bytes name.len

-- the text
abbrev pub text_of : Inside → List ℕ
text_of name = take name.len name.bytes

-- the fields of a text
abbrev pub name_of : List ℕ → Inside
name_of text = record { bytes = in_places MOST text; len = length text }

-- the text gives the fields back
pub name_of-text_of : (name : Inside) → IsNameInPlaces name → name_of (text_of name) ≡ name
name_of-text_of name kept =
    λ i. record { bytes = kept_places MOST name.bytes name.len kept i; len = kept_length MOST name.bytes name.len kept i }
