-- A name to show, as its text's bytes.
use Rattle.std.specs.Prelude.{◌≡◌, Bool, true, List, [], ◌∷◌, ℕ, ◌&&◌, length, take, nat_le}
use Rattle.user_names.specs.declared.shown_name.ShownName.TheInside.{Inside}
use Rattle.user_names.specs.declared.shown_name.TheConstants.ShownName.{MOST}
use Rattle.user_names.specs.Places.{IsInPlaces, in_places, kept_length, kept_places}
use Rattle.user_names.specs.ShownText.{is_shown_text}

-- a text that may be shown, of at most 64 bytes
unfoldable pub is_shown_name : List ℕ → Bool
is_shown_name text = nat_le (length text) MOST && is_shown_text text

-- such a text, or the empty one, which says that there is no name to show
unfoldable pub is_shown_or_none : List ℕ → Bool
is_shown_or_none [] = true
is_shown_or_none (b ∷ bs) = is_shown_name (b ∷ bs)

-- the text lies in the name's places, and may be shown
pub record IsShownInPlaces (name : Inside) : Type 0 where
  pub places : IsInPlaces MOST name.bytes name.len
  pub shown : is_shown_or_none (take name.len name.bytes) ≡ true

-- the text
abbrev pub text_of : Inside → List ℕ
text_of name = take name.len name.bytes

-- the fields of a text
abbrev pub name_of : List ℕ → Inside
name_of text = record { bytes = in_places MOST text; len = length text }

-- the text gives the fields back
pub name_of-text_of : (name : Inside) → IsShownInPlaces name → name_of (text_of name) ≡ name
name_of-text_of name kept =
    λ i. record {
      bytes = kept_places MOST name.bytes name.len kept.places i;
      len = kept_length MOST name.bytes name.len kept.places i;
    }
