-- A text that a session tells its members of itself, as its bytes.
use Rattle.std.specs.Prelude.{◌≡◌, List, ℕ, length, take}
use Rattle.notices.specs.declared.notice_text.NoticeText.TheInside.{Inside}
use Rattle.notices.specs.declared.notice_text.TheConstants.NoticeText.{MOST}
use Rattle.user_names.specs.Places.{IsInPlaces, in_places, kept_length, kept_places}

-- the text lies in the notice's places
abbrev pub IsTextInPlaces : Inside → Type 0
IsTextInPlaces notice = IsInPlaces MOST notice.bytes notice.len

-- the text
abbrev pub notice_text_of : Inside → List ℕ
notice_text_of notice = take notice.len notice.bytes

-- the fields of a text
abbrev pub fields_of : List ℕ → Inside
fields_of text = record { bytes = in_places MOST text; len = length text }

-- the text gives the fields back
pub fields_of-notice_text_of : (notice : Inside) → IsTextInPlaces notice → fields_of (notice_text_of notice) ≡ notice
fields_of-notice_text_of notice kept =
    λ i. record {
      bytes = kept_places MOST notice.bytes notice.len kept i;
      len = kept_length MOST notice.bytes notice.len kept i;
    }
