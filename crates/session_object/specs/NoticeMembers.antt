-- The members of a session object that say what the session tells its members of itself: its title, its date, and what the
-- reasons of rulings mean.
use Rattle.std.specs.Prelude.{
  ℕ,
  ◌+◌,
  ◌-◌,
  ◌*◌,
  ◌≤◌,
  ◌≡◌,
  nat_eq,
  nat_le,
  Bool,
  ◌&&◌,
  if◌then◌else◌,
  List,
  [],
  length,
  get_or,
  codes,
  Option,
  Some,
  None,
  option_and_then,
}
use Rattle.std.specs.Char.{is_ascii_digit}
use Rattle.serde_json.specs.Data.{Data, Items}
use Rattle.serde_json.specs.Find.{as_str, as_array}
use Rattle.notices.specs.declared.notices.TheConstants.Notices.{MOST_TITLE, MOST_REASONS}
use Rattle.notices.specs.declared.notice_text.TheConstants.NoticeText.{MOST}
use Rattle.json_fields.specs.Form.{Member, if_there, or_else, item_count, each, AreEach}
use Rattle.json_fields.specs.Field.{passing, SaysPassing, tested, is_shown_within, shown_within}

-- ---- the title

-- what the session is called: a text to show of at most 100 bytes
abbrev pub title : Member (Option (List ℕ))
title = if_there (shown_within (codes "title") MOST_TITLE)

-- ---- the date: `YYYY-MM-DD`

-- two digits stand from a place on
abbrev pub has_digits : List ℕ → ℕ → Bool
has_digits bytes place = is_ascii_digit (get_or bytes place 0) && is_ascii_digit (get_or bytes (place + 1) 0)

-- the number that they are
abbrev pub number_at : List ℕ → ℕ → ℕ
number_at bytes place = (get_or bytes place 0 - 48) * 10 + (get_or bytes (place + 1) 0 - 48)

-- two digits from a place on are a number from 1 to a most
abbrev pub is_day_or_month : ℕ → List ℕ → ℕ → Bool
is_day_or_month most bytes place =
    has_digits bytes place && (nat_le 1 (number_at bytes place) && nat_le (number_at bytes place) most)

-- a hyphen stands at a place
abbrev pub has_hyphen : List ℕ → ℕ → Bool
has_hyphen bytes place = nat_eq (get_or bytes place 0) 45

-- ten bytes: four digits of a year, a month from 01 to 12, a day from 01 to 31
unfoldable pub is_date : List ℕ → Bool
is_date bytes =
    nat_eq (length bytes) 10
    && (has_digits bytes 0
    && (has_digits bytes 2
    && (has_hyphen bytes 4 && (is_day_or_month 12 bytes 5 && (has_hyphen bytes 7 && is_day_or_month 31 bytes 8)))))

-- the day of the session
abbrev pub date : Member (Option (List ℕ))
date = if_there (tested (codes "date") is_date)

-- ---- the reasons of rulings

-- the text that stands there: one to show of at most 200 bytes
abbrev pub reason_said : Data → Option (List ℕ)
reason_said d = passing (is_shown_within MOST) (as_str d)

-- what stands there is this text
abbrev pub IsReason : Data → List ℕ → Type 0
IsReason d bytes = SaysPassing (is_shown_within MOST) (Some d) bytes

-- there is a reason, and there are not too many
abbrev pub is_reason_count : ℕ → Bool
is_reason_count many = nat_le 1 many && nat_le many MOST_REASONS

-- the texts that a list's items are
unfoldable pub reasons_in : Items → Option (List (List ℕ))
reasons_in items = if is_reason_count (item_count items) then each reason_said items else None

-- the texts that stand there
abbrev pub reasons_said : Option Data → Option (List (List ℕ))
reasons_said o = option_and_then reasons_in (option_and_then as_array o)

-- each item is the text in its place, and there are 1 to 99
pub record AreReasons (items : Items) (reasons : List (List ℕ)) : Type 0 where
  pub each : AreEach IsReason items reasons
  pub least : 1 ≤ length reasons
  pub most : length reasons ≤ MOST_REASONS

-- what stands there is a list of them
abbrev pub SaysReasons : Option Data → List (List ℕ) → Type 0
SaysReasons o reasons = (items : Items) × (option_and_then as_array o ≡ Some items) × AreReasons items reasons

-- what a ruling's reasons mean, from number 1 on; no text where the member is left out
abbrev pub reasons : Member (List (List ℕ))
reasons = or_else [] (record { name = codes "reasons"; value = reasons_said; Is = SaysReasons })
