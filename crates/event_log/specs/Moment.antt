-- When something happened, in UTC, as ISO 8601-1 (5.4.2.1) writes it: the calendar's date, and the time of day to the second.
use Rattle.std.specs.Prelude.{◌≡◌, ℕ, ◌+◌, ◌/◌, ◌%◌, ◌≤◌, ◌⊎◌, pos, unsigned_abs, List, [], ◌∷◌, ◌++◌, Option, Some, None, codes}
use Rattle.jiff_core.specs.Date.{epoch_day}
use Rattle.jiff_core.specs.declared.civil.date.Date.{Date}

-- a number below 100 in two digits
abbrev pub two : ℕ → List ℕ
two number = (48 + number / 10) ∷ (48 + number % 10) ∷ []

-- the first second of the year 10000, from when on no time is written
abbrev pub time_end : ℕ
time_end = 253402300800

-- a date from the year 0 on
abbrev pub date_text : Date → List ℕ
date_text date =
    two (unsigned_abs date.year / 100) ++ (two (unsigned_abs date.year % 100) ++ (codes "-"
    ++ (two date.month ++ (codes "-" ++ two date.day))))

-- the time of day of a second of the day
abbrev pub clock_text : ℕ → List ℕ
clock_text second =
    two (second / 3600) ++ (codes ":" ++ (two ((second % 3600) / 60) ++ (codes ":" ++ two (second % 60))))

-- the text is that of a time, so many seconds after 1970 began
pub record IsTimeText (seconds : ℕ) (text : List ℕ) : Type 0 where
  pub date : Date
  pub day : epoch_day date ≡ pos (seconds / 86400)
  pub is : text ≡ date_text date ++ codes "T" ++ clock_text (seconds % 86400) ++ codes "Z"

-- what stands in front of a line: the time, or a `-` where the clock can't be read, or is past the year 9999
abbrev pub IsMoment : Option ℕ → List ℕ → Type 0
IsMoment None text = text ≡ codes "-"
IsMoment (Some seconds) text = IsTimeText seconds text ⊎ ((text ≡ codes "-") × (time_end ≤ seconds))
