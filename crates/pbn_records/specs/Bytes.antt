-- The ASCII bytes of the values of tags, by name.
use Rattle.std.specs.Prelude.{ℕ}

-- `#`
abbrev pub hash : ℕ
hash = 35

-- `.`
abbrev pub dot : ℕ
dot = 46

-- `0`
abbrev pub digit_zero : ℕ
digit_zero = 48

-- `:`
abbrev pub colon : ℕ
colon = 58
