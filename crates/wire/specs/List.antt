-- The members of a list of boards: which boards, from which number on, and how many of them. Each may be left out.
use Rattle.std.specs.Prelude.{
  ◌≡◌,
  ℕ,
  ◌≤◌,
  nat_le,
  ◌&&◌,
  if◌then◌else◌,
  codes,
  Option,
  Some,
  None,
  option_map,
  option_and_then,
}
use Rattle.serde_json.specs.Data.{Data}
use Rattle.wire.specs.declared.list_reading.TheConstants.{MOST_LISTED}
use Rattle.query_filter.specs.Formula.{Formula}
use Rattle.json_fields.specs.Filter.{filter_of}
use Rattle.json_fields.specs.Form.{Member}
use Rattle.json_fields.specs.Field.{number, small, numbered}
use Rattle.wire.specs.Optional.{optional}

-- the filter that stands there
abbrev pub filter_at : Option Data → Option (Option Formula)
filter_at o = option_map Some (option_and_then filter_of o)

-- what stands there is this filter
abbrev pub IsFilter : Option Data → Option Formula → Type 0
IsFilter o None = ⊥
IsFilter o (Some f) = option_and_then filter_of o ≡ Some f

-- a member that is a filter
abbrev pub filter_asked : Member (Option Formula)
filter_asked = record { name = codes "filter"; value = filter_at; Is = IsFilter }

-- the filter that is to hold of a board: none where it is left out, and then all boards are listed
abbrev pub filter : Member (Option Formula)
filter = optional None filter_asked

-- the least number of a board: 1 where it is left out
abbrev pub from : Member ℕ
from = optional 1 (numbered (codes "from"))

-- how many boards a list has at most
abbrev pub most_listed : ℕ
most_listed = MOST_LISTED

-- a limit is 1 to as many boards as a list has at most
abbrev pub limit_numbered : ℕ → Option ℕ
limit_numbered n = if nat_le 1 n && nat_le n most_listed then Some n else None

-- what stands there is this limit
pub record IsLimit (o : Option Data) (n : ℕ) : Type 0 where
  pub is : number o ≡ Some n
  pub least : 1 ≤ n
  pub most : n ≤ most_listed

-- a member that is a limit
abbrev pub limit_asked : Member ℕ
limit_asked = record { name = codes "limit"; value = λ o. option_and_then limit_numbered (small o); Is = IsLimit }

-- how many boards are listed at most: as many as a list has where it is left out
abbrev pub limit : Member ℕ
limit = optional most_listed limit_asked
