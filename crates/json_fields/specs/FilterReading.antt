-- Reading a filter: what is read, or why nothing is.
use Rattle.std.specs.Prelude.{◌≡◌, ℕ, nat_le, if◌then◌else◌, Option, Some, None, IsSome, Result, Ok, Err}
use Rattle.query_filter.specs.Formula.{Formula, Formulas}
use Rattle.query_filter.specs.Limits.{depth, deepest, is_list_within, left_after_all}
use Rattle.json_fields.specs.declared.filter_fault.FilterFault.{FilterFault}
use Rattle.json_fields.specs.declared.filter_fault.FilterFault.TheVariants.{BadField, OutOfMemory}

-- a reader's answer, where this is what the value is: the filter; or that it is none; or, of a filter alone, that
-- memory was refused
abbrev pub ReadsFilter : Result Formula FilterFault → Option Formula → Type 0
ReadsFilter (Ok filter) is = is ≡ Some filter
ReadsFilter (Err BadField) is = is ≡ None
ReadsFilter (Err OutOfMemory) is = IsSome is

-- ---- for private clauses: as far as reading goes into a value

-- a fault where this was to be read: nothing is there, or memory was refused
abbrev pub FailsFilter : {A : Type 0} → FilterFault → Option A → Type 0
FailsFilter BadField is = is ≡ None
FailsFilter OutOfMemory is = Unit {0}

-- a formula that isn't deeper
abbrev pub not_deeper : ℕ → Formula → Option Formula
not_deeper most f = if nat_le (depth f) most then Some f else None

-- formulas that aren't deeper
abbrev pub none_deeper : ℕ → Formulas → Option Formulas
none_deeper most fs = if nat_le (deepest fs) most then Some fs else None

-- how many atoms may still follow a list's formulas, where so many might stand: none, where the list is empty or too
-- long
abbrev pub left_after_list : ℕ → ℕ → Formulas → Option ℕ
left_after_list deep many fs = if is_list_within fs then left_after_all deep many fs else None
