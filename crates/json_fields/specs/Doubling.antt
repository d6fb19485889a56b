-- Numbers that say how often a contract was doubled.
use Rattle.std.specs.Prelude.{ℕ, zero, suc, Option, Some, None}
use Rattle.scoring.specs.declared.doubling.Doubling.{Doubling}
use Rattle.scoring.specs.declared.doubling.Doubling.TheVariants.{Undoubled, Doubled, Redoubled}

-- the doubling by how often the contract was doubled
abbrev pub doubling_numbered : ℕ → Option Doubling
doubling_numbered zero = Some Undoubled
doubling_numbered (suc zero) = Some Doubled
doubling_numbered (suc (suc zero)) = Some Redoubled
doubling_numbered (suc (suc (suc n))) = None
