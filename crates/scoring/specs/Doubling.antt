-- Doubling and redoubling (Law 19).
use Rattle.std.specs.Prelude.{ℕ}
use Rattle.scoring.specs.declared.doubling.Doubling.{Doubling}
use Rattle.scoring.specs.declared.doubling.Doubling.TheVariants.{Undoubled, Doubled, Redoubled}

-- how often a contract was doubled: a redoubled one twice
abbrev pub times_doubled : Doubling → ℕ
times_doubled Undoubled = 0
times_doubled Doubled = 1
times_doubled Redoubled = 2
