-- How a pair is read.
use Rattle.std.specs.Prelude.{◌≡◌, ℕ, ◌≤◌, List, Result, IfOk, OnErr}
use Rattle.table_terms.specs.declared.pair.Pair.{Pair}
use Rattle.table_terms.specs.declared.pair_reading.NotAPair.{NotAPair}
use Rattle.table_terms.specs.Pair.{pair_text}

-- the text is what is written of the pair, and its number is from 1 to 255
pub record IsPairText (pair : Pair) (text : List ℕ) : Type 0 where
  pub written : pair_text pair ≡ text
  pub least : 1 ≤ pair.number
  pub most : pair.number ≤ 255

-- what reading a text gives: the pair whose text it is, or an error where it is no pair's
abbrev pub ReadsPair : List ℕ → Result Pair NotAPair → Type 0
ReadsPair text read = IfOk read (λ pair. IsPairText pair text) × OnErr read ((pair : Pair) → ¬ IsPairText pair text)
