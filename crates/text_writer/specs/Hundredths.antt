-- Numbers of hundredths, as 5625 hundredths are written `56.25`.
use Rattle.std.specs.Prelude.{ℕ, ◌/◌, ◌%◌, List, [], ◌∷◌, codes}
use Rattle.std.specs.Fmt.{decimal}
use Rattle.std.specs.List.{concat}

-- the whole, a point, the tenths and the hundredths
abbrev pub hundredths_text : ℕ → List ℕ
hundredths_text number =
    concat (decimal (number / 100) ∷ codes "." ∷ decimal ((number % 100) / 10) ∷ decimal (number % 10) ∷ [])
