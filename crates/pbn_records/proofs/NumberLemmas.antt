-- The number of decimal digits, one digit after another.
use Rattle.std.proofs.Common.{◌≡◌, ℕ, ◌+◌, ◌*◌, ◌-◌, ◌<◌, List, [], ◌∷◌, length, take, get_or, min, ap, ◌∙◌, arith}
use Rattle.std.proofs.lemmas.List.{take_more}
use Rattle.std.proofs.lemmas.List.Sums.{fold-append}
use Rattle.pbn_records.specs.Boards.{decimal_number}

pub number_more : (digits : List ℕ) (i : ℕ) → i < length digits →
    decimal_number (take (i + 1) digits) ≡ 10 * decimal_number (take i digits) + (get_or digits i 0 - 48)
number_more digits i within =
    ap decimal_number (take_more digits i 0 within)
    ∙ fold-append (λ number digit. 10 * number + (digit - 48)) 0 (take i digits) (get_or digits i 0 ∷ [])

-- more digits never make a number smaller
pub capped_more : (digits : List ℕ) (i number : ℕ) → i < length digits → number ≡ min (decimal_number (take i digits))
    256 →
    min (10 * number + (get_or digits i 0 - 48)) 256 ≡ min (decimal_number (take (i + 1) digits)) 256
capped_more digits i number within capped =
    let more = number_more digits i within in
    omega (arith, more, capped)
