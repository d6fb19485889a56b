-- A pair that is written is read back.
use Rattle.std.proofs.Common.{◌≡◌, ℕ, ◌≤◌, ◌++◌, Result, Ok, Err, refl, ap, arith}
use Rattle.std.specs.Fmt.{decimal}
use Rattle.std.proofs.lemmas.Fmt.{decimal_injective}
use Rattle.table_terms.specs.declared.side.Side.{Side}
use Rattle.table_terms.specs.declared.side.Side.TheVariants.{NorthSouth, EastWest}
use Rattle.table_terms.specs.declared.pair.Pair.{Pair}
use Rattle.table_terms.specs.declared.pair_reading.NotAPair.{NotAPair}
use Rattle.table_terms.specs.Side.{side_text}
use Rattle.table_terms.specs.Pair.{pair_text}
use Rattle.table_terms.specs.PairReading.{ReadsPair}

-- a side and a number are written in one way
same_side : (one other : Side) (m n : ℕ) → m ≤ 255 → n ≤ 255 → side_text one ++ decimal m ≡ side_text other
    ++ decimal n → (one ≡ other) × (m ≡ n)
same_side NorthSouth NorthSouth m n small also_small e =
    let digits : decimal m ≡ decimal n = cc in (refl, decimal_injective m n (omega arith) (omega arith) digits)
same_side NorthSouth EastWest m n small also_small e = let first : ◌≡◌ {A = ℕ} 78 69 = cc in absurd (omega arith)
same_side EastWest NorthSouth m n small also_small e = let first : ◌≡◌ {A = ℕ} 69 78 = cc in absurd (omega arith)
same_side EastWest EastWest m n small also_small e =
    let digits : decimal m ≡ decimal n = cc in (refl, decimal_injective m n (omega arith) (omega arith) digits)

pub pair_back : (pair : Pair) (read : Result Pair NotAPair) → 1 ≤ pair.number → pair.number ≤ 255 →
    ReadsPair (pair_text pair) read → read ≡ Ok pair
pair_back pair (Ok other) least most h =
    let same = same_side other.side pair.side other.number pair.number h.0.most most h.0.written in
    ap Ok (λ i. record { side = same.0 i; number = same.1 i })
pair_back pair (Err e) least most h = absurd (h.1 pair (record { written = refl; least = least; most = most }))
