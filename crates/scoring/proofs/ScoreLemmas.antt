-- How scores of one contract compare.
use Rattle.std.proofs.Common.{
  ◌≡◌,
  ℕ,
  zero,
  suc,
  ◌+◌,
  ◌-◌,
  ◌*◌,
  ◌<◌,
  ◌≤◌,
  Bool,
  true,
  false,
  ℤ,
  pos,
  neg_ℤ,
  ◌<ℤ◌,
  ◌↔◌,
  inl,
  inr,
  refl,
  arith,
}
use Rattle.std.proofs.lemmas.Bool.{le-leb, lt-leb, cases_lt}
use Rattle.std.proofs.lemmas.Int.{ints}
use Rattle.table_terms.specs.declared.strain.Strain.{Strain}
use Rattle.table_terms.specs.declared.strain.Strain.TheVariants.{Spades, Hearts, Diamonds, Clubs, NoTrump}
use Rattle.table_terms.specs.declared.side.Side.{Side}
use Rattle.table_terms.specs.declared.side.Side.TheVariants.{NorthSouth, EastWest}
use Rattle.table_terms.specs.declared.vulnerability.Vulnerability.{Vulnerability}
use Rattle.table_terms.specs.Place.{side_of}
use Rattle.table_terms.specs.Vulnerability.{is_vulnerable}
use Rattle.scoring.specs.declared.outcome.Outcome.{Outcome}
use Rattle.scoring.specs.declared.outcome.Outcome.TheVariants.{PassedOut, Played}
use Rattle.scoring.specs.declared.contract.Contract.{Contract}
use Rattle.scoring.specs.declared.doubling.Doubling.{Doubling}
use Rattle.scoring.specs.declared.doubling.Doubling.TheVariants.{Undoubled, Doubled, Redoubled}
use Rattle.scoring.specs.Law77.{
  first_odd_trick,
  trick_value,
  factor,
  overtrick,
  undertrick,
  undertricks,
  tricks_needed,
  made_score,
  score_of,
  for_north_south,
  ns_score_of,
}

-- ---- made or set

pub score-made : (contract : Contract) (vulnerable : Bool) (tricks : ℕ) → tricks_needed contract ≤ tricks →
    score_of contract vulnerable tricks ≡ pos (made_score contract vulnerable (tricks - tricks_needed contract))
score-made contract vulnerable tricks made = rw (le-leb (6 + contract.level) tricks made) refl

pub score-set : (contract : Contract) (vulnerable : Bool) (tricks : ℕ) → tricks < tricks_needed contract →
    score_of contract vulnerable tricks ≡ neg_ℤ
    (pos (undertricks vulnerable contract.doubling (tricks_needed contract - tricks)))
score-set contract vulnerable tricks short = rw (lt-leb (6 + contract.level) tricks short) refl

first_odd_trick_least : (strain : Strain) → 20 ≤ first_odd_trick strain
first_odd_trick_least Spades = omega arith
first_odd_trick_least Hearts = omega arith
first_odd_trick_least Diamonds = omega arith
first_odd_trick_least Clubs = omega arith
first_odd_trick_least NoTrump = omega arith

factor_least : (doubling : Doubling) (points : ℕ) → points ≤ points * factor doubling
factor_least Undoubled points = omega arith
factor_least Doubled points = omega arith
factor_least Redoubled points = omega arith

made_score_least : (contract : Contract) (vulnerable : Bool) (overtricks : ℕ) → 0 < made_score contract vulnerable
    overtricks
made_score_least contract vulnerable overtricks =
    let first = first_odd_trick_least contract.strain in
    let tricks = factor_least contract.doubling (first_odd_trick contract.strain + (contract.level - 1) * trick_value
    contract.strain) in
    omega arith

pub made_above_zero : (contract : Contract) (vulnerable : Bool) (tricks : ℕ) → tricks_needed contract ≤ tricks →
    pos 0 <ℤ score_of contract vulnerable tricks
made_above_zero contract vulnerable tricks made =
    rw (score-made contract vulnerable tricks made)
    (omega (arith, ints, made_score_least contract vulnerable (tricks - tricks_needed contract)))

undertrick_least : (vulnerable : Bool) (doubling : Doubling) (others : ℕ) → 50 ≤ undertrick vulnerable doubling others
undertrick_least false Undoubled zero = omega arith
undertrick_least false Undoubled (suc zero) = omega arith
undertrick_least false Undoubled (suc (suc zero)) = omega arith
undertrick_least false Undoubled (suc (suc (suc k))) = omega arith
undertrick_least false Doubled zero = omega arith
undertrick_least false Doubled (suc zero) = omega arith
undertrick_least false Doubled (suc (suc zero)) = omega arith
undertrick_least false Doubled (suc (suc (suc k))) = omega arith
undertrick_least false Redoubled zero = omega arith
undertrick_least false Redoubled (suc zero) = omega arith
undertrick_least false Redoubled (suc (suc zero)) = omega arith
undertrick_least false Redoubled (suc (suc (suc k))) = omega arith
undertrick_least true Undoubled zero = omega arith
undertrick_least true Undoubled (suc zero) = omega arith
undertrick_least true Undoubled (suc (suc zero)) = omega arith
undertrick_least true Undoubled (suc (suc (suc k))) = omega arith
undertrick_least true Doubled zero = omega arith
undertrick_least true Doubled (suc zero) = omega arith
undertrick_least true Doubled (suc (suc zero)) = omega arith
undertrick_least true Doubled (suc (suc (suc k))) = omega arith
undertrick_least true Redoubled zero = omega arith
undertrick_least true Redoubled (suc zero) = omega arith
undertrick_least true Redoubled (suc (suc zero)) = omega arith
undertrick_least true Redoubled (suc (suc (suc k))) = omega arith

undertricks_least : (vulnerable : Bool) (doubling : Doubling) (count : ℕ) → 0 < count → 0 < undertricks vulnerable
    doubling count
undertricks_least vulnerable doubling zero some = absurd (omega arith)
undertricks_least vulnerable doubling (suc others) some = omega (arith, undertrick_least vulnerable doubling others)

-- the greater loss is the lower score
pub lower : (m n : ℕ) → m < n → neg_ℤ (pos n) <ℤ neg_ℤ (pos m)
lower m n h = omega (arith, ints)

pub set_below_zero : (contract : Contract) (vulnerable : Bool) (tricks : ℕ) → tricks < tricks_needed contract →
    score_of contract vulnerable tricks <ℤ pos 0
set_below_zero contract vulnerable tricks short =
    rw (score-set contract vulnerable tricks short)
    (lower 0 _ (undertricks_least vulnerable contract.doubling (tricks_needed contract - tricks) (omega arith)))

-- ---- one more trick

overtrick_least : (vulnerable : Bool) (strain : Strain) (doubling : Doubling) → 0 < overtrick vulnerable strain doubling
overtrick_least vulnerable Spades Undoubled = omega arith
overtrick_least vulnerable Hearts Undoubled = omega arith
overtrick_least vulnerable Diamonds Undoubled = omega arith
overtrick_least vulnerable Clubs Undoubled = omega arith
overtrick_least vulnerable NoTrump Undoubled = omega arith
overtrick_least false strain Doubled = omega arith
overtrick_least true strain Doubled = omega arith
overtrick_least false strain Redoubled = omega arith
overtrick_least true strain Redoubled = omega arith

made_score_more : (contract : Contract) (vulnerable : Bool) (overtricks : ℕ) → made_score contract vulnerable overtricks
    < made_score contract vulnerable (overtricks + 1)
made_score_more contract vulnerable overtricks =
    omega (arith, overtrick_least vulnerable contract.strain contract.doubling)

undertricks_more : (vulnerable : Bool) (doubling : Doubling) (count : ℕ) → undertricks vulnerable doubling count <
    undertricks vulnerable doubling (suc count)
undertricks_more vulnerable doubling count = omega (arith, undertrick_least vulnerable doubling count)

zero_between : (x y : ℤ) → x <ℤ pos 0 → pos 0 <ℤ y → x <ℤ y
zero_between x y h g = omega (arith, ints)

pub higher : (m n : ℕ) → m < n → pos m <ℤ pos n
higher m n h = omega (arith, ints)

pub one_more_trick : (contract : Contract) (vulnerable : Bool) (tricks : ℕ) → score_of contract vulnerable tricks <ℤ
    score_of contract vulnerable (tricks + 1)
one_more_trick contract vulnerable tricks =
    let needed = tricks_needed contract in
    elim (cases_lt tricks needed) [
      | inr made ↦
          let over : tricks + 1 - needed ≡ (tricks - needed) + 1 = omega arith in
          let more : tricks_needed contract ≤ tricks + 1 = omega arith in
          rw (score-made contract vulnerable tricks made, score-made contract vulnerable (tricks + 1) more, over)
          (higher _ _ (made_score_more contract vulnerable (tricks - needed)))
      | inl short ↦ elim (cases_lt (tricks + 1) needed) [
        | inr just ↦ zero_between _ _ (set_below_zero contract vulnerable tricks short)
            (made_above_zero contract vulnerable (tricks + 1) just)
        | inl still ↦
            let under : needed - tricks ≡ suc (needed - (tricks + 1)) = omega arith in
            rw (score-set contract vulnerable tricks short, score-set contract vulnerable (tricks + 1) still, under)
            (lower _ _ (undertricks_more vulnerable contract.doubling (needed - (tricks + 1))))
      ]
    ]

-- ---- passed out

not_zero : (contract : Contract) (vulnerable : Bool) (tricks : ℕ) → score_of contract vulnerable tricks ≡ pos 0 → ⊥
not_zero contract vulnerable tricks zero_score =
    elim (cases_lt tricks (tricks_needed contract)) [
      | inl short ↦ let below = set_below_zero contract vulnerable tricks short in omega (arith, ints)
      | inr made ↦ let above = made_above_zero contract vulnerable tricks made in omega (arith, ints)
    ]

not_zero_either_way : (side : Side) (points : ℤ) → for_north_south side points ≡ pos 0 → points ≡ pos 0
not_zero_either_way NorthSouth points h = h
not_zero_either_way EastWest points h = omega (arith, ints)

pub zero_when_passed_out : (outcome : Outcome) (vulnerability : Vulnerability) →
    (ns_score_of outcome vulnerability ≡ pos 0) ↔ (outcome ≡ PassedOut)
zero_when_passed_out PassedOut vulnerability = (λ _. refl, λ _. refl)
zero_when_passed_out (Played contract tricks) vulnerability = (
  λ h. absurd (not_zero contract (is_vulnerable vulnerability (side_of contract.declarer)) tricks
      (not_zero_either_way (side_of contract.declarer) _ h)),
  λ same. cc,
)
