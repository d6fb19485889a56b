-- What doubling, vulnerability and the level change.
use Rattle.std.proofs.Common.{
  ◌≡◌,
  ℕ,
  zero,
  suc,
  ◌+◌,
  ◌-◌,
  ◌*◌,
  ◌<◌,
  ◌≤◌,
  Bool,
  true,
  false,
  pos,
  ◌<ℤ◌,
  ◌≤ℤ◌,
  sym,
  subst,
  arith,
}
use Rattle.std.proofs.lemmas.Bool.Decides.{nat_tests}
use Rattle.std.proofs.lemmas.Int.{ints}
use Rattle.table_terms.specs.declared.strain.Strain.{Strain}
use Rattle.table_terms.specs.declared.strain.Strain.TheVariants.{Spades, Hearts, Diamonds, Clubs, NoTrump}
use Rattle.scoring.specs.declared.contract.Contract.{Contract}
use Rattle.scoring.specs.declared.doubling.Doubling.{Doubling}
use Rattle.scoring.specs.declared.doubling.Doubling.TheVariants.{Undoubled, Doubled, Redoubled}
use Rattle.scoring.specs.Law77.{
  first_odd_trick,
  trick_value,
  trick_score,
  slam,
  game_or_partscore,
  overtrick,
  undertrick,
  undertricks,
  tricks_needed,
  made_score,
  score_of,
}
use Rattle.scoring.proofs.ScoreLemmas.{score-made, score-set, lower}

no_higher : (m n : ℕ) → m ≤ n → pos m ≤ℤ pos n
no_higher m n h = omega (arith, ints)

-- ---- contracts that are made

game_le : (vulnerable : Bool) (m n : ℕ) → m ≤ n → game_or_partscore vulnerable m ≤ game_or_partscore vulnerable n
game_le false m n h = grind (arith, nat_tests)
game_le true m n h = grind (arith, nat_tests)

overtricks-doubled : (vulnerable : Bool) (strain : Strain) (count : ℕ) → count * overtrick vulnerable strain Undoubled ≤
    count * overtrick vulnerable strain Doubled
overtricks-doubled false Spades count = omega arith
overtricks-doubled false Hearts count = omega arith
overtricks-doubled false Diamonds count = omega arith
overtricks-doubled false Clubs count = omega arith
overtricks-doubled false NoTrump count = omega arith
overtricks-doubled true Spades count = omega arith
overtricks-doubled true Hearts count = omega arith
overtricks-doubled true Diamonds count = omega arith
overtricks-doubled true Clubs count = omega arith
overtricks-doubled true NoTrump count = omega arith

overtricks-redoubled : (vulnerable : Bool) (strain : Strain) (count : ℕ) → count * overtrick vulnerable strain Doubled ≤
    count * overtrick vulnerable strain Redoubled
overtricks-redoubled false strain count = omega arith
overtricks-redoubled true strain count = omega arith

made_score-doubled : (contract : Contract) (vulnerable : Bool) (overtricks : ℕ) →
    made_score (record contract { doubling = Undoubled }) vulnerable overtricks ≤ made_score
    (record contract { doubling = Doubled }) vulnerable overtricks
made_score-doubled contract vulnerable overtricks =
    let undoubled = first_odd_trick contract.strain + (contract.level - 1) * trick_value contract.strain in
    let game = game_le vulnerable (undoubled * 1) (undoubled * 2) (omega arith) in
    let over = overtricks-doubled vulnerable contract.strain overtricks in
    omega (arith, game, over)

made_score-redoubled : (contract : Contract) (vulnerable : Bool) (overtricks : ℕ) →
    made_score (record contract { doubling = Doubled }) vulnerable overtricks ≤ made_score
    (record contract { doubling = Redoubled }) vulnerable overtricks
made_score-redoubled contract vulnerable overtricks =
    let undoubled = first_odd_trick contract.strain + (contract.level - 1) * trick_value contract.strain in
    let game = game_le vulnerable (undoubled * 2) (undoubled * 4) (omega arith) in
    let over = overtricks-redoubled vulnerable contract.strain overtricks in
    omega (arith, game, over)

pub made-doubled : (contract : Contract) (vulnerable : Bool) (tricks : ℕ) → tricks_needed contract ≤ tricks →
    score_of (record contract { doubling = Undoubled }) vulnerable tricks ≤ℤ score_of
    (record contract { doubling = Doubled }) vulnerable tricks
made-doubled contract vulnerable tricks made =
    rw (
      score-made (record contract { doubling = Undoubled }) vulnerable tricks made,
      score-made (record contract { doubling = Doubled }) vulnerable tricks made,
    )
    (no_higher _ _ (made_score-doubled contract vulnerable (tricks - tricks_needed contract)))

pub made-redoubled : (contract : Contract) (vulnerable : Bool) (tricks : ℕ) → tricks_needed contract ≤ tricks →
    score_of (record contract { doubling = Doubled }) vulnerable tricks ≤ℤ score_of
    (record contract { doubling = Redoubled }) vulnerable tricks
made-redoubled contract vulnerable tricks made =
    rw (
      score-made (record contract { doubling = Doubled }) vulnerable tricks made,
      score-made (record contract { doubling = Redoubled }) vulnerable tricks made,
    )
    (no_higher _ _ (made_score-redoubled contract vulnerable (tricks - tricks_needed contract)))

slam-vulnerable : (level : ℕ) → slam false level ≤ slam true level
slam-vulnerable level = grind (arith, nat_tests)

game-vulnerable : (tricks : ℕ) → game_or_partscore false tricks ≤ game_or_partscore true tricks
game-vulnerable tricks = grind (arith, nat_tests)

overtricks-vulnerable : (strain : Strain) (doubling : Doubling) (count : ℕ) → count * overtrick false strain doubling ≤
    count * overtrick true strain doubling
overtricks-vulnerable strain Undoubled count = omega arith
overtricks-vulnerable strain Doubled count = omega arith
overtricks-vulnerable strain Redoubled count = omega arith

made_score-vulnerable : (contract : Contract) (overtricks : ℕ) → made_score contract false overtricks ≤ made_score
    contract true overtricks
made_score-vulnerable contract overtricks =
    let slams = slam-vulnerable contract.level in
    let game = game-vulnerable (trick_score contract) in
    let over = overtricks-vulnerable contract.strain contract.doubling overtricks in
    omega (arith, slams, game, over)

pub made-vulnerable : (contract : Contract) (tricks : ℕ) → tricks_needed contract ≤ tricks → score_of contract false
    tricks ≤ℤ score_of contract true tricks
made-vulnerable contract tricks made =
    rw (score-made contract false tricks made, score-made contract true tricks made)
    (no_higher _ _ (made_score-vulnerable contract (tricks - tricks_needed contract)))

-- ---- contracts that are set

-- undertricks cost more where the first costs more, and no other costs less
undertricks-lt : (v w : Bool) (d e : Doubling) → undertrick v d 0 < undertrick w e 0 →
    ((k : ℕ) → undertrick v d k ≤ undertrick w e k) → (count : ℕ) → 0 < count → undertricks v d count < undertricks w e
    count
undertricks-lt v w d e first each zero some = absurd (omega arith)
undertricks-lt v w d e first each (suc zero) some = omega (arith, first)
undertricks-lt v w d e first each (suc (suc k)) some = omega (
  arith,
  undertricks-lt v w d e first each (suc k)
      (omega arith),
  each (suc k),
)

undertrick-doubled : (vulnerable : Bool) (k : ℕ) → undertrick vulnerable Undoubled k < undertrick vulnerable Doubled k
undertrick-doubled false zero = omega arith
undertrick-doubled false (suc zero) = omega arith
undertrick-doubled false (suc (suc zero)) = omega arith
undertrick-doubled false (suc (suc (suc k))) = omega arith
undertrick-doubled true zero = omega arith
undertrick-doubled true (suc zero) = omega arith
undertrick-doubled true (suc (suc zero)) = omega arith
undertrick-doubled true (suc (suc (suc k))) = omega arith

undertrick-redoubled : (vulnerable : Bool) (k : ℕ) → undertrick vulnerable Doubled k < undertrick vulnerable Redoubled k
undertrick-redoubled false zero = omega arith
undertrick-redoubled false (suc zero) = omega arith
undertrick-redoubled false (suc (suc zero)) = omega arith
undertrick-redoubled false (suc (suc (suc k))) = omega arith
undertrick-redoubled true zero = omega arith
undertrick-redoubled true (suc zero) = omega arith
undertrick-redoubled true (suc (suc zero)) = omega arith
undertrick-redoubled true (suc (suc (suc k))) = omega arith

first-vulnerable : (doubling : Doubling) → undertrick false doubling 0 < undertrick true doubling 0
first-vulnerable Undoubled = omega arith
first-vulnerable Doubled = omega arith
first-vulnerable Redoubled = omega arith

undertrick-vulnerable : (doubling : Doubling) (k : ℕ) → undertrick false doubling k ≤ undertrick true doubling k
undertrick-vulnerable Undoubled zero = omega arith
undertrick-vulnerable Undoubled (suc zero) = omega arith
undertrick-vulnerable Undoubled (suc (suc zero)) = omega arith
undertrick-vulnerable Undoubled (suc (suc (suc k))) = omega arith
undertrick-vulnerable Doubled zero = omega arith
undertrick-vulnerable Doubled (suc zero) = omega arith
undertrick-vulnerable Doubled (suc (suc zero)) = omega arith
undertrick-vulnerable Doubled (suc (suc (suc k))) = omega arith
undertrick-vulnerable Redoubled zero = omega arith
undertrick-vulnerable Redoubled (suc zero) = omega arith
undertrick-vulnerable Redoubled (suc (suc zero)) = omega arith
undertrick-vulnerable Redoubled (suc (suc (suc k))) = omega arith

pub set-doubled : (contract : Contract) (vulnerable : Bool) (tricks : ℕ) → tricks < tricks_needed contract →
    score_of (record contract { doubling = Doubled }) vulnerable tricks <ℤ score_of
    (record contract { doubling = Undoubled }) vulnerable tricks
set-doubled contract vulnerable tricks short =
    rw (
      score-set (record contract { doubling = Doubled }) vulnerable tricks short,
      score-set (record contract { doubling = Undoubled }) vulnerable tricks short,
    )
    (lower _ _ (undertricks-lt vulnerable vulnerable Undoubled Doubled (undertrick-doubled vulnerable 0)
    (λ k. omega (arith, undertrick-doubled vulnerable k)) (tricks_needed contract - tricks) (omega arith)))

pub set-redoubled : (contract : Contract) (vulnerable : Bool) (tricks : ℕ) → tricks < tricks_needed contract →
    score_of (record contract { doubling = Redoubled }) vulnerable tricks <ℤ score_of
    (record contract { doubling = Doubled }) vulnerable tricks
set-redoubled contract vulnerable tricks short =
    rw (
      score-set (record contract { doubling = Redoubled }) vulnerable tricks short,
      score-set (record contract { doubling = Doubled }) vulnerable tricks short,
    )
    (lower _ _ (undertricks-lt vulnerable vulnerable Doubled Redoubled (undertrick-redoubled vulnerable 0)
    (λ k. omega (arith, undertrick-redoubled vulnerable k)) (tricks_needed contract - tricks) (omega arith)))

pub set-vulnerable : (contract : Contract) (tricks : ℕ) → tricks < tricks_needed contract → score_of contract true
    tricks <ℤ score_of contract false tricks
set-vulnerable contract tricks short =
    rw (score-set contract true tricks short, score-set contract false tricks short)
    (lower _ _ (undertricks-lt false true contract.doubling contract.doubling (first-vulnerable contract.doubling)
    (undertrick-vulnerable contract.doubling) (tricks_needed contract - tricks) (omega arith)))

-- ---- one level more

slam_le : (vulnerable : Bool) (level : ℕ) → level < 7 → slam vulnerable level ≤ slam vulnerable (level + 1)
slam_le false level h = grind (arith, nat_tests)
slam_le true level h = grind (arith, nat_tests)

-- an odd trick counts the same bid as over, undoubled
trick_moved : (strain : Strain) (level overtricks : ℕ) → 1 ≤ level →
    (first_odd_trick strain + (level - 1) * trick_value strain) * 1 + (overtricks + 1) * trick_value strain ≡
    (first_odd_trick strain + (level + 1 - 1) * trick_value strain) * 1 + overtricks * trick_value strain
trick_moved Spades level overtricks least = omega arith
trick_moved Hearts level overtricks least = omega arith
trick_moved Diamonds level overtricks least = omega arith
trick_moved Clubs level overtricks least = omega arith
trick_moved NoTrump level overtricks least = omega arith

trick_score_le : (strain : Strain) (level : ℕ) → (first_odd_trick strain + (level - 1) * trick_value strain) * 1 ≤
    (first_odd_trick strain + (level + 1 - 1) * trick_value strain) * 1
trick_score_le Spades level = omega arith
trick_score_le Hearts level = omega arith
trick_score_le Diamonds level = omega arith
trick_score_le Clubs level = omega arith
trick_score_le NoTrump level = omega arith

made_score-level : (contract : Contract) (vulnerable : Bool) (overtricks : ℕ) → 1 ≤ contract.level →
    contract.level < 7 → made_score (record contract { doubling = Undoubled }) vulnerable (overtricks + 1) ≤ made_score
    (record contract { doubling = Undoubled; level = contract.level + 1 }) vulnerable overtricks
made_score-level contract vulnerable overtricks least most =
    let slams = slam_le vulnerable contract.level most in
    let moved = trick_moved contract.strain contract.level overtricks least in
    let game = game_le vulnerable _ _ (trick_score_le contract.strain contract.level) in
    omega (arith, slams, moved, game)

made-level_undoubled : (contract : Contract) (vulnerable : Bool) (tricks : ℕ) → 1 ≤ contract.level →
    contract.level < 7 → tricks_needed contract < tricks → score_of (record contract { doubling = Undoubled })
    vulnerable tricks ≤ℤ score_of (record contract { doubling = Undoubled; level = contract.level + 1 }) vulnerable
    tricks
made-level_undoubled contract vulnerable tricks least most made =
    let over : tricks - tricks_needed contract ≡ (tricks - (6 + (contract.level + 1))) + 1 = omega arith in
    rw (
      score-made (record contract { doubling = Undoubled }) vulnerable tricks (omega arith),
      score-made (record contract { doubling = Undoubled; level = contract.level + 1 }) vulnerable tricks
          (omega arith),
      over,
    )
    (no_higher _ _ (made_score-level contract vulnerable (tricks - (6 + (contract.level + 1))) least most))

pub made-level : (contract : Contract) (vulnerable : Bool) (tricks : ℕ) → contract.doubling ≡ Undoubled →
    1 ≤ contract.level → contract.level < 7 → tricks_needed contract < tricks → score_of contract vulnerable tricks ≤ℤ
    score_of (record contract { level = contract.level + 1 }) vulnerable tricks
made-level contract vulnerable tricks undoubled least most made =
    let P : Doubling → Type 0 = λ d. score_of (record contract { doubling = d }) vulnerable tricks ≤ℤ score_of
    (record contract { doubling = d; level = contract.level + 1 }) vulnerable tricks in
    subst P (sym undoubled) (made-level_undoubled contract vulnerable tricks least most made)
