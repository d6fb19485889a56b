-- Law 77 of the Laws of Duplicate Bridge 2017: what a contract scores for declarer's side. One definition for each line
-- of the law's table, in its order.
use Rattle.std.specs.Prelude.{
  ℕ,
  zero,
  suc,
  ◌+◌,
  ◌-◌,
  ◌*◌,
  ℤ,
  pos,
  neg_ℤ,
  Bool,
  true,
  false,
  nat_le,
  ◌==◌,
  if◌then◌else◌,
}
use Rattle.table_terms.specs.declared.side.Side.{Side}
use Rattle.table_terms.specs.declared.side.Side.TheVariants.{NorthSouth, EastWest}
use Rattle.table_terms.specs.declared.strain.Strain.{Strain}
use Rattle.table_terms.specs.declared.strain.Strain.TheVariants.{Spades, Hearts, Diamonds, Clubs, NoTrump}
use Rattle.table_terms.specs.declared.vulnerability.Vulnerability.{Vulnerability}
use Rattle.table_terms.specs.Place.{side_of}
use Rattle.table_terms.specs.Vulnerability.{is_vulnerable}
use Rattle.scoring.specs.declared.contract.Contract.{Contract}
use Rattle.scoring.specs.declared.doubling.Doubling.{Doubling}
use Rattle.scoring.specs.declared.doubling.Doubling.TheVariants.{Undoubled, Doubled, Redoubled}
use Rattle.scoring.specs.declared.outcome.Outcome.{Outcome}
use Rattle.scoring.specs.declared.outcome.Outcome.TheVariants.{PassedOut, Played}

-- for the first odd trick bid and made
abbrev pub first_odd_trick : Strain → ℕ
first_odd_trick Clubs = 20
first_odd_trick Diamonds = 20
first_odd_trick Hearts = 30
first_odd_trick Spades = 30
first_odd_trick NoTrump = 40

-- for each additional odd trick, which is also the trick value of an undoubled overtrick
abbrev pub trick_value : Strain → ℕ
trick_value Clubs = 20
trick_value Diamonds = 20
trick_value Hearts = 30
trick_value Spades = 30
trick_value NoTrump = 30

-- doubled tricks count twice, redoubled tricks four times
abbrev pub factor : Doubling → ℕ
factor Undoubled = 1
factor Doubled = 2
factor Redoubled = 4

-- the trick score: all odd tricks that were bid
abbrev pub trick_score : Contract → ℕ
trick_score contract =
    (first_odd_trick contract.strain + (contract.level - 1) * trick_value contract.strain) * factor contract.doubling

-- the two columns of the law's table, for declarer's side not vulnerable and vulnerable: a line has a number for each,
-- in this order
abbrev pub by_column : Bool → ℕ → ℕ → ℕ
by_column false not_vulnerable vulnerable = not_vulnerable
by_column true not_vulnerable vulnerable = vulnerable

-- for a small slam, level 6, bid and made
abbrev pub small_slam : Bool → ℕ
small_slam vulnerable = by_column vulnerable 500 750

-- for a grand slam, level 7, bid and made
abbrev pub grand_slam : Bool → ℕ
grand_slam vulnerable = by_column vulnerable 1000 1500

-- for making a slam
abbrev pub slam : Bool → ℕ → ℕ
slam vulnerable level = if level == 6 then small_slam vulnerable else if level == 7 then grand_slam vulnerable else 0

-- for each overtrick
abbrev pub overtrick : Bool → Strain → Doubling → ℕ
overtrick _ strain Undoubled = trick_value strain
overtrick vulnerable _ Doubled = by_column vulnerable 100 200
overtrick vulnerable _ Redoubled = by_column vulnerable 200 400

-- for making game: a trick score of 100 or more
abbrev pub game : Bool → ℕ
game vulnerable = by_column vulnerable 300 500

-- for making any partscore: a trick score below 100
abbrev pub partscore : ℕ
partscore = 50

-- for making game or a partscore
abbrev pub game_or_partscore : Bool → ℕ → ℕ
game_or_partscore vulnerable points = if nat_le 100 points then game vulnerable else partscore

-- for making any doubled or redoubled contract
abbrev pub doubled_contract : Doubling → ℕ
doubled_contract Undoubled = 0
doubled_contract Doubled = 50
doubled_contract Redoubled = 100

-- for the first undertrick
abbrev pub first_undertrick : Bool → Doubling → ℕ
first_undertrick vulnerable Undoubled = by_column vulnerable 50 100
first_undertrick vulnerable Doubled = by_column vulnerable 100 200
first_undertrick vulnerable Redoubled = by_column vulnerable 200 400

-- for each additional undertrick
abbrev pub additional_undertrick : Bool → Doubling → ℕ
additional_undertrick vulnerable Undoubled = by_column vulnerable 50 100
additional_undertrick vulnerable Doubled = by_column vulnerable 200 300
additional_undertrick vulnerable Redoubled = by_column vulnerable 400 600

-- the bonus for the fourth and each subsequent undertrick
abbrev pub fourth_undertrick_bonus : Bool → Doubling → ℕ
fourth_undertrick_bonus vulnerable Undoubled = 0
fourth_undertrick_bonus vulnerable Doubled = by_column vulnerable 100 0
fourth_undertrick_bonus vulnerable Redoubled = by_column vulnerable 200 0

-- an undertrick, after so many others
abbrev pub undertrick : Bool → Doubling → ℕ → ℕ
undertrick vulnerable doubling zero = first_undertrick vulnerable doubling
undertrick vulnerable doubling (suc zero) = additional_undertrick vulnerable doubling
undertrick vulnerable doubling (suc (suc zero)) = additional_undertrick vulnerable doubling
undertrick vulnerable doubling (suc (suc (suc _))) =
    additional_undertrick vulnerable doubling + fourth_undertrick_bonus vulnerable doubling

-- so many undertricks, added one by one: doubled and not vulnerable, four are 100 + 200 + 200 + 300
abbrev pub undertricks : Bool → Doubling → ℕ → ℕ
undertricks vulnerable doubling zero = 0
undertricks vulnerable doubling (suc others) =
    undertricks vulnerable doubling others + undertrick vulnerable doubling others

-- the tricks that fulfil a contract: six and its odd tricks
abbrev pub tricks_needed : Contract → ℕ
tricks_needed contract = 6 + contract.level

-- the score of a contract that is fulfilled with so many overtricks
abbrev pub made_score : Contract → Bool → ℕ → ℕ
made_score contract vulnerable overtricks =
    trick_score contract
    + slam vulnerable contract.level
    + overtricks * overtrick vulnerable contract.strain contract.doubling
    + game_or_partscore vulnerable (trick_score contract)
    + doubled_contract contract.doubling

-- the score of a contract for declarer's side; a contract that is set scores for the opponents
abbrev pub score_of : Contract → Bool → ℕ → ℤ
score_of contract vulnerable tricks =
    if nat_le (tricks_needed contract) tricks
    then pos (made_score contract vulnerable (tricks - tricks_needed contract))
    else neg_ℤ (pos (undertricks vulnerable contract.doubling (tricks_needed contract - tricks)))

-- a score of one side, for North-South
abbrev pub for_north_south : Side → ℤ → ℤ
for_north_south NorthSouth points = points
for_north_south EastWest points = neg_ℤ points

-- the score of a board for North-South; if all four players passed, a zero score is entered
abbrev pub ns_score_of : Outcome → Vulnerability → ℤ
ns_score_of PassedOut _ = pos 0
ns_score_of (Played contract tricks) vulnerability =
    let side = side_of contract.declarer in
    for_north_south side (score_of contract (is_vulnerable vulnerability side) tricks)
