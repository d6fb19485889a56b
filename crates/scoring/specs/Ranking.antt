-- own: the order in which the pairs of a session rank. The first key that tells two standings apart decides; the keys
-- in their order are percentage, side, number, tops, earned.
use Rattle.std.specs.Prelude.{◌≡◌, ℕ, ◌*◌, ◌<◌, ◌⊎◌}
use Rattle.table_terms.specs.declared.side.Side.{Side}
use Rattle.table_terms.specs.declared.side.Side.TheVariants.{NorthSouth, EastWest}
use Rattle.scoring.specs.declared.standing.Standing.{Standing}

-- the keys, in their order
pub data Key : Type 0 where
  ByPercentage : Key
  BySide : Key
  ByNumber : Key
  ByTops : Key
  ByEarned : Key

-- the place of a key in their order
abbrev pub key_order : Key → ℕ
key_order ByPercentage = 0
key_order BySide = 1
key_order ByNumber = 2
key_order ByTops = 3
key_order ByEarned = 4

-- a has earned a greater part of its tops than b, by cross product; whoever has no tops comes after all who have some
abbrev pub HasHigherPercentage : Standing → Standing → Type 0
HasHigherPercentage a b = (0 < a.tops) × ((b.tops ≡ 0) ⊎ (b.earned * a.tops < a.earned * b.tops))

-- North-South before East-West
abbrev pub place_of_side : Side → ℕ
place_of_side NorthSouth = 0
place_of_side EastWest = 1

-- a comes before b by that key alone: by percentage the greater comes first, by each other key the smaller
abbrev pub IsBefore : Key → Standing → Standing → Type 0
IsBefore ByPercentage a b = HasHigherPercentage a b
IsBefore BySide a b = place_of_side a.pair.side < place_of_side b.pair.side
IsBefore ByNumber a b = a.pair.number < b.pair.number
IsBefore ByTops a b = a.tops < b.tops
IsBefore ByEarned a b = a.earned < b.earned

-- the key tells neither from the other
abbrev pub IsTied : Key → Standing → Standing → Type 0
IsTied key a b = (¬ IsBefore key a b) × (¬ IsBefore key b a)

-- a ranks before b: it comes before b by some key, and all earlier keys are tied
pub record RanksBefore (a b : Standing) : Type 0 where
  pub key : Key
  pub before : IsBefore key a b
  pub earlier : (other : Key) → key_order other < key_order key → IsTied other a b
