-- Law 2: which player deals a board, and which sides are vulnerable on it.
use Rattle.std.specs.Prelude.{ℕ, ◌+◌, ◌-◌, ◌%◌, List, [], ◌∷◌, Contains}
use Rattle.table_terms.specs.declared.place.Place.{Place}
use Rattle.table_terms.specs.declared.place.Place.TheVariants.{North, East, South, West}
use Rattle.table_terms.specs.declared.vulnerability.Vulnerability.{Vulnerability}
use Rattle.table_terms.specs.declared.vulnerability.Vulnerability.TheVariants.{Neither, NorthSouth, EastWest, Both}

-- the board of the first sixteen whose markings a board has: each further series of sixteen repeats them
abbrev pub first_like : ℕ → ℕ
first_like board = (board - 1) % 16 + 1

-- the boards of the first sixteen that a player deals
abbrev pub dealt_by : Place → List ℕ
dealt_by North = 1 ∷ 5 ∷ 9 ∷ 13 ∷ []
dealt_by East = 2 ∷ 6 ∷ 10 ∷ 14 ∷ []
dealt_by South = 3 ∷ 7 ∷ 11 ∷ 15 ∷ []
dealt_by West = 4 ∷ 8 ∷ 12 ∷ 16 ∷ []

-- the boards of the first sixteen with a marking
abbrev pub marked : Vulnerability → List ℕ
marked Neither = 1 ∷ 8 ∷ 11 ∷ 14 ∷ []
marked NorthSouth = 2 ∷ 5 ∷ 12 ∷ 15 ∷ []
marked EastWest = 3 ∷ 6 ∷ 9 ∷ 16 ∷ []
marked Both = 4 ∷ 7 ∷ 10 ∷ 13 ∷ []

-- the player deals the board
abbrev pub IsDealer : ℕ → Place → Type 0
IsDealer board place = Contains (dealt_by place) (first_like board)

-- the board has the marking
abbrev pub IsMarked : ℕ → Vulnerability → Type 0
IsMarked board vulnerability = Contains (marked vulnerability) (first_like board)
