-- The places of pairs and of classes.
use Rattle.std.specs.Prelude.{ℕ, ◌+◌, ◌-◌, nat_eq, nat_lt, if◌then◌else◌}
use Rattle.table_terms.specs.declared.pair.Pair.{Pair}
use Rattle.table_terms.specs.declared.side.Side.TheVariants.{NorthSouth, EastWest}
use Rattle.movement.specs.Movement.{most_tables}
use Rattle.standings.specs.Ranking.{pair_on}
use Rattle.class_views.specs.declared.user_class.UserClass.{UserClass}
use Rattle.class_views.specs.declared.user_class.UserClass.TheVariants.{OfPair, Unseated, Spectators, Directors}
use Rattle.class_views.specs.declared.user_class.UserClass.TheVariants.{Commentators}

-- how many pairs a section has at most, and how many classes there are: one of each pair, and four
abbrev pub pair_places : ℕ
pair_places = 32

abbrev pub class_places : ℕ
class_places = 36

-- the pair at a place, counted from 0: North-South 1, 2, .. and then East-West 1, 2, ..
unfoldable pub pair_at : ℕ → Pair
pair_at place =
    if nat_lt place most_tables then pair_on NorthSouth (place + 1) else pair_on EastWest (place - most_tables + 1)

-- the class at a place: those of the pairs come first
unfoldable pub class_at : ℕ → UserClass
class_at place =
    if nat_lt place pair_places then OfPair (pair_at place)
    else if nat_eq place 32 then Unseated
    else if nat_eq place 33 then Spectators
    else if nat_eq place 34 then Directors
    else Commentators
