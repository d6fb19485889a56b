-- The order in which pairs rank, as a test.
use Rattle.std.specs.Prelude.{◌*◌, Bool, ◌&&◌, ◌||◌, not, nat_lt, nat_eq}
use Rattle.scoring.specs.Ranking.{place_of_side}
use Rattle.scoring.specs.declared.standing.Standing.{Standing}

-- whether a has earned a greater part of its tops than b; whoever has no tops comes after all who have some
abbrev pub has_higher_percentage : Standing → Standing → Bool
has_higher_percentage a b = nat_lt 0 a.tops && (nat_eq b.tops 0 || nat_lt (b.earned * a.tops) (a.earned * b.tops))

-- whether a comes before b where neither has the higher percentage: by side, number, tops, earned
abbrev pub comes_before : Standing → Standing → Bool
comes_before a b =
    nat_lt (place_of_side a.pair.side) (place_of_side b.pair.side)
    || (nat_eq (place_of_side a.pair.side) (place_of_side b.pair.side)
    && (nat_lt a.pair.number b.pair.number
    || (nat_eq a.pair.number b.pair.number
    && (nat_lt a.tops b.tops || (nat_eq a.tops b.tops && nat_lt a.earned b.earned)))))

-- whether a ranks before b
unfoldable pub ranks_before : Standing → Standing → Bool
ranks_before a b =
    has_higher_percentage a b || (not (has_higher_percentage b a) && comes_before a b)
