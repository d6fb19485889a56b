-- What is kept beside a state, as it would be worked out afresh. An embargo is no matter to it: it is asked for when
-- what is kept is read.
use Rattle.std.specs.Prelude.{
  ◌≡◌,
  ◌≢◌,
  ◌≤◌,
  ◌<◌,
  ◌⊎◌,
  ℕ,
  ◌+◌,
  ◌-◌,
  Bool,
  ◌&&◌,
  min,
  nat_le,
  if◌then◌else◌,
  Some,
  List,
  [],
  length,
  get_or,
  slice_set,
}
use Rattle.std.specs.List.{range_with_len, sum_by}
use Rattle.table_terms.specs.declared.pair.Pair.{Pair}
use Rattle.movement.specs.Movement.{most_boards, boards_of}
use Rattle.scoring.specs.declared.standing.Standing.{Standing}
use Rattle.small_sets.specs.Numbers.{has_number, with_number, without_number}
use Rattle.session_state.specs.SessionState.{SessionState}
use Rattle.standings.specs.declared.earning.Earning.{Earning}
use Rattle.standings.specs.Ranking.{earned_by, top_for, standing_of}
use Rattle.class_views.specs.Classes.{class_sees, without_embargo}
use Rattle.class_views.specs.Places.{class_at, class_places, pair_places, pair_at}
use Rattle.class_views.specs.Totals.{earnings_on}
use Rattle.class_views.specs.declared.class_view.ClassView.{ClassView}
use Rattle.class_views.specs.declared.user_class.UserClass.{UserClass}

-- the most that a pair can earn on a board, as the type of what a result earns has it
abbrev pub most_earned : ℕ
most_earned = 68719476720

-- the greatest total that is kept
abbrev pub most_total : ℕ
most_total = 18446744073709551615

-- how the pairs stand by what these results earn, each at its place
abbrev pub AreStandings : List Earning → List Standing → Type 0
AreStandings earnings standings =
    (place : ℕ) (d : Standing) → place < pair_places → get_or standings place d ≡ standing_of earnings (pair_at place)

-- and no pair earns more than a board can give
pub record IsWithinBoard (standing : Standing) : Type 0 where
  pub earned : standing.earned ≤ most_earned
  pub tops : standing.tops ≤ most_earned

abbrev pub AreWithinBoard : List Standing → Type 0
AreWithinBoard standings = (place : ℕ) (d : Standing) → place < pair_places → IsWithinBoard (get_or standings place d)

-- and each pair stands by one list of them as by the other
abbrev pub AreAlike : List Standing → List Standing → Type 0
AreAlike one other = (place : ℕ) (d : Standing) → place < pair_places → get_or one place d ≡ get_or other place d

-- a number where a test holds, and else nothing
abbrev pub where_seen : Bool → ℕ → ℕ
where_seen sees number = if sees then number else 0

-- what the first so many boards count by a way to count, of those that are seen
unfoldable pub counted_to : (Earning → ℕ) → (ℕ → Bool) → (ℕ → List Earning) → ℕ → ℕ
counted_to count sees earned boards =
    sum_by (λ board. where_seen (sees board) (sum_by count (earned board))) (range_with_len 1 boards)

-- how a pair stands by the first so many boards, of those that are seen
abbrev pub total_to : (ℕ → Bool) → (ℕ → List Earning) → ℕ → Pair → Standing
total_to sees earned boards pair = record {
  pair = pair;
  earned = counted_to (earned_by pair) sees earned boards;
  tops = counted_to (top_for pair) sees earned boards;
}

-- what is kept of a class: which boards its users see, and how the pairs stand on these
pub record IsClassKept (boards : ℕ) (sees : ℕ → Bool) (earned : ℕ → List Earning) (kept : ClassView) : Type 0 where
  pub seen : (board : ℕ) → 1 ≤ board → board ≤ boards → has_number kept.boards board ≡ sees board
  pub totals : (place : ℕ) (d : Standing) → place < pair_places →
      get_or kept.totals place d ≡ total_to sees earned boards (pair_at place)

-- what is kept of so many boards: of each class what its users see, and of each board what it earns the pairs
pub record IsKept (boards : ℕ) (sees : UserClass → ℕ → Bool) (earned : ℕ → List Earning) (classes : List ClassView)
    (rows : List (List Standing)) : Type 0 where
  pub each_class : length classes ≡ class_places
  pub each_board : length rows ≡ boards
  pub classes_kept : (place : ℕ) (d : ClassView) → place < class_places →
      IsClassKept boards (sees (class_at place)) earned (get_or classes place d)
  pub rows_kept : (place : ℕ) (d : List Standing) → place < boards →
      AreStandings (earned (place + 1)) (get_or rows place d)
  pub rows_small : (place : ℕ) (d : List Standing) → place < boards → AreWithinBoard (get_or rows place d)

-- whether a class would be shown a board of a state without an embargo
abbrev pub seen_in : SessionState → UserClass → ℕ → Bool
seen_in state class board = class_sees (without_embargo state.public) (Some class) board

-- the same of the first so many boards alone, and what these earn
abbrev pub seen_to : SessionState → ℕ → UserClass → ℕ → Bool
seen_to state boards class board = nat_le board boards && seen_in state class board

abbrev pub earned_to : SessionState → ℕ → ℕ → List Earning
earned_to state boards board = if nat_le board boards then earnings_on state board else []

-- kept as they would be worked out afresh
abbrev pub IsKeptOf : SessionState → List ClassView → List (List Standing) → Type 0
IsKeptOf state classes rows =
    IsKept (boards_of state.public.movement) (seen_in state) (earnings_on state) classes rows

-- a board is now as it is in a state, and the others are as they were
pub record IsBoardOf (state : SessionState) (own boards : ℕ) (sees sees_now : UserClass → ℕ → Bool)
    (earned earned_now : ℕ → List Earning) : Type 0 where
  pub seen : (class : UserClass) → sees_now class own ≡ seen_in state class own
  pub seen_elsewhere : (class : UserClass) (board : ℕ) → board ≢ own → 1 ≤ board → board ≤ boards →
      sees_now class board ≡ sees class board
  pub earned_here : earned_now own ≡ earnings_on state own
  pub earned_elsewhere : (board : ℕ) → board ≢ own → 1 ≤ board → board ≤ boards → earned_now board ≡ earned board

-- a total with what a board counts now in place of what it counted, each where it is seen
unfoldable pub total_with : Bool → Standing → Bool → Standing → Standing → Standing
total_with saw old sees new total = record {
  pair = total.pair;
  earned = min (total.earned - where_seen saw old.earned + where_seen sees new.earned) most_total;
  tops = min (total.tops - where_seen saw old.tops + where_seen sees new.tops) most_total;
}

-- a board counts for a pair now what it counted before: nothing where it isn't seen, and else what it earns the pair
pub record CountsSame (saw : Bool) (old : Standing) (sees : Bool) (new : Standing) : Type 0 where
  pub earned : where_seen saw old.earned ≡ where_seen sees new.earned
  pub tops : where_seen saw old.tops ≡ where_seen sees new.tops

-- a total has what a board counts now in place of what it counted, or is as it was where the board counts the same
abbrev pub IsTotalWith : Bool → Standing → Bool → Standing → Standing → Standing → Type 0
IsTotalWith saw old sees new before after =
    (after ≡ total_with saw old sees new before) ⊎ (CountsSame saw old sees new × (after ≡ before))

-- a set of boards with a board or without it
abbrev pub boards_with : Bool → List ℕ → ℕ → List ℕ
boards_with sees boards board =
    if sees then with_number most_boards boards board else without_number most_boards boards board

-- what is kept of a class changes with a board: what the board counts, and whether the class sees it
pub record IsClassWith (board : ℕ) (sees : Bool) (old new : List Standing) (before after : ClassView) : Type 0 where
  pub boards : after.boards ≡ boards_with sees before.boards board
  pub totals : (place : ℕ) (d : Standing) → place < pair_places →
      IsTotalWith (has_number before.boards board) (get_or old place d) sees (get_or new place d)
      (get_or before.totals place d) (get_or after.totals place d)

-- what is kept takes in what a board is now: its row is what its results earn, each class has it among its boards where it
-- sees it, and the totals have what it counts now in place of what it counted. Whatever was kept of another board stays
pub record IsChangedAt (state : SessionState) (own : ℕ) (classes : List ClassView) (rows : List (List Standing))
    (classes_now : List ClassView) (rows_now : List (List Standing)) : Type 0 where
  pub row : List Standing
  pub earned : AreStandings (earnings_on state own) row
  pub small : AreWithinBoard row
  pub put : rows_now ≡ slice_set rows (own - 1) row
  pub each_class : (place : ℕ) (d : ClassView) (e : List Standing) → place < class_places →
      IsClassWith own (seen_in state (class_at place) own) (get_or rows (own - 1) e) row (get_or classes place d)
      (get_or classes_now place d)

-- a class that sees no board
pub record IsNothing (kept : ClassView) : Type 0 where
  pub boards : kept.boards ≡ []
  pub totals : AreStandings [] kept.totals
