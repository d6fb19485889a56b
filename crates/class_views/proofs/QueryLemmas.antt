-- What is read from what is kept.
use Rattle.std.proofs.Common.{
  rules,
  ◌≡◌,
  ℕ,
  zero,
  suc,
  ◌+◌,
  ◌<◌,
  ◌≤◌,
  true,
  false,
  cond,
  List,
  [],
  ◌∷◌,
  ◌++◌,
  get_or,
  map,
  append-nil,
  refl,
  sym,
  ap,
  ◌∙◌,
  arith,
}
use Rattle.std.specs.Prelude.{Option, Some, None, is_none, ◌&&◌, if◌then◌else◌}
use Rattle.std.specs.List.{range_with_len, sum_by}
use Rattle.std.proofs.lemmas.List.{map-append}
use Rattle.std.proofs.lemmas.List.FromFn.{filter_of_map_range_with_len_more}
use Rattle.std.proofs.lemmas.List.Sums.{sum_by-cons}
use Rattle.movement.specs.Movement.{Section, IsSection, is_pair_of, boards_of, has_board}
use Rattle.scoring.specs.declared.standing.Standing.{Standing}
use Rattle.table_terms.specs.declared.pair.Pair.{Pair}
use Rattle.table_terms.specs.declared.side.Side.{Side}
use Rattle.small_sets.specs.Numbers.{has_number}
use Rattle.disclosure_rules.specs.Policy.{first_rule}
use Rattle.disclosure_rules.specs.declared.fact.Fact.TheVariants.{Hands}
use Rattle.disclosure_rules.specs.declared.viewer.Viewer.{Viewer}
use Rattle.session_state.specs.SessionState.{SessionState}
use Rattle.standings.specs.declared.earning.Earning.{Earning}
use Rattle.standings.specs.Ranking.{earned_by, top_for, pair_on, pairs_on}
use Rattle.class_views.specs.Classes.{class_of, class_sees, is_shown_boards, without_embargo}
use Rattle.class_views.specs.Kept.{IsKeptOf, counted_to, seen_in}
use Rattle.class_views.specs.Places.{class_at, pair_at}
use Rattle.class_views.specs.Totals.{counted_for, earnings_on, total_for}
use Rattle.class_views.specs.declared.class_view.ClassView.{ClassView}
use Rattle.class_views.specs.declared.user_class.UserClass.{UserClass}
use Rattle.class_views.proofs.ClassLemmas.{same_class_sees, class_sees_now}

-- a board of a section is one from 1 to its boards
pub board_from : (section : Section) (board : ℕ) → has_board section board ≡ true → 1 ≤ board
board_from section board has = search rules

pub board_to : (section : Section) (board : ℕ) → has_board section board ≡ true → board ≤ boards_of section
board_to section board has = search rules

module _ (state : SessionState) (classes : List ClassView) (rows : List (List Standing))
    (kept : IsKeptOf state classes rows) where
  -- what a class would see without an embargo, and so what it sees
  pub sees_kept : (class : UserClass) (place board : ℕ) (d : ClassView) → class_at place ≡ class → place < 36 →
      1 ≤ board → board ≤ boards_of state.public.movement →
      (is_shown_boards state.public class && has_number (get_or classes place d).boards board)
      ≡ class_sees state.public (Some class) board
  sees_kept class place board d at below from to =
      ap (λ b. is_shown_boards state.public class && b)
      ((kept.classes_kept place d below).seen board from to
      ∙ ap (λ (class : UserClass). class_sees (without_embargo state.public) (Some class) board) at)
      ∙ sym (class_sees_now state.public board class)

  -- how a pair stands for a class that may be shown boards
  counted_now : (class : UserClass) → is_shown_boards state.public class ≡ true → (count : Earning → ℕ) →
      counted_to count (seen_in state class) (earnings_on state) (boards_of state.public.movement) ≡ counted_for count
      state (Some class)
  unfolding counted_for counted_to
  counted_now class shown count =
      λ i. sum_by (λ board. if sees board i then sum_by count (earnings_on state board) else 0)
      (range_with_len 1 (boards_of state.public.movement))
    where
      sees : (board : ℕ) → class_sees (without_embargo state.public) (Some class) board ≡ class_sees state.public
          (Some class) board
      sees board = sym (class_sees_now state.public board class
          ∙ ap (λ b. b && class_sees (without_embargo state.public) (Some class) board) shown)

  pub total_kept : (class : UserClass) (pair : Pair) (place at : ℕ) (d : ClassView) (e : Standing) →
      class_at place ≡ class → place < 36 → pair_at at ≡ pair → at < 32 → is_shown_boards state.public class ≡ true →
      get_or (get_or classes place d).totals at e ≡ total_for state (Some class) pair
  total_kept class pair place at d e is_class below is_pair within shown =
      (kept.classes_kept place d below).totals at e within
      ∙ ((λ i. record {
        pair = is_pair i;
        earned =
            counted_to (earned_by (is_pair i)) (seen_in state (is_class i)) (earnings_on state)
            (boards_of state.public.movement);
        tops =
            counted_to (top_for (is_pair i)) (seen_in state (is_class i)) (earnings_on state)
            (boards_of state.public.movement);
      })
      ∙ (λ i. record {
        pair = pair;
        earned = counted_now class shown (earned_by pair) i;
        tops =
            counted_now class shown (top_for pair) i;
      }))

-- a user is shown what the user's class is, and who is in no class is shown no hands
pub sees_by_class : (state : SessionState) (viewer : Viewer) (board : ℕ) → IsSection state.public.movement →
    (class : Option UserClass) → class_of viewer ≡ class →
    class_sees state.public class board ≡ is_none (first_rule state.public viewer (Hands board))
sees_by_class state viewer board is_section class is =
    ap (λ (class : Option UserClass). class_sees state.public class board) (sym is)
    ∙ sym (same_class_sees state.public viewer board is_section)

-- and for who is in none no pair stands anywhere
nothing_from : (first n : ℕ) → sum_by (λ (board : ℕ). 0) (range_with_len first n) ≡ 0
nothing_from first zero = refl
nothing_from first (suc n) = omega (
  arith,
  nothing_from (first + 1) n,
  sum_by-cons (λ (board : ℕ). 0) first
      (range_with_len (first + 1) n),
)

nothing_for : (count : Earning → ℕ) (state : SessionState) → 0 ≡ counted_for count state None
unfolding counted_for
nothing_for count state = sym (nothing_from 1 (boards_of state.public.movement))

-- nor for a class that may be shown no boards
pub closed_sees : (state : SessionState) (class : UserClass) (board : ℕ) → is_shown_boards state.public class ≡ false →
    class_sees state.public (Some class) board ≡ false
closed_sees state class board closed =
    class_sees_now state.public board class
    ∙ ap (λ b. b && class_sees (without_embargo state.public) (Some class) board) closed

nothing_shown : (state : SessionState) (class : UserClass) → is_shown_boards state.public class ≡ false →
    (count : Earning → ℕ) → 0 ≡ counted_for count state (Some class)
unfolding counted_for
nothing_shown state class closed count =
    sym ((λ i. sum_by (λ board. if closed_sees state class board closed i then sum_by count (earnings_on state board)
    else 0) (range_with_len 1 (boards_of state.public.movement)))
    ∙ nothing_from 1 (boards_of state.public.movement))

pub nothing_total : (state : SessionState) (pair : Pair) → record { pair = pair; earned = 0; tops = 0 } ≡ total_for
    state None pair
nothing_total state pair = λ i. record {
  pair = pair;
  earned = nothing_for (earned_by pair) state i;
  tops = nothing_for (top_for pair) state i;
}

pub nothing_total_shown : (state : SessionState) (class : UserClass) (pair : Pair) → is_shown_boards state.public
    class ≡ false → record { pair = pair; earned = 0; tops = 0 } ≡ total_for state (Some class) pair
nothing_total_shown state class pair closed = λ i. record {
  pair = pair;
  earned = nothing_shown state class closed (earned_by pair) i;
  tops = nothing_shown state class closed (top_for pair) i;
}

-- the pairs of a side with its next one, where the section has that
pub pairs_with_next : (section : Section) (side : Side) (n : ℕ) →
    pairs_on section side 1 (n + 1)
    ≡ pairs_on section side 1 n ++ cond (is_pair_of section (pair_on side (n + 1))) (pair_on side (n + 1) ∷ []) []
unfolding pairs_on
pairs_with_next section side n =
    filter_of_map_range_with_len_more (is_pair_of section) (pair_on side) 1 n (n + 1) (omega arith)

pub pairs_and_one : {A : Type 0} (f : Pair → A) (section : Section) (side : Side) (n : ℕ) →
    is_pair_of section (pair_on side (n + 1)) ≡ true →
    map f (pairs_on section side 1 (n + 1)) ≡ map f (pairs_on section side 1 n) ++ f (pair_on side (n + 1)) ∷ []
pairs_and_one f section side n there =
    ap (map f) (rw there at (pairs_with_next section side n))
    ∙ map-append f (pairs_on section side 1 n) (pair_on side (n + 1) ∷ [])

pub pairs_and_none : {A : Type 0} (f : Pair → A) (section : Section) (side : Side) (n : ℕ) →
    is_pair_of section (pair_on side (n + 1)) ≡ false →
    map f (pairs_on section side 1 (n + 1)) ≡ map f (pairs_on section side 1 n)
pairs_and_none f section side n missing =
    ap (map f) (rw missing at (pairs_with_next section side n) ∙ append-nil (pairs_on section side 1 n))

pub no_pairs_yet : {A : Type 0} (f : Pair → A) (section : Section) (side : Side) (before : List A) →
    before ≡ before ++ map f (pairs_on section side 1 0)
unfolding pairs_on
no_pairs_yet f section side before = sym (append-nil before)
