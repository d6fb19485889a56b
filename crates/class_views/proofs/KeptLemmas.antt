-- What is kept stays as it would be worked out afresh.
use Rattle.std.proofs.Common.{
  ◌≡◌,
  ◌≢◌,
  ◌⊎◌,
  ℕ,
  zero,
  suc,
  ◌+◌,
  ◌-◌,
  ◌*◌,
  ◌<◌,
  ◌≤◌,
  Bool,
  true,
  false,
  cond,
  List,
  [],
  length,
  get_or,
  set,
  refl,
  sym,
  ap,
  ◌∙◌,
  subst,
  inl,
  inr,
  arith,
}
use Rattle.std.specs.Prelude.{Option, Some, None, ◌&&◌, ◌||◌, not, min, nat_eq, nat_le}
use Rattle.std.specs.List.{range_with_len, sum_by}
use Rattle.std.proofs.lemmas.Bool.{cases_Bool, cases_eq, cases_lt, le-leb, lt-leb, leb-true, leb-false, eq-eqb, true≢false}
use Rattle.std.proofs.lemmas.List.{get_or-set_same, get_or-set_other, get_or_default, length-set}
use Rattle.std.proofs.lemmas.List.Sums.{sum_by-cons}
use Rattle.movement.specs.Movement.{IsSection, boards_of, most_boards}
use Rattle.scoring.specs.declared.standing.Standing.{Standing}
use Rattle.small_sets.specs.Numbers.{has_number}
use Rattle.small_sets.proofs.NumbersLemmas.{has_number-numbers_that}
use Rattle.session_state.specs.Apply.{apply}
use Rattle.session_state.specs.SessionState.{SessionState, AreLive}
use Rattle.session_commands.specs.Command.{subject_board, subject_cell}
use Rattle.session_commands.specs.declared.entry.Entry.{Entry}
use Rattle.movement.specs.declared.cell.Cell.{Cell}
use Rattle.std.specs.Option.{option_map, option_or}
use Rattle.session_state.proofs.PartLemmas.{entry_part}
use Rattle.standings.specs.declared.earning.Earning.{Earning}
use Rattle.standings.specs.Ranking.{earned_by, top_for, standing_of}
use Rattle.class_views.specs.Classes.{class_sees, member_of, without_embargo}
use Rattle.class_views.specs.Totals.{IsSameOn, earnings_on, may_count, may_count_at, told_board}
use Rattle.class_views.specs.Kept.{AreWithinBoard, AreStandings, CountsSame, IsBoardOf, IsChangedAt, IsClassKept, IsClassWith, IsKept, IsKeptOf, IsNothing, IsWithinBoard, boards_with, counted_to, earned_to, most_earned, most_total, seen_in, seen_to, total_to, total_with, where_seen}
use Rattle.class_views.specs.Places.{class_at, pair_at}
use Rattle.class_views.specs.declared.class_view.ClassView.{ClassView}
use Rattle.class_views.specs.declared.user_class.UserClass.{UserClass}
use Rattle.class_views.proofs.BoardLemmas.{
  held_elsewhere,
  released_elsewhere,
  same_earnings,
  same_elsewhere,
  same_sees,
  same_uncounted,
  sum_changed,
  sum_same,
}

-- ---- sums

-- a board's part is in the sum
sum_has : (f : ℕ → ℕ) (first n board : ℕ) → first ≤ board → board < first + n → f board ≤ sum_by f
    (range_with_len first n)
sum_has f first zero board from to = absurd (omega (arith, from, to))
sum_has f first (suc n) board from to =
    elim (cases_eq first board) [
      | inl here ↦
          let own : f first ≡ f board = ap f here in
          omega (arith, own, sum_by-cons f first (range_with_len (first + 1) n))
      | inr later ↦
          let rest = sum_has f (first + 1) n board (omega (arith, from, later)) (omega (arith, to)) in
          omega (arith, rest, sum_by-cons f first (range_with_len (first + 1) n))
    ]

-- a sum is small where each part is
sum_few : (f : ℕ → ℕ) (most first n : ℕ) → ((m : ℕ) → first ≤ m → m < first + n → f m ≤ most) →
    sum_by f (range_with_len first n) ≤ n * most
sum_few f most first zero each = omega arith
sum_few f most first (suc n) each =
    let own = each first (omega arith) (omega arith) in
    let rest = sum_few f most (first + 1) n (λ m low high. each m (omega (arith, low)) (omega (arith, high))) in
    omega (arith, own, rest, sum_by-cons f first (range_with_len (first + 1) n))

no_sum : (first n : ℕ) → sum_by (λ (board : ℕ). where_seen false (sum_by (λ (earning : Earning). 0) []))
    (range_with_len first n) ≡ 0
no_sum first zero = refl
no_sum first (suc n) =
    let rest : sum_by (λ (board : ℕ). 0) (range_with_len (first + 1) n) ≡ 0 = no_sum (first + 1) n in
    omega (arith, rest, sum_by-cons (λ (board : ℕ). 0) first (range_with_len (first + 1) n))

where_few : (sees : Bool) (number most : ℕ) → number ≤ most → where_seen sees number ≤ most
where_few true number most few = few
where_few false number most few = omega arith

-- ---- one board's part changes

module _ (own boards : ℕ) (sees sees_now : ℕ → Bool) (earned earned_now : ℕ → List Earning) (from : 1 ≤ own)
    (to : own ≤ boards) (few : boards ≤ most_boards)
    (seen : (board : ℕ) → board ≢ own → 1 ≤ board → board ≤ boards → sees_now board ≡ sees board)
    (earns : (board : ℕ) → board ≢ own → 1 ≤ board → board ≤ boards → earned_now board ≡ earned board) where
  total_now : (count : Earning → ℕ) → ((board : ℕ) → 1 ≤ board → board ≤ boards → sum_by count (earned_now board) ≤
      most_earned) →
      min (counted_to count sees earned boards - where_seen (sees own) (sum_by count (earned own)) + where_seen
      (sees_now own) (sum_by count (earned_now own))) most_total
      ≡ counted_to count sees_now earned_now boards
  unfolding counted_to
  total_now count small =
      let f : ℕ → ℕ = λ board. where_seen (sees board) (sum_by count (earned board)) in
      let g : ℕ → ℕ = λ board. where_seen (sees_now board) (sum_by count (earned_now board)) in
      let elsewhere : (m : ℕ) → m ≢ own → 1 ≤ m → m < 1 + boards → g m ≡ f m =
      λ m other low high i. where_seen (seen m other low (omega (arith, high)) i)
      (sum_by count (earns m other low (omega (arith, high)) i)) in
      let changed = sum_changed f g 1 boards own from (omega (arith, to)) elsewhere in
      let has = sum_has f 1 boards own from (omega (arith, to)) in
      let most = sum_few g most_earned 1 boards (λ m low high. where_few (sees_now m) _ most_earned
      (small m low (omega (arith, high)))) in
      cut _ (f own) (g own) _ (boards * most_earned) changed has most (omega (arith, few))
    where
      cut : (s f g n top : ℕ) → n + f ≡ s + g → f ≤ s → n ≤ top → top ≤ most_total → min (s - f + g) most_total ≡ n
      cut s f g n top changed has most fits = omega (arith, changed, has, most, fits)

  -- where it counts what it did, all boards together do
  total_left : (count : Earning → ℕ) → where_seen (sees own) (sum_by count (earned own)) ≡ where_seen (sees_now own)
      (sum_by count (earned_now own)) → counted_to count sees earned boards ≡ counted_to count sees_now earned_now boards
  unfolding counted_to
  total_left count here = sum_same g f 1 boards each
    where
      f : ℕ → ℕ
      f board = where_seen (sees board) (sum_by count (earned board))

      g : ℕ → ℕ
      g board = where_seen (sees_now board) (sum_by count (earned_now board))

      each : (m : ℕ) → 1 ≤ m → m < 1 + boards → f m ≡ g m
      each m low high =
          elim (cases_eq m own) [
            | inl is ↦ subst (λ n. f n ≡ g n) (sym is) here
            | inr other ↦
                sym (λ i. where_seen (seen m other low (omega (arith, high)) i)
                (sum_by count (earns m other low (omega (arith, high)) i)))
          ]

-- ---- a class

itself : (n : ℕ) → nat_eq n n ≡ true
itself n = eq-eqb n n refl

board_put : (sees : Bool) (boards : List ℕ) (own : ℕ) → 1 ≤ own → own ≤ most_boards →
    has_number (boards_with sees boards own) own ≡ sees
board_put true boards own from to =
    has_number-numbers_that most_boards (λ n. nat_eq n own || has_number boards n) own from to
    ∙ ap (λ b. b || has_number boards own) (itself own)
board_put false boards own from to =
    has_number-numbers_that most_boards (λ n. not (nat_eq n own) && has_number boards n) own from to
    ∙ ap (λ b. not b && has_number boards own) (itself own)

board_left : (sees : Bool) (boards : List ℕ) (own board : ℕ) → board ≢ own → 1 ≤ board → board ≤ most_boards →
    has_number (boards_with sees boards own) board ≡ has_number boards board
board_left true boards own board other from to = held_elsewhere boards own board (λ is. other (sym is)) from to
board_left false boards own board other from to = released_elsewhere boards own board (λ is. other (sym is)) from to

module _ (own boards : ℕ) (sees sees_now : ℕ → Bool) (earned earned_now : ℕ → List Earning) (from : 1 ≤ own)
    (to : own ≤ boards) (few : boards ≤ most_boards)
    (seen : (board : ℕ) → board ≢ own → 1 ≤ board → board ≤ boards → sees_now board ≡ sees board)
    (earns : (board : ℕ) → board ≢ own → 1 ≤ board → board ≤ boards → earned_now board ≡ earned board)
    (small : (board place : ℕ) → 1 ≤ board → board ≤ boards → place < 32 → IsWithinBoard
    (standing_of (earned_now board) (pair_at place)))
    (old new : List Standing) (were : AreStandings (earned own) old) (are : AreStandings (earned_now own) new)
    (before after : ClassView) where
  class_kept : IsClassKept boards sees earned before → IsClassWith own (sees_now own) old new before after →
      IsClassKept boards sees_now earned_now after
  unfolding total_with standing_of
  class_kept kept step = record {
    seen = λ board low high.
        elim (cases_eq board own) [
          | inl here ↦
              subst (λ n. has_number after.boards n ≡ sees_now n) (sym here)
              (ap (λ set. has_number set own) step.boards ∙ board_put (sees_now own) before.boards own from
              (omega (arith, to, few)))
          | inr other ↦
              ap (λ set. has_number set board) step.boards
              ∙ (board_left (sees_now own) before.boards own board other low (omega (arith, high, few))
              ∙ (kept.seen board low high ∙ sym (seen board other low high)))
        ];
    totals = λ place d below.
        elim (step.totals place d below) [
          | inl is ↦
              is
              ∙ ((λ i. total_with (kept.seen own from to i) (were place d below i) (sees_now own) (are place d below i)
              (kept.totals place d below i))
              ∙ summed place below)
          | inr left ↦ left.1 ∙ (kept.totals place d below ∙ stays place d below left.0)
        ];
  }
    where
      stays : (place : ℕ) (d : Standing) → place < 32 →
          CountsSame (has_number before.boards own) (get_or old place d) (sees_now own) (get_or new place d) →
          total_to sees earned boards (pair_at place) ≡ total_to sees_now earned_now boards (pair_at place)
      stays place d below counts =
          let earned_same = total_left own boards sees sees_now earned earned_now from to few seen earns
          (earned_by (pair_at place))
          (sym (λ i. where_seen (kept.seen own from to i) (were place d below i).earned)
          ∙ (counts.earned ∙ (λ i. where_seen (sees_now own) (are place d below i).earned))) in
          let tops_same = total_left own boards sees sees_now earned earned_now from to few seen earns
          (top_for (pair_at place))
          (sym (λ i. where_seen (kept.seen own from to i) (were place d below i).tops)
          ∙ (counts.tops ∙ (λ i. where_seen (sees_now own) (are place d below i).tops))) in
          λ i. record { pair = pair_at place; earned = earned_same i; tops = tops_same i }

      summed : (place : ℕ) → place < 32 →
          total_with (sees own) (standing_of (earned own) (pair_at place)) (sees_now own)
          (standing_of (earned_now own) (pair_at place)) (total_to sees earned boards (pair_at place))
          ≡ total_to sees_now earned_now boards (pair_at place)
      summed place below =
          let earned_same = total_now own boards sees sees_now earned earned_now from to few seen earns
          (earned_by (pair_at place)) (λ board low high. (small board place low high below).earned) in
          let tops_same = total_now own boards sees sees_now earned earned_now from to few seen earns
          (top_for (pair_at place)) (λ board low high. (small board place low high below).tops) in
          λ i. record { pair = pair_at place; earned = earned_same i; tops = tops_same i }

-- ---- all that is kept

module _ (state : SessionState) (own : ℕ) (from : 1 ≤ own) (to : own ≤ boards_of state.public.movement)
    (is_section : IsSection state.public.movement)
    (sees sees_now : UserClass → ℕ → Bool) (earned earned_now : ℕ → List Earning) (classes classes_now : List ClassView)
    (rows : List (List Standing))
    (old new row : List Standing) where
  -- a board is taken in
  pub kept_changed : IsKept (boards_of state.public.movement) sees earned classes rows →
      IsBoardOf state own (boards_of state.public.movement) sees sees_now earned earned_now → length classes_now ≡ 36 →
      ((place : ℕ) (d : ClassView) → place < 36 → IsClassWith own
      (class_sees (without_embargo state.public) (Some (class_at place)) own) old new (get_or classes place d)
      (get_or classes_now place d)) →
      ((d : List Standing) → old ≡ get_or rows (own - 1) d) → AreStandings (earnings_on state own) new → AreStandings
      (earnings_on state own) row → AreWithinBoard row →
      IsKept (boards_of state.public.movement) sees_now earned_now classes_now (set rows (own - 1) row)
  kept_changed kept now each_class each is_old is_new is_row row_small = record {
    each_class = each_class;
    each_board = set_length;
    classes_kept = λ place d below.
        class_kept own boards (sees (class_at place)) (sees_now (class_at place)) earned earned_now from to
        is_section.not_too_many_boards
        (now.seen_elsewhere (class_at place)) now.earned_elsewhere all_small old new were are (get_or classes place d)
        (get_or classes_now place d)
        (kept.classes_kept place d below)
        (subst (λ seen. IsClassWith own seen old new (get_or classes place d) (get_or classes_now place d))
        (sym (now.seen (class_at place))) (each place d below));
    rows_kept = rows_are;
    rows_small = rows_few;
  }
    where
      boards : ℕ
      boards = boards_of state.public.movement

      below_rows : own - 1 < length rows
      below_rows = omega (arith, from, to, kept.each_board)

      set_length : length (set rows (own - 1) row) ≡ boards
      set_length = length-set rows (own - 1) row ∙ kept.each_board

      were : AreStandings (earned own) old
      were place d below =
          ap (λ standings. get_or standings place d) (is_old [])
          ∙ (kept.rows_kept (own - 1) [] (omega (arith, from, to)) place d below
          ∙ ap (λ n. standing_of (earned n) (pair_at place)) again)
        where
          again : own - 1 + 1 ≡ own
          again = omega (arith, from)

      are : AreStandings (earned_now own) new
      are place d below = is_new place d below ∙ ap (λ earnings. standing_of earnings (pair_at place))
          (sym now.earned_here)

      rows_are : (place : ℕ) (d : List Standing) → place < boards → AreStandings (earned_now (place + 1))
          (get_or (set rows (own - 1) row) place d)
      rows_are place d below k e within =
          elim (cases_eq place (own - 1)) [
            | inl here ↦
                let same : place + 1 ≡ own = omega (arith, here, from) in
                ap (λ n. get_or (get_or (set rows (own - 1) row) n d) k e) here
                ∙ (ap (λ standings. get_or standings k e) (get_or-set_same rows (own - 1) row d below_rows)
                ∙ (is_row k e within ∙ (ap (λ earnings. standing_of earnings (pair_at k)) (sym now.earned_here)
                ∙ ap (λ n. standing_of (earned_now n) (pair_at k)) (sym same))))
            | inr other ↦
                ap (λ standings. get_or standings k e) (get_or-set_other rows (own - 1) place row d other)
                ∙ (kept.rows_kept place d below k e within
                ∙ ap (λ earnings. standing_of earnings (pair_at k))
                (sym (now.earned_elsewhere (place + 1) (λ is. other (omega (arith, is))) (omega arith)
                (omega (arith, below)))))
          ]

      rows_few : (place : ℕ) (d : List Standing) → place < boards → AreWithinBoard
          (get_or (set rows (own - 1) row) place d)
      rows_few place d below k e within =
          elim (cases_eq place (own - 1)) [
            | inl here ↦
                subst IsWithinBoard
                (sym (ap (λ n. get_or (get_or (set rows (own - 1) row) n d) k e) here
                ∙ ap (λ standings. get_or standings k e) (get_or-set_same rows (own - 1) row d below_rows)))
                (row_small k e within)
            | inr other ↦
                subst IsWithinBoard
                (sym (ap (λ standings. get_or standings k e) (get_or-set_other rows (own - 1) place row d other)))
                (kept.rows_small place d below k e within)
          ]

      nobody : Standing
      nobody = standing_of [] (pair_at 0)

      all_small : (board place : ℕ) → 1 ≤ board → board ≤ boards → place < 32 → IsWithinBoard
          (standing_of (earned_now board) (pair_at place))
      all_small board place low high below =
          subst IsWithinBoard (rows_are (board - 1) [] (omega (arith, low, high)) place nobody below
          ∙ ap (λ n. standing_of (earned_now n) (pair_at place)) again)
          (rows_few (board - 1) [] (omega (arith, low, high)) place nobody below)
        where
          again : board - 1 + 1 ≡ board
          again = omega (arith, low)

-- so what is kept stays as it would be worked out afresh, where the others are as they were
pub kept_changed_at : (state : SessionState) (own : ℕ) → 1 ≤ own → own ≤ boards_of state.public.movement →
    IsSection state.public.movement →
    (sees sees_now : UserClass → ℕ → Bool) (earned earned_now : ℕ → List Earning) (classes classes_now : List ClassView)
    (rows rows_now : List (List Standing)) →
    IsKept (boards_of state.public.movement) sees earned classes rows →
    IsBoardOf state own (boards_of state.public.movement) sees sees_now earned earned_now → length classes_now ≡ 36 →
    IsChangedAt state own classes rows classes_now rows_now →
    IsKept (boards_of state.public.movement) sees_now earned_now classes_now rows_now
kept_changed_at state own from to is_section sees sees_now earned earned_now classes classes_now rows rows_now kept now
    each_class changed =
    let within : own - 1 < length rows = omega (arith, from, to, kept.each_board) in
    subst (λ (rows : List (List Standing)). IsKept (boards_of state.public.movement) sees_now earned_now classes_now rows)
    (sym changed.put)
    (kept_changed state own from to is_section sees sees_now earned earned_now classes classes_now rows
    (get_or rows (own - 1) []) changed.row changed.row kept now each_class
    (λ place d below. changed.each_class place d [] below)
    (λ d. get_or_default rows (own - 1) [] d within) changed.earned changed.earned changed.small)

-- what is kept says the same of boards of which the same is seen and earned
pub kept_same : (boards : ℕ) (sees sees_now : UserClass → ℕ → Bool) (earned earned_now : ℕ → List Earning)
    (classes : List ClassView) (rows : List (List Standing)) →
    ((class : UserClass) (board : ℕ) → 1 ≤ board → board ≤ boards → sees_now class board ≡ sees class board) →
    ((board : ℕ) → 1 ≤ board → board ≤ boards → earned_now board ≡ earned board) →
    IsKept boards sees earned classes rows → IsKept boards sees_now earned_now classes rows
unfolding counted_to
kept_same boards sees sees_now earned earned_now classes rows seen earns kept = record {
  each_class = kept.each_class;
  each_board = kept.each_board;
  classes_kept = λ place d below.
      record {
        seen = λ board low high. (kept.classes_kept place d below).seen board low high
            ∙ sym (seen (class_at place) board low high);
        totals = λ k e within.
            (kept.classes_kept place d below).totals k e within
            ∙ (λ i. record {
              pair = pair_at k;
              earned = sym (same (class_at place) (earned_by (pair_at k))) i;
              tops =
                  sym (same (class_at place) (top_for (pair_at k))) i;
            });
      };
  rows_kept = λ place d below k e within.
      kept.rows_kept place d below k e within
      ∙ ap (λ earnings. standing_of earnings (pair_at k))
      (sym (earns (place + 1) (omega arith) (omega (arith, below))));
  rows_small = kept.rows_small;
}
  where
    same : (class : UserClass) (count : Earning → ℕ) → counted_to count (sees_now class) earned_now boards ≡ counted_to
        count (sees class) earned boards
    same class count =
        sum_same (λ board. where_seen (sees class board) (sum_by count (earned board)))
        (λ board. where_seen (sees_now class board) (sum_by count (earned_now board))) 1 boards
        (λ m low high i. where_seen (seen class m low (omega (arith, high)) i)
        (sum_by count (earns m low (omega (arith, high)) i)))

-- ---- from nothing, board by board

nothing_counted : (count : Earning → ℕ) (n : ℕ) → counted_to count (λ board. false) (λ board. []) n ≡ 0
unfolding counted_to
nothing_counted count n = no_sum 1 n

pub nothing_kept : (boards : ℕ) (classes : List ClassView) (rows : List (List Standing)) → length classes ≡ 36 →
    length rows ≡ boards →
    ((place : ℕ) (d : ClassView) → place < 36 → IsNothing (get_or classes place d)) →
    ((place : ℕ) (d : List Standing) → place < boards → AreStandings [] (get_or rows place d)) →
    ((place : ℕ) (d : List Standing) → place < boards → AreWithinBoard (get_or rows place d)) →
    IsKept boards (λ class board. false) (λ board. []) classes rows
unfolding standing_of
nothing_kept boards classes rows each_class each_board nothing none small = record {
  each_class = each_class;
  each_board = each_board;
  classes_kept = λ place d below.
      record {
        seen = λ board low high. ap (λ set. has_number set board) (nothing place d below).boards;
        totals = λ k e within.
            (nothing place d below).totals k e within
            ∙ (λ i. record {
              pair = pair_at k;
              earned = sym (nothing_counted (earned_by (pair_at k)) boards) i;
              tops = sym (nothing_counted (top_for (pair_at k)) boards) i;
            });
      };
  rows_kept = none;
  rows_small = small;
}

none_to : (board : ℕ) → 1 ≤ board → nat_le board 0 ≡ false
none_to board low = lt-leb board 0 low

-- of no board yet
pub kept_first : (state : SessionState) (classes : List ClassView) (rows : List (List Standing)) →
    IsKept (boards_of state.public.movement) (λ class board. false) (λ board. []) classes rows →
    IsKept (boards_of state.public.movement) (seen_to state 0) (earned_to state 0) classes rows
kept_first state classes rows =
    kept_same (boards_of state.public.movement) (λ class board. false) (seen_to state 0) (λ board. [])
    (earned_to state 0) classes rows
    (λ class board low high. ap (λ b. b && seen_in state class board) (none_to board low))
    (λ board low high. ap (λ b. cond b (earnings_on state board) []) (none_to board low))

-- of all boards
pub kept_all : (state : SessionState) (classes : List ClassView) (rows : List (List Standing)) →
    IsKept (boards_of state.public.movement) (seen_to state (boards_of state.public.movement))
    (earned_to state (boards_of state.public.movement)) classes rows →
    IsKeptOf state classes rows
kept_all state classes rows =
    let all : ℕ = boards_of state.public.movement in
    kept_same all (seen_to state all) (seen_in state) (earned_to state all) (earnings_on state) classes rows
    (λ class board low high. sym (ap (λ b. b && seen_in state class board) (le-leb board all high)))
    (λ board low high. sym (ap (λ b. cond b (earnings_on state board) []) (le-leb board all high)))

-- one board more
pub one_more : (state : SessionState) (before boards : ℕ) →
    IsBoardOf state (before + 1) boards (seen_to state before) (seen_to state (before + 1)) (earned_to state before)
    (earned_to state (before + 1))
one_more state before boards = record {
  seen = λ class. ap (λ b. b && seen_in state class (before + 1)) (le-leb (before + 1) (before + 1) (omega arith));
  seen_elsewhere = λ class board other low high. ap (λ b. b && seen_in state class board) (same_test board other);
  earned_here = ap (λ b. cond b (earnings_on state (before + 1)) []) (le-leb (before + 1) (before + 1) (omega arith));
  earned_elsewhere = λ board other low high. ap (λ b. cond b (earnings_on state board) []) (same_test board other);
}
  where
    same_test : (board : ℕ) → board ≢ before + 1 → nat_le board (before + 1) ≡ nat_le board before
    same_test board other =
        elim (cases_Bool (nat_le board before)) [
          | inl earlier ↦ le-leb board (before + 1) (omega (arith, leb-true board before earlier)) ∙ sym earlier
          | inr later ↦ lt-leb board (before + 1) (omega (arith, leb-false board before later, other)) ∙ sym later
        ]

-- ---- after an entry

module _ (state : SessionState) (entry : Entry) (is_section : IsSection state.public.movement)
    (live : AreLive state.public.live state.cells)
    (live_after : AreLive (apply state entry).public.live (apply state entry).cells) where
  same_on : (board : ℕ) → told_board entry.command ≢ Some board → 1 ≤ board → board ≤ boards_of state.public.movement →
      IsSameOn state (apply state entry) board
  same_on board other low high = same_elsewhere state entry board is_section other low
      (omega (arith, high, is_section.not_too_many_boards)) live live_after

  pub same_boards : boards_of (apply state entry).public.movement ≡ boards_of state.public.movement
  same_boards = ap boards_of (entry_part state entry).movement

  -- its board is now as it is, and the others are as they were
  pub board_after : (own : ℕ) → told_board entry.command ≡ Some own →
      IsBoardOf (apply state entry) own (boards_of state.public.movement) (seen_in state) (seen_in (apply state entry))
      (earnings_on state) (earnings_on (apply state entry))
  board_after own about = record {
    seen = λ class. refl;
    seen_elsewhere = λ class board other low high.
        same_sees state (apply state entry) board (same_on board (λ it. other (some_injective (sym it ∙ about))) low
        high) is_section (member_of class);
    earned_here = refl;
    earned_elsewhere = λ board other low high.
        same_earnings state (apply state entry) board (same_on board (λ it. other (some_injective (sym it ∙ about))) low
        high) is_section;
  }
    where
      some_injective : {m n : ℕ} → Some m ≡ Some n → m ≡ n
      some_injective same = cc

  -- where it is about no board of the session, all is as it was
  pub kept_still : (classes : List ClassView) (rows : List (List Standing)) →
      ((board : ℕ) → 1 ≤ board → board ≤ boards_of state.public.movement → told_board entry.command ≢ Some board) →
      IsKeptOf state classes rows → IsKeptOf (apply state entry) classes rows
  kept_still classes rows other kept =
      subst (λ n. IsKept n (seen_in (apply state entry)) (earnings_on (apply state entry)) classes rows)
      (sym same_boards)
      (kept_same (boards_of state.public.movement) _ _ _ _ classes rows
      (λ class board low high. same_sees state (apply state entry) board (same_on board (other board low high) low high)
      is_section (member_of class))
      (λ board low high. same_earnings state (apply state entry) board (same_on board (other board low high) low high)
      is_section) kept)

  -- where it is about a table that has no result before it and none after it, all is as it was
  pub kept_uncounted : (classes : List ClassView) (rows : List (List Standing)) →
      may_count state entry.command ≡ false → may_count (apply state entry) entry.command ≡ false →
      IsKeptOf state classes rows → IsKeptOf (apply state entry) classes rows
  kept_uncounted classes rows without without_after kept = at_cell (subject_cell entry.command) refl without without_after
    where
      one_number : {m n : ℕ} → Some m ≡ Some n → m ≡ n
      one_number same = cc

      at_cell : (own : Option Cell) → subject_cell entry.command ≡ own → may_count_at state own ≡ false → may_count_at
          (apply state entry) own ≡ false → IsKeptOf (apply state entry) classes rows
      at_cell None about none none_after = absurd (true≢false none)
      at_cell (Some cell) about none none_after =
          subst (λ n. IsKept n (seen_in (apply state entry)) (earnings_on (apply state entry)) classes rows)
          (sym same_boards)
          (kept_same (boards_of state.public.movement) _ _ _ _ classes rows
          (λ class board low high. same_sees state (apply state entry) board (same board low high) is_section
          (member_of class))
          (λ board low high. same_earnings state (apply state entry) board (same board low high) is_section) kept)
        where
          told : told_board entry.command ≡ Some cell.board
          told = ap (λ o. option_or (option_map (λ (cell : Cell). cell.board) o) (subject_board entry.command)) about

          same : (board : ℕ) → 1 ≤ board → board ≤ boards_of state.public.movement → IsSameOn state (apply state entry)
              board
          same board low high =
              elim (cases_eq board cell.board) [
                | inl here ↦
                    subst (IsSameOn state (apply state entry)) (sym here)
                    (same_uncounted state entry cell is_section about (omega (arith, low, here))
                    (omega (arith, high, here, is_section.not_too_many_boards)) live live_after none none_after)
                | inr other ↦ same_on board (λ it. other (sym (one_number (sym told ∙ it)))) low high
              ]

  -- after an entry about a board of the session: what is kept was kept of the state before, and the board is now as it
  -- is
  pub kept_before : (classes : List ClassView) (rows : List (List Standing)) → IsKeptOf state classes rows →
      IsKept (boards_of (apply state entry).public.movement) (seen_in state) (earnings_on state) classes rows
  kept_before classes rows kept = subst (λ n. IsKept n (seen_in state) (earnings_on state) classes rows)
      (sym same_boards) kept

  pub board_now : (own : ℕ) → told_board entry.command ≡ Some own →
      IsBoardOf (apply state entry) own (boards_of (apply state entry).public.movement) (seen_in state)
      (seen_in (apply state entry)) (earnings_on state) (earnings_on (apply state entry))
  board_now own about =
      subst (λ n. IsBoardOf (apply state entry) own n (seen_in state) (seen_in (apply state entry)) (earnings_on state)
      (earnings_on (apply state entry))) (sym same_boards)
      (board_after own about)

  -- after any entry, where what is kept took in its board alone
  pub kept_followed : (classes classes_now : List ClassView) (rows rows_now : List (List Standing)) →
      IsKeptOf state classes rows → length classes_now ≡ 36 →
      ((own : ℕ) → 1 ≤ own → own ≤ boards_of (apply state entry).public.movement → told_board entry.command ≡ Some own →
      IsChangedAt (apply state entry) own classes rows classes_now rows_now) →
      (((own : ℕ) → 1 ≤ own → own ≤ boards_of (apply state entry).public.movement →
      told_board entry.command ≢ Some own) → (classes_now ≡ classes) × (rows_now ≡ rows)) →
      IsKeptOf (apply state entry) classes_now rows_now
  kept_followed classes classes_now rows rows_now kept each_class changed same =
      elim (about_one (told_board entry.command) (boards_of (apply state entry).public.movement)) [
        | inl one ↦
            kept_changed_at (apply state entry) one.0 one.1.0 one.1.1.0
            (subst IsSection (sym (entry_part state entry).movement) is_section) (seen_in state)
            (seen_in (apply state entry)) (earnings_on state) (earnings_on (apply state entry)) classes classes_now rows
            rows_now (kept_before classes rows kept) (board_now one.0 one.1.1.1) each_class
            (changed one.0 one.1.0 one.1.1.0 one.1.1.1)
        | inr none ↦
            let as_before = same none in
            subst (λ (classes : List ClassView). IsKeptOf (apply state entry) classes rows_now) (sym as_before.0)
            (subst (λ (rows : List (List Standing)). IsKeptOf (apply state entry) classes rows) (sym as_before.1)
            (kept_still classes rows
            (λ board low high. none board low (subst (λ (n : ℕ). board ≤ n) (sym same_boards) high)) kept))
      ]
    where
      some_injective : {m n : ℕ} → Some m ≡ Some n → m ≡ n
      some_injective same = cc

      no_board : (board : ℕ) → None ≢ Some board
      no_board board same = absurd cc

      about_one : (told : Option ℕ) (boards : ℕ) →
          ((own : ℕ) × ((1 ≤ own) × ((own ≤ boards) × (told ≡ Some own))))
          ⊎ ((own : ℕ) → 1 ≤ own → own ≤ boards → told ≢ Some own)
      about_one None boards = inr (λ own from to. no_board own)
      about_one (Some board) boards =
          elim (cases_lt board 1) [
            | inl low ↦
                inr (λ own from to same.
                let here : board ≡ own = some_injective same in
                absurd (omega (arith, low, from, here)))
            | inr from ↦
                elim (cases_lt boards board) [
                  | inl past ↦
                      inr (λ own low to same.
                      let here : board ≡ own = some_injective same in
                      absurd (omega (arith, past, to, here)))
                  | inr to ↦ inl (board, (omega (arith, from), (omega (arith, to), refl)))
                ]
          ]
