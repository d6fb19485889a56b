-- Which classes would be shown a board without an embargo, by all rules: that hangs on whether it is held, whether it is
-- complete, and for a pair on its own result.
use Rattle.std.proofs.Common.{◌≡◌, ℕ, Bool, true, false, cond, List, [], ◌∷◌, refl, sym, ap, ◌∙◌, inl, inr}
use Rattle.std.specs.Prelude.{◌&&◌, ◌||◌, not, Some, None, IfSome, IfNone, is_none, find}
use Rattle.std.specs.List.{list_all}
use Rattle.std.proofs.lemmas.Bool.{cases_Bool}
use Rattle.table_terms.specs.declared.pair.Pair.{Pair}
use Rattle.movement.specs.declared.cell.Cell.{Cell}
use Rattle.movement.specs.Movement.{IsSection, rows}
use Rattle.movement.proofs.ScheduleTests.{any_as}
use Rattle.small_sets.specs.Numbers.{has_number}
use Rattle.session_roles.specs.Edition.{is_second}
use Rattle.disclosure_rules.specs.LiveCells.{is_live, tables_at}
use Rattle.disclosure_rules.specs.declared.fact.Fact.TheVariants.{Hands}
use Rattle.disclosure_rules.specs.declared.public.Public.{Public}
use Rattle.disclosure_rules.specs.declared.rule.Rule.{Rule}
use Rattle.disclosure_rules.specs.declared.viewer.Viewer.{Viewer}
use Rattle.disclosure_rules.specs.Policy.{forbids, first_rule, rules}
use Rattle.disclosure_rules.specs.Seating.{
  HasStillToPlay,
  IsSeatedAt,
  PlaysBoard,
  has_still_to_play,
  is_complete,
  plays_board,
}
use Rattle.disclosure_rules.proofs.SeatingTests.{plays_board_decides, still_decides}
use Rattle.disclosure_rules.proofs.SeatingLemmas.{plays_where_found, still_not, still_where_seated}
use Rattle.class_views.specs.Classes.{class_sees, member_of, sees_board, without_embargo}
use Rattle.class_views.specs.declared.user_class.UserClass.TheVariants.{
  OfPair,
  Unseated,
  Spectators,
  Directors,
  Commentators,
}

-- nothing is found where each fails
none_of : (p : Rule → Bool) (xs : List Rule) → is_none (find p xs) ≡ list_all (λ rule. not (p rule)) xs
none_of p [] = refl
none_of p (x ∷ xs) = by (p x) (none_of p xs)
  where
    by : (b : Bool) → is_none (find p xs) ≡ list_all (λ rule. not (p rule)) xs →
        is_none (cond b (Some x) (find p xs)) ≡ (not b && list_all (λ rule. not (p rule)) xs)
    by true rest = refl
    by false rest = rest

-- so a user is shown a board where each rule allows it
by_all_rules : (public : Public) (viewer : Viewer) (board : ℕ) → sees_board public viewer board ≡
    list_all (λ rule. not (forbids rule public viewer (Hands board))) rules
unfolding first_rule
by_all_rules public viewer board = none_of (λ rule. forbids rule public viewer (Hands board)) rules

-- ---- what is left of the rules for one user of each class

for_pairs : (second held still plays complete : Bool) → (not (second && false) && (not held && (not still &&
    (not (not plays && not complete) && true)))) ≡ (not held && (not still && (plays || complete)))
for_pairs true true still plays complete = refl
for_pairs false true still plays complete = refl
for_pairs true false true plays complete = refl
for_pairs false false true plays complete = refl
for_pairs true false false true complete = refl
for_pairs false false false true complete = refl
for_pairs true false false false true = refl
for_pairs false false false false true = refl
for_pairs true false false false false = refl
for_pairs false false false false false = refl

for_unseated : (second held complete : Bool) → (not (second && false) && (not held && (not (not complete) && true))) ≡
    (not held && complete)
for_unseated true true complete = refl
for_unseated false true complete = refl
for_unseated true false true = refl
for_unseated false false true = refl
for_unseated true false false = refl
for_unseated false false false = refl

for_spectators : (second held complete : Bool) → (not (second && false) && (not held &&
    (not (not (second && false) && not complete) && true))) ≡ (not held && complete)
for_spectators true true complete = refl
for_spectators false true complete = refl
for_spectators true false true = refl
for_spectators false false true = refl
for_spectators true false false = refl
for_spectators false false false = refl

for_commentators : (second held complete : Bool) → (not (second && false) && (not held &&
    (not (not (second && true) && not complete) && true))) ≡ (not held && (complete || second))
for_commentators true true complete = refl
for_commentators false true complete = refl
for_commentators true false true = refl
for_commentators false false true = refl
for_commentators true false false = refl
for_commentators false false false = refl

-- ---- the classes

module _ (public : Public) (board : ℕ) where
  pub directors_see : true ≡ class_sees (without_embargo public) (Some Directors) board
  directors_see = sym (by_all_rules (without_embargo public) (member_of Directors) board)

  pub pair_sees : (pair : Pair) → (not (has_number public.held board) &&
      (not (has_still_to_play public (member_of (OfPair pair)) board) && (plays_board public (member_of (OfPair pair))
      board || is_complete public board))) ≡ class_sees (without_embargo public) (Some (OfPair pair)) board
  unfolding has_still_to_play plays_board is_complete
  pair_sees pair =
      sym (by_all_rules (without_embargo public) (member_of (OfPair pair)) board
      ∙ for_pairs (is_second public.edition) (has_number public.held board)
      (has_still_to_play public (member_of (OfPair pair)) board) (plays_board public (member_of (OfPair pair)) board)
      (is_complete public board))

  pub unseated_see : (not (has_number public.held board) && is_complete public board) ≡ class_sees
      (without_embargo public) (Some Unseated) board
  unfolding has_still_to_play plays_board is_complete
  unseated_see =
      sym (by_all_rules (without_embargo public) (member_of Unseated) board
      ∙ for_unseated (is_second public.edition) (has_number public.held board) (is_complete public board))

  pub spectators_see : (not (has_number public.held board) && is_complete public board) ≡ class_sees
      (without_embargo public) (Some Spectators) board
  unfolding is_complete
  spectators_see =
      sym (by_all_rules (without_embargo public) (member_of Spectators) board
      ∙ for_spectators (is_second public.edition) (has_number public.held board) (is_complete public board))

  pub commentators_see : (not (has_number public.held board) && (is_complete public board || is_second public.edition)) ≡
      class_sees (without_embargo public) (Some Commentators) board
  unfolding is_complete
  commentators_see =
      sym (by_all_rules (without_embargo public) (member_of Commentators) board
      ∙ for_commentators (is_second public.edition) (has_number public.held board) (is_complete public board))

-- ---- a pair's own result

-- a pair that plays the board at a table is through with it where that table has a result
pub over_where_seated : (public : Public) (viewer : Viewer) (board : ℕ) (own : Cell) (complete : Bool) →
    IsSeatedAt public viewer own → own.board ≡ board → IfNone (Some own) (¬ PlaysBoard public viewer board) →
    IsSection public.movement →
    is_live public.live own ≡ (not (has_still_to_play public viewer board) && (plays_board public viewer board ||
    complete))
over_where_seated public viewer board own complete seated at_board none is_section =
    twice (is_live public.live own)
    ∙ (λ i. not (still_where_seated public viewer own seated board at_board is_section i)
    && (plays_where_found public viewer board (Some own) seated at_board none i || complete))
  where
    twice : (b : Bool) → b ≡ (not (not b) && (true || complete))
    twice true = refl
    twice false = refl

-- one that doesn't play it, where it is complete
pub over_where_none : (public : Public) (viewer : Viewer) (board : ℕ) (complete : Bool) →
    IfSome None (IsSeatedAt public viewer) → IfSome None (λ (cell : Cell). cell.board ≡ board) →
    (¬ PlaysBoard public viewer board) →
    complete ≡ (not (has_still_to_play public viewer board) && (plays_board public viewer board || complete))
over_where_none public viewer board complete seated at_board none =
    λ i. not (still_not public viewer board none i) && (plays_where_found public viewer board None seated at_board none i
    || complete)

-- of a board that no table has a result on and that isn't complete, no pair is: one that plays it has still to play it
pub over_for_nobody : (public : Public) (pair : Pair) (board : ℕ) → tables_at public.live board ≡ [] →
    is_complete public board ≡ false →
    false ≡ (not (has_still_to_play public (member_of (OfPair pair)) board) && (plays_board public
    (member_of (OfPair pair)) board || is_complete public board))
over_for_nobody public pair board unplayed incomplete =
    elim (cases_Bool (plays_board public viewer board)) [
      | inl played ↦
          sym (ap (λ b. not b && (plays_board public viewer board || is_complete public board))
          ((still_decides public viewer board).1 (still ((plays_board_decides public viewer board).0 played))))
      | inr not_played ↦
          sym ((λ i. not (has_still_to_play public viewer board) && (not_played i || incomplete i))
          ∙ never (not (has_still_to_play public viewer board)))
    ]
  where
    viewer : Viewer
    viewer = member_of (OfPair pair)

    never : (b : Bool) → (b && false) ≡ false
    never true = refl
    never false = refl

    still : PlaysBoard public viewer board → HasStillToPlay public viewer board
    still some = any_as _ _ (rows public.movement) (λ row plays. (
      plays,
      ap (λ tables. has_number tables row.table)
          unplayed,
    )) some

-- ---- where the board is held, and where it isn't

pub held_so : (held rest : Bool) → held ≡ true → not held ≡ (not held && rest)
held_so held rest is = ap not is ∙ sym (ap (λ h. not h && rest) is)

pub free_so : (held rest : Bool) → held ≡ false → rest ≡ (not held && rest)
free_so held rest is = sym (ap (λ h. not h && rest) is)
