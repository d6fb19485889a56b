-- Users of one class are allowed the same of a board, but for what hangs on the seat at its own table.
use Rattle.std.proofs.Common.{◌≡◌, ◌≢◌, ℕ, Bool, true, false, refl, sym, ap, ◌∙◌, subst, inl, inr}
use Rattle.std.specs.Prelude.{Option, Some, None, not, ◌&&◌, if◌then◌else◌}
use Rattle.std.proofs.lemmas.Bool.{cases_Bool}
use Rattle.session_roles.specs.declared.role.Role.TheVariants.{Member, Spectator, Director, Administrator}
use Rattle.session_roles.specs.declared.role.Role.TheVariants.{Commentator}
use Rattle.session_roles.specs.Edition.{is_second}
use Rattle.movement.specs.declared.cell.Cell.{Cell}
use Rattle.movement.specs.Movement.{IsSection}
use Rattle.disclosure_rules.specs.Fact.{board_of_fact, cell_of_fact, is_accounts, is_analysed, is_of_play, is_reason}
use Rattle.disclosure_rules.specs.Phase.{is_running}
use Rattle.disclosure_rules.specs.Seating.{some_that, is_complete}
use Rattle.disclosure_rules.specs.declared.fact.Fact.{Fact}
use Rattle.disclosure_rules.specs.declared.fact.Fact.TheVariants as fact
use Rattle.disclosure_rules.specs.declared.public.Public.{Public}
use Rattle.disclosure_rules.specs.declared.rule.Rule.{Rule}
use Rattle.disclosure_rules.specs.declared.rule.Rule.TheVariants.{
  NoAccount,
  NotAMember,
  AccountsAreClosed,
  SessionIsEmbargoed,
  BoardIsHeld,
  StillToPlay,
  OthersStillPlay,
  NeitherContestantNorSpectator,
  BoardIsIncomplete,
  AnalysisWaits,
  PlayWaits,
  ReasonIsForThePairs,
  NoResult,
}
use Rattle.disclosure_rules.specs.declared.seat.Seat.{Seat}
use Rattle.disclosure_rules.specs.declared.viewer.Viewer.{Viewer}
use Rattle.disclosure_rules.specs.Policy.{is_authorized, is_contestant, comments, guarded, forbids, first_rule, rules}
use Rattle.class_views.specs.Classes.{
  CommentAlike,
  IsSeatedAlike,
  member_of,
  is_kept_pair,
  class_of_seat,
  class_of_spectator,
  class_of,
}
use Rattle.class_views.specs.declared.user_class.UserClass.{UserClass}
use Rattle.class_views.specs.declared.user_class.UserClass.TheVariants.{
  OfPair,
  Unseated,
  Spectators,
  Directors,
  Commentators,
}
use Rattle.class_views.proofs.ClassLemmas.{
  Alike,
  contestant_alike,
  guarded_so,
  has_account,
  same_find,
  spectator_alike,
  unguarded_so,
}

-- how a user comes to be of a class
data IsOfClass (viewer : Viewer) (class : UserClass) : Type 0 where
  as_director : is_authorized viewer.roles Member ≡ true → is_authorized viewer.roles Director ≡ true →
      class ≡ Directors → IsOfClass viewer class
  as_contestant : is_authorized viewer.roles Member ≡ true → is_authorized viewer.roles Director ≡ false →
      is_contestant viewer ≡ true → class ≡ class_of_seat viewer.seat → IsOfClass viewer class
  as_spectator : is_authorized viewer.roles Member ≡ true → is_authorized viewer.roles Director ≡ false →
      is_contestant viewer ≡ false → is_authorized viewer.roles Spectator ≡ true → class ≡ class_of_spectator viewer →
      IsOfClass viewer class

some_class : (a b : UserClass) → Some a ≡ Some b → b ≡ a
some_class a b same = cc

no_class : (a : UserClass) → None ≡ Some a → ⊥
no_class a same = absurd cc

of_class : (viewer : Viewer) (class : UserClass) → class_of viewer ≡ Some class → IsOfClass viewer class
of_class viewer class is = by_member (is_authorized viewer.roles Member) refl is
  where
    by_spectator : is_authorized viewer.roles Member ≡ true → is_authorized viewer.roles Director ≡ false →
        is_contestant viewer ≡ false → (b : Bool) → is_authorized viewer.roles Spectator ≡ b →
        (if b then Some (class_of_spectator viewer) else None) ≡ Some class → IsOfClass viewer class
    by_spectator member free none true spectator is = as_spectator member free none spectator (some_class _ _ is)
    by_spectator member free none false spectator is = absurd (no_class class is)

    by_contestant : is_authorized viewer.roles Member ≡ true → is_authorized viewer.roles Director ≡ false →
        (b : Bool) → is_contestant viewer ≡ b →
        (if b then Some (class_of_seat viewer.seat) else if is_authorized viewer.roles Spectator then Some
        (class_of_spectator viewer) else None) ≡ Some class → IsOfClass viewer class
    by_contestant member free true contestant is = as_contestant member free contestant (some_class _ _ is)
    by_contestant member free false none is = by_spectator member free none (is_authorized viewer.roles Spectator) refl
        is

    by_director : is_authorized viewer.roles Member ≡ true → (b : Bool) → is_authorized viewer.roles Director ≡ b →
        (if b then Some Directors else if is_contestant viewer then Some (class_of_seat viewer.seat)
        else if is_authorized viewer.roles Spectator then Some (class_of_spectator viewer) else None) ≡ Some class →
        IsOfClass viewer class
    by_director member true director is = as_director member director (some_class _ _ is)
    by_director member false free is = by_contestant member free (is_contestant viewer) refl is

    by_member : (b : Bool) → is_authorized viewer.roles Member ≡ b →
        (if not b then None else if is_authorized viewer.roles Director then Some Directors else if is_contestant viewer
        then Some (class_of_seat viewer.seat) else if is_authorized viewer.roles Spectator then Some
        (class_of_spectator viewer) else None) ≡ Some class →
        IsOfClass viewer class
    by_member true member is = by_director member (is_authorized viewer.roles Director) refl is
    by_member false none is = absurd (no_class class is)

-- a seat's class is no other
seat_no_director : (seat : Option Seat) → class_of_seat seat ≢ Directors
seat_no_director None is = absurd cc
seat_no_director (Some seat) is = by (is_kept_pair seat.pair) is
  where
    by : (b : Bool) → (if b then OfPair seat.pair else Unseated) ≢ Directors
    by true is = absurd cc
    by false is = absurd cc

seat_no_spectator : (seat : Option Seat) (viewer : Viewer) → class_of_seat seat ≢ class_of_spectator viewer
seat_no_spectator seat viewer is = by seat (is_authorized viewer.roles Commentator) is
  where
    sits : (kept comments : Bool) (seat : Seat) →
        (if kept then OfPair seat.pair else Unseated) ≢ (if comments then Commentators else Spectators)
    sits true true seat is = absurd cc
    sits true false seat is = absurd cc
    sits false true seat is = absurd cc
    sits false false seat is = absurd cc

    by : (seat : Option Seat) (comments : Bool) → class_of_seat seat ≢ (if comments then Commentators else Spectators)
    by None true is = absurd cc
    by None false is = absurd cc
    by (Some seat) comments is = sits (is_kept_pair seat.pair) comments seat is

other_class : (viewer : Viewer) → Directors ≢ class_of_spectator viewer
other_class viewer is = by (is_authorized viewer.roles Commentator) is
  where
    by : (comments : Bool) → Directors ≢ (if comments then Commentators else Spectators)
    by true is = absurd cc
    by false is = absurd cc

-- of two spectators of one class both are commentators or neither is
same_commentators : (one other : Viewer) → class_of_spectator one ≡ class_of_spectator other →
    is_authorized one.roles Commentator ≡ is_authorized other.roles Commentator
same_commentators one other same =
    by (is_authorized one.roles Commentator) (is_authorized other.roles Commentator) same
  where
    by : (a b : Bool) → (if a then Commentators else Spectators) ≡ (if b then Commentators else Spectators) → a ≡ b
    by true true is = refl
    by false false is = refl
    by true false is = absurd cc
    by false true is = absurd cc

-- users who are like one user are alike
alike_both : (public : Public) (one other third : Viewer) (board : ℕ) → Alike public one third board →
    Alike public other third board → Alike public one other board
alike_both public one other third board a b = record {
  member = a.member;
  other_member = b.member;
  no_director = a.no_director;
  other_no_director = b.no_director;
  contestant = a.contestant ∙ sym b.contestant;
  watches = a.watches ∙ sym b.watches;
  still = a.still ∙ sym b.still;
  plays = a.plays ∙ sym b.plays;
  waits = a.waits ∙ sym b.waits;
}

module _ (public : Public) (one other : Viewer) (asked : Fact) (board : ℕ) (of_board : board_of_fact asked ≡ Some board)
    (seated : IsSeatedAlike public one other asked) where
  no_accounts : (asked : Fact) → board_of_fact asked ≡ Some board → is_accounts asked ≡ false
  no_accounts fact.Public is = refl
  no_accounts fact.Accounts is = absurd cc
  no_accounts (fact.Hands n) is = refl
  no_accounts (fact.Analysis n) is = refl
  no_accounts (fact.Result cell) is = refl
  no_accounts (fact.Play cell) is = refl
  no_accounts (fact.Cost cell) is = refl
  no_accounts (fact.Reason cell) is = refl

  closed : (viewer : Viewer) → forbids AccountsAreClosed public viewer asked ≡ false
  closed viewer =
      ap (λ b. b && (not (is_authorized viewer.roles Administrator) && not (is_authorized viewer.roles Director)))
      (no_accounts asked of_board)

  -- the rules say the same to users who are alike, and of whom both comment or neither does, where the fact asks that
  same_of : Alike public one other board → (is_analysed asked ≡ true → comments public one ≡ comments public other) →
      (rule : Rule) → forbids rule public one asked ≡ forbids rule public other asked
  same_of alike comment = same
    where
      analysed : (is_analysed asked && (not (comments public one) && not (is_complete public board))) ≡
          (is_analysed asked && (not (comments public other) && not (is_complete public board)))
      analysed = elim (cases_Bool (is_analysed asked)) [
        | inl tells ↦
            ap (λ b. is_analysed asked && (not b && not (is_complete public board))) (comment tells)
        | inr silent ↦
            ap (λ b. b && (not (comments public one) && not (is_complete public board))) silent
            ∙ sym (ap (λ b. b && (not (comments public other) && not (is_complete public board))) silent)
      ]

      both : (test other_test : ℕ → Bool) → test board ≡ other_test board →
          some_that (guarded one (board_of_fact asked)) test ≡ some_that (guarded other (board_of_fact asked))
          other_test
      both test other_test agree =
          guarded_so one (board_of_fact asked) test alike.no_director
          ∙ (ap (λ secret. some_that secret test) of_board
          ∙ (agree
          ∙ sym (guarded_so other (board_of_fact asked) other_test alike.other_no_director
          ∙ ap (λ secret. some_that secret other_test) of_board)))

      at_cell : (secret : Option Cell) (test other_test : Cell → Bool) → ((cell : Cell) → secret ≡ Some cell →
          test cell ≡ other_test cell) → some_that secret test ≡ some_that secret other_test
      at_cell None test other_test agree = refl
      at_cell (Some cell) test other_test agree = agree cell refl

      both_cell : (test other_test : Cell → Bool) → ((cell : Cell) → cell_of_fact asked ≡ Some cell →
          test cell ≡ other_test cell) → some_that (guarded one (cell_of_fact asked)) test ≡ some_that
          (guarded other (cell_of_fact asked)) other_test
      both_cell test other_test agree =
          guarded_so one (cell_of_fact asked) test alike.no_director
          ∙ (at_cell (cell_of_fact asked) test other_test agree
          ∙ sym (guarded_so other (cell_of_fact asked) other_test alike.other_no_director))

      same : (rule : Rule) → forbids rule public one asked ≡ forbids rule public other asked
      same NoAccount = has_account one.roles Member alike.member
          ∙ sym (has_account other.roles Member alike.other_member)
      same NotAMember = ap not alike.member ∙ sym (ap not alike.other_member)
      same AccountsAreClosed = closed one ∙ sym (closed other)
      same SessionIsEmbargoed = both _ _ refl
      same BoardIsHeld = both _ _ refl
      same StillToPlay = both _ _ alike.still
      same OthersStillPlay = both _ _ alike.plays
      same NeitherContestantNorSpectator = both _ _ alike.watches
      same BoardIsIncomplete = both _ _ alike.waits
      same AnalysisWaits = both _ _ analysed
      same PlayWaits = both_cell _ _ (λ cell is. ap (λ b. is_of_play asked && (not b && is_running public.phase))
          (seated cell is))
      same ReasonIsForThePairs = both_cell _ _ (λ cell is. ap (λ b. is_reason asked && not b) (seated cell is))
      same NoResult = both_cell _ _ (λ cell is. refl)

  -- and to two directors, to whom they forbid nothing
  same_of_directors : is_authorized one.roles Member ≡ true → is_authorized one.roles Director ≡ true →
      is_authorized other.roles Member ≡ true → is_authorized other.roles Director ≡ true →
      (rule : Rule) → forbids rule public one asked ≡ forbids rule public other asked
  same_of_directors member director other_member other_director = same
    where
      both : {A : Type 0} (secret : Option A) (test other_test : A → Bool) → some_that (guarded one secret) test ≡
          some_that (guarded other secret) other_test
      both secret test other_test = unguarded_so one secret test director
          ∙ sym (unguarded_so other secret other_test other_director)

      same : (rule : Rule) → forbids rule public one asked ≡ forbids rule public other asked
      same NoAccount = has_account one.roles Member member ∙ sym (has_account other.roles Member other_member)
      same NotAMember = ap not member ∙ sym (ap not other_member)
      same AccountsAreClosed = closed one ∙ sym (closed other)
      same SessionIsEmbargoed = both (board_of_fact asked) _ _
      same BoardIsHeld = both (board_of_fact asked) _ _
      same StillToPlay = both (board_of_fact asked) _ _
      same OthersStillPlay = both (board_of_fact asked) _ _
      same NeitherContestantNorSpectator = both (board_of_fact asked) _ _
      same BoardIsIncomplete = both (board_of_fact asked) _ _
      same AnalysisWaits = both (board_of_fact asked) _ _
      same PlayWaits = both (cell_of_fact asked) _ _
      same ReasonIsForThePairs = both (cell_of_fact asked) _ _
      same NoResult = both (cell_of_fact asked) _ _

  same_first : ((rule : Rule) → forbids rule public one asked ≡ forbids rule public other asked) → first_rule public one
      asked ≡ first_rule public other asked
  unfolding first_rule
  same_first same = same_find _ _ rules same

-- the first rule that forbids what belongs to a board is the same for users of one class
pub same_class_rule : (public : Public) (one other : Viewer) (class : UserClass) (asked : Fact) (board : ℕ) →
    IsSection public.movement →
    class_of one ≡ Some class → class_of other ≡ Some class → board_of_fact asked ≡ Some board → IsSeatedAlike public
    one other asked → CommentAlike public one other asked →
    first_rule public one asked ≡ first_rule public other asked
same_class_rule public one other class asked board is_section one_is other_is of_board seated comment =
    same_first public one other asked board of_board seated
    (by (of_class one class one_is) (of_class other class other_is))
  where
    by : IsOfClass one class → IsOfClass other class → (rule : Rule) → forbids rule public one asked ≡ forbids rule
        public other asked
    by (as_director member director is) (as_director other_member other_director other_is) =
        same_of_directors public one other asked board of_board seated member director other_member other_director
    by (as_director member director is) (as_contestant other_member free contestant other_is) =
        absurd (seat_no_director other.seat (sym other_is ∙ is))
    by (as_director member director is) (as_spectator other_member free none spectator other_is) =
        absurd (other_class other (sym is ∙ other_is))
    by (as_contestant member free contestant is) (as_director other_member other_director other_is) =
        absurd (seat_no_director one.seat (sym is ∙ other_is))
    by (as_contestant member free contestant is) (as_contestant other_member other_free other_contestant other_is) =
        same_of public one other asked board of_board seated
        (alike_both public one other (member_of class) board
        (subst (λ c. Alike public one (member_of c) board) (sym is) (contestant_alike public one board is_section member
        free contestant one.seat refl))
        (subst (λ c. Alike public other (member_of c) board) (sym other_is)
        (contestant_alike public other board is_section other_member other_free other_contestant other.seat refl)))
        (comment contestant)
    by (as_contestant member free contestant is) (as_spectator other_member other_free none spectator other_is) =
        absurd (seat_no_spectator one.seat other (sym is ∙ other_is))
    by (as_spectator member free none spectator is) (as_director other_member other_director other_is) =
        absurd (other_class one (sym other_is ∙ is))
    by (as_spectator member free none spectator is) (as_contestant other_member other_free contestant other_is) =
        absurd (seat_no_spectator other.seat one (sym other_is ∙ is))
    by (as_spectator member free none spectator is) (as_spectator other_member other_free other_none other_spectator
        other_is) =
        same_of public one other asked board of_board seated
        (alike_both public one other (member_of class) board
        (subst (λ c. Alike public one (member_of c) board) (sym is) (spectator_alike public one board is_section member
        free none spectator))
        (subst (λ c. Alike public other (member_of c) board) (sym other_is)
        (spectator_alike public other board is_section other_member other_free other_none other_spectator)))
        (λ tells. ap (λ b. is_second public.edition && b) (same_commentators one other (sym is ∙ other_is)))
