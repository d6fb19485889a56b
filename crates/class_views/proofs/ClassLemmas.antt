-- Users of one class are shown the hands of the same boards.
use Rattle.std.proofs.Common.{
  ◌≡◌,
  ℕ,
  ◌≤◌,
  Bool,
  true,
  false,
  cond,
  List,
  [],
  ◌∷◌,
  refl,
  sym,
  ap,
  ◌∙◌,
  subst,
  inl,
  inr,
  Contains,
  Any,
}
use Rattle.std.specs.Prelude.{Option, Some, None, IsSomeAnd, is_none, not, ◌&&◌, if◌then◌else◌}
use Rattle.std.specs.List.{find, list_any}
use Rattle.std.proofs.lemmas.Bool.{cases_Bool, false≢true, le-leb, false_from_ne_true}
use Rattle.table_terms.specs.declared.pair.Pair.{Pair}
use Rattle.session_roles.specs.declared.role.Role.{Role}
use Rattle.session_roles.specs.declared.role.Role.TheVariants.{Member, Spectator, Director, Commentator}
use Rattle.movement.specs.declared.row.Row.{Row}
use Rattle.movement.specs.Movement.{IsSection, Section, rows}
use Rattle.movement.specs.Row.{Seats, Plays}
use Rattle.movement.specs.Schedule.{plays}
use Rattle.disclosure_rules.specs.declared.fact.Fact.TheVariants.{Hands}
use Rattle.disclosure_rules.specs.declared.public.Public.{Public}
use Rattle.disclosure_rules.specs.declared.rule.Rule.{Rule}
use Rattle.disclosure_rules.specs.declared.rule.Rule.TheVariants.{
  NoAccount,
  NotAMember,
  AccountsAreClosed,
  SessionIsEmbargoed,
  BoardIsHeld,
  StillToPlay,
  OthersStillPlay,
  NeitherContestantNorSpectator,
  BoardIsIncomplete,
  AnalysisWaits,
  PlayWaits,
  ReasonIsForThePairs,
  NoResult,
}
use Rattle.disclosure_rules.specs.declared.seat.Seat.{Seat}
use Rattle.disclosure_rules.specs.declared.viewer.Viewer.{Viewer}
use Rattle.session_roles.specs.Edition.{is_second}
use Rattle.disclosure_rules.specs.Policy.{
  is_authorized,
  is_contestant,
  is_embargoed,
  comments,
  guarded,
  forbids,
  first_rule,
  rules,
}
use Rattle.disclosure_rules.specs.Seating.{some_that, plays_board, has_still_to_play, is_complete, cell_in}
use Rattle.disclosure_rules.specs.LiveCells.{is_live}
use Rattle.disclosure_rules.proofs.SeatingTests.{plays_board_decides, still_decides}
use Rattle.disclosure_rules.proofs.FirstLemmas.{no_first, none_forbids}
use Rattle.class_views.specs.Classes.{
  member_of,
  is_kept_pair,
  class_of_seat,
  class_of_spectator,
  class_of,
  sees_board,
  class_sees,
  is_shown_boards,
  without_embargo,
}
use Rattle.class_views.specs.declared.user_class.UserClass.{UserClass}
use Rattle.class_views.specs.declared.user_class.UserClass.TheVariants.{
  OfPair,
  Unseated,
  Spectators,
  Directors,
  Commentators,
}

-- whether something is found by tests that agree
pub same_find : (p q : Rule → Bool) (xs : List Rule) → ((rule : Rule) → p rule ≡ q rule) → find p xs ≡ find q xs
same_find p q [] same = refl
same_find p q (x ∷ xs) same = λ i. cond (same x i) (Some x) (same_find p q xs same i)

-- where the rules say the same of two users, the users are shown the same
same_rules : (public : Public) (viewer other : Viewer) (board : ℕ) →
    ((rule : Rule) → forbids rule public viewer (Hands board) ≡ forbids rule public other (Hands board)) →
    sees_board public viewer board ≡ sees_board public other board
unfolding first_rule
same_rules public viewer other board same = ap is_none (same_find _ _ rules same)

-- who is authorized for something has an account
pub has_account : (found : Option (List Role)) (role : Role) → is_authorized found role ≡ true → is_none found ≡ false
has_account None role authorized = absurd (false≢true authorized)
has_account (Some set) role authorized = refl

-- what is guarded is guarded from who is no director
pub guarded_so : {A : Type 0} (viewer : Viewer) (secret : Option A) (test : A → Bool) → is_authorized viewer.roles
    Director ≡ false → some_that (guarded viewer secret) test ≡ some_that secret test
guarded_so viewer secret test none = ap (λ b. some_that (if b then None else secret) test) none

pub unguarded_so : {A : Type 0} (viewer : Viewer) (secret : Option A) (test : A → Bool) → is_authorized viewer.roles
    Director ≡ true → some_that (guarded viewer secret) test ≡ false
unguarded_so viewer secret test director = ap (λ b. some_that (if b then None else secret) test) director

-- what belongs to no table is guarded from nobody
no_cell : {A : Type 0} (viewer : Viewer) (test : A → Bool) → some_that (guarded {A = A} viewer None) test ≡ false
no_cell {A} viewer test = by (is_authorized viewer.roles Director)
  where
    the_none : Option A
    the_none = None

    by : (b : Bool) → some_that (if b then the_none else the_none) test ≡ false
    by true = refl
    by false = refl

-- a director is shown every board
director_sees : (public : Public) (viewer : Viewer) (board : ℕ) → is_authorized viewer.roles Member ≡ true →
    is_authorized viewer.roles Director ≡ true → sees_board public viewer board ≡ true
director_sees public viewer board member director = ap is_none (no_first public viewer (Hands board) allowed)
  where
    allowed : (rule : Rule) → forbids rule public viewer (Hands board) ≡ false
    allowed NoAccount = has_account viewer.roles Member member
    allowed NotAMember = ap not member
    allowed AccountsAreClosed = refl
    allowed SessionIsEmbargoed = unguarded_so viewer (Some board) _ director
    allowed BoardIsHeld = unguarded_so viewer (Some board) _ director
    allowed StillToPlay = unguarded_so viewer (Some board) _ director
    allowed OthersStillPlay = unguarded_so viewer (Some board) _ director
    allowed NeitherContestantNorSpectator = unguarded_so viewer (Some board) _ director
    allowed BoardIsIncomplete = unguarded_so viewer (Some board) _ director
    allowed AnalysisWaits = unguarded_so viewer (Some board) _ director
    allowed PlayWaits = no_cell viewer _
    allowed ReasonIsForThePairs = no_cell viewer _
    allowed NoResult = no_cell viewer _

-- what the rules on hands ask of a user who is no director
pub record Alike (public : Public) (viewer other : Viewer) (board : ℕ) : Type 0 where
  pub member : is_authorized viewer.roles Member ≡ true
  pub other_member : is_authorized other.roles Member ≡ true
  pub no_director : is_authorized viewer.roles Director ≡ false
  pub other_no_director : is_authorized other.roles Director ≡ false
  pub contestant : is_contestant viewer ≡ is_contestant other
  pub watches : (not (is_contestant viewer) && not (is_authorized viewer.roles Spectator)) ≡
      (not (is_contestant other) && not (is_authorized other.roles Spectator))
  pub still : (is_contestant viewer && has_still_to_play public viewer board) ≡
      (is_contestant other && has_still_to_play public other board)
  pub plays : (is_contestant viewer && (not (plays_board public viewer board) && not (is_complete public board))) ≡
      (is_contestant other && (not (plays_board public other board) && not (is_complete public board)))
  pub waits : (not (is_contestant viewer) && (not (comments public viewer) && not (is_complete public board))) ≡
      (not (is_contestant other) && (not (comments public other) && not (is_complete public board)))

-- users who are alike are shown the same
alike_see : (public : Public) (viewer other : Viewer) (board : ℕ) → Alike public viewer other board →
    sees_board public viewer board ≡ sees_board public other board
alike_see public viewer other board alike = same_rules public viewer other board same
  where
    both : (test other_test : ℕ → Bool) → test board ≡ other_test board → some_that (guarded viewer (Some board)) test ≡
        some_that (guarded other (Some board)) other_test
    both test other_test agree =
        guarded_so viewer (Some board) test alike.no_director ∙ agree
        ∙ sym (guarded_so other (Some board) other_test alike.other_no_director)

    same : (rule : Rule) → forbids rule public viewer (Hands board) ≡ forbids rule public other (Hands board)
    same NoAccount = has_account viewer.roles Member alike.member
        ∙ sym (has_account other.roles Member alike.other_member)
    same NotAMember = ap not alike.member ∙ sym (ap not alike.other_member)
    same AccountsAreClosed = refl
    same SessionIsEmbargoed = both _ _ refl
    same BoardIsHeld = both _ _ refl
    same StillToPlay = both _ _ alike.still
    same OthersStillPlay = both _ _ alike.plays
    same NeitherContestantNorSpectator = both _ _ alike.watches
    same BoardIsIncomplete = both _ _ alike.waits
    same AnalysisWaits = both _ _ refl
    same PlayWaits = no_cell viewer _ ∙ sym (no_cell other _)
    same ReasonIsForThePairs = no_cell viewer _ ∙ sym (no_cell other _)
    same NoResult = no_cell viewer _ ∙ sym (no_cell other _)

-- a user whom a rule forbids the hands of a board isn't shown it
forbidden_sees : (public : Public) (viewer : Viewer) (board : ℕ) (rule : Rule) → forbids rule public viewer
    (Hands board) ≡ true → sees_board public viewer board ≡ false
forbidden_sees public viewer board rule forbidden = by (first_rule public viewer (Hands board)) refl
  where
    by : (found : Option Rule) → first_rule public viewer (Hands board) ≡ found → is_none found ≡ false
    by None none = absurd (false≢true (sym (none_forbids public viewer (Hands board) none rule) ∙ forbidden))
    by (Some first) some = refl

-- ---- seats

module _ (public : Public) (viewer : Viewer) (board : ℕ) where
  -- what rules look at of a seat is its pair
  abbrev at_pair : Pair → Viewer
  at_pair pair = member_of (OfPair pair)

  still_by_pair : (seat : Seat) → viewer.seat ≡ Some seat → has_still_to_play public viewer board ≡ has_still_to_play
      public (at_pair seat.pair) board
  unfolding has_still_to_play
  still_by_pair seat sits =
      ap (λ (s : Option Seat). some_that s (λ seat. list_any (λ row. plays public.movement seat.pair board row && not
      (is_live public.live (cell_in row board))) (rows public.movement))) sits

  plays_by_pair : (seat : Seat) → viewer.seat ≡ Some seat → plays_board public viewer board ≡ plays_board public
      (at_pair seat.pair) board
  unfolding plays_board
  plays_by_pair seat sits =
      ap (λ (s : Option Seat). some_that s (λ seat. list_any (plays public.movement seat.pair board)
      (rows public.movement))) sits

  -- who has no seat plays nothing
  still_without : viewer.seat ≡ None → has_still_to_play public viewer board ≡ false
  unfolding has_still_to_play
  still_without none =
      ap (λ (s : Option Seat). some_that s (λ seat. list_any (λ row. plays public.movement seat.pair board row && not
      (is_live public.live (cell_in row board))) (rows public.movement))) none

  plays_without : viewer.seat ≡ None → plays_board public viewer board ≡ false
  unfolding plays_board
  plays_without none =
      ap (λ (s : Option Seat). some_that s (λ seat. list_any (plays public.movement seat.pair board)
      (rows public.movement))) none

-- a pair whose number no section has isn't one that sits somewhere
strange_not : (seated pair : Pair) → seated ≡ pair → is_kept_pair pair ≡ false → 1 ≤ seated.number →
    seated.number ≤ 16 → ⊥
strange_not seated pair same strange from to =
    false≢true (sym strange ∙ sym (ap is_kept_pair same)
    ∙ (λ i. le-leb 1 seated.number from i && le-leb seated.number 16 to i))

-- no row seats a pair whose number no section has
stranger_sits_nowhere : (section : Section) (row : Row) (pair : Pair) → IsSection section → Contains (rows section)
    row → is_kept_pair pair ≡ false → ¬ Seats row pair
stranger_sits_nowhere section row pair is_section listed strange (inl north_south) =
    let there = is_section.in_range row listed in
    strange_not row.north_south pair north_south strange there.from_north_south there.to_north_south
stranger_sits_nowhere section row pair is_section listed strange (inr east_west) =
    let there = is_section.in_range row listed in
    strange_not row.east_west pair east_west strange there.from_east_west there.to_east_west

some_seat : (a b : Seat) → Some a ≡ Some b → a ≡ b
some_seat a b same = cc

module _ (public : Public) (viewer : Viewer) (board : ℕ) (is_section : IsSection public.movement) (seat : Seat)
    (sits : viewer.seat ≡ Some seat) (strange : is_kept_pair seat.pair ≡ false) where
  plays_nowhere : plays_board public viewer board ≡ false
  plays_nowhere = false_from_ne_true _ (λ test. by viewer.seat sits ((plays_board_decides public viewer board).0 test))
    where
      by : (s : Option Seat) → s ≡ Some seat →
          IsSomeAnd s (λ seat. Any (λ row. Plays public.movement row seat.pair board) (rows public.movement)) → ⊥
      by None same some = some
      by (Some other) same (k, row, below, here, plays) =
          let pair : other.pair ≡ seat.pair = ap (λ (s : Seat). s.pair) (some_seat other seat same) in
          stranger_sits_nowhere public.movement row other.pair is_section (k, below, here)
          (ap is_kept_pair pair ∙ strange) plays.seated

  still_nowhere : has_still_to_play public viewer board ≡ false
  still_nowhere = false_from_ne_true _ (λ test. by viewer.seat sits ((still_decides public viewer board).0 test))
    where
      by : (s : Option Seat) → s ≡ Some seat →
          IsSomeAnd s (λ seat. Any (λ row. Plays public.movement row seat.pair board ×
          (is_live public.live (cell_in row board) ≡ false)) (rows public.movement)) → ⊥
      by None same some = some
      by (Some other) same (k, row, below, here, waits) =
          let pair : other.pair ≡ seat.pair = ap (λ (s : Seat). s.pair) (some_seat other seat same) in
          stranger_sits_nowhere public.movement row other.pair is_section (k, below, here)
          (ap is_kept_pair pair ∙ strange) waits.0.seated

-- ---- classes

-- a test of two sides is that of their parts
and_same : (a b c d : Bool) → a ≡ c → b ≡ d → (a && b) ≡ (c && d)
and_same a b c d one two = λ i. one i && two i

module _ (public : Public) (viewer : Viewer) (board : ℕ) (is_section : IsSection public.movement)
    (member : is_authorized viewer.roles Member ≡ true) (no_director : is_authorized viewer.roles Director ≡ false)
  where
    -- a contestant is like any other whose seat says the same of the board
    contestant_like : (other : Viewer) → is_authorized other.roles Member ≡ true → is_authorized other.roles Director ≡
        false → is_contestant viewer ≡ true → is_contestant other ≡ true →
        has_still_to_play public viewer board ≡ has_still_to_play public other board → plays_board public viewer board ≡
        plays_board public other board → Alike public viewer other board
    contestant_like other other_member other_free plays_too other_too still plays = record {
      member = member;
      other_member = other_member;
      no_director = no_director;
      other_no_director = other_free;
      contestant = plays_too ∙ sym other_too;
      watches =
          ap (λ b. not b && not (is_authorized viewer.roles Spectator)) plays_too
          ∙ sym (ap (λ b. not b && not (is_authorized other.roles Spectator)) other_too);
      still = and_same _ _ _ _ (plays_too ∙ sym other_too) still;
      plays = and_same _ _ _ _ (plays_too ∙ sym other_too) (ap (λ b. not b && not (is_complete public board)) plays);
      waits =
          ap (λ b. not b && (not (comments public viewer) && not (is_complete public board))) plays_too
          ∙ sym (ap (λ b. not b && (not (comments public other) && not (is_complete public board))) other_too);
    }

    pub contestant_alike : is_contestant viewer ≡ true → (seat : Option Seat) → viewer.seat ≡ seat →
        Alike public viewer (member_of (class_of_seat seat)) board
    contestant_alike contestant None none =
        contestant_like (member_of Unseated) refl refl contestant refl
        (still_without public viewer board none ∙ sym (still_without public (member_of Unseated) board refl))
        (plays_without public viewer board none ∙ sym (plays_without public (member_of Unseated) board refl))
    contestant_alike contestant (Some seat) sits =
        elim (cases_Bool (is_kept_pair seat.pair)) [
          | inl kept ↦
              subst (λ b. Alike public viewer (member_of (if b then OfPair seat.pair else Unseated)) board) (sym kept)
              (contestant_like (member_of (OfPair seat.pair)) refl refl contestant refl
              (still_by_pair public viewer board seat sits) (plays_by_pair public viewer board seat sits))
          | inr strange ↦
              subst (λ b. Alike public viewer (member_of (if b then OfPair seat.pair else Unseated)) board) (sym strange)
              (contestant_like (member_of Unseated) refl refl contestant refl
              (still_nowhere public viewer board is_section seat sits strange
              ∙ sym (still_without public (member_of Unseated) board refl))
              (plays_nowhere public viewer board is_section seat sits strange
              ∙ sym (plays_without public (member_of Unseated) board refl)))
        ]

    contestant_sees : is_contestant viewer ≡ true → (seat : Option Seat) → viewer.seat ≡ seat →
        sees_board public viewer board ≡ sees_board public (member_of (class_of_seat seat)) board
    contestant_sees contestant seat sits =
        alike_see public viewer (member_of (class_of_seat seat)) board (contestant_alike contestant seat sits)

    -- a spectator is like any other who comments or doesn't
    spectator_like : (other : Viewer) → is_authorized other.roles Member ≡ true → is_authorized other.roles Director ≡
        false → is_contestant other ≡ false → is_authorized other.roles Spectator ≡ true →
        is_authorized viewer.roles Commentator ≡ is_authorized other.roles Commentator →
        is_contestant viewer ≡ false → is_authorized viewer.roles Spectator ≡ true → Alike public viewer other board
    spectator_like other other_member other_free other_none other_spectator commentator none spectator = record {
      member = member;
      other_member = other_member;
      no_director = no_director;
      other_no_director = other_free;
      contestant = none ∙ sym other_none;
      watches = (λ i. not (none i) && not (spectator i)) ∙ sym (λ i. not (other_none i) && not (other_spectator i));
      still =
          ap (λ b. b && has_still_to_play public viewer board) none
          ∙ sym (ap (λ b. b && has_still_to_play public other board) other_none);
      plays =
          ap (λ b. b && (not (plays_board public viewer board) && not (is_complete public board))) none
          ∙ sym (ap (λ b. b && (not (plays_board public other board) && not (is_complete public board))) other_none);
      waits = λ i. not ((none ∙ sym other_none) i)
          && (not (is_second public.edition && commentator i) && not (is_complete public board));
    }

    pub spectator_alike : is_contestant viewer ≡ false → is_authorized viewer.roles Spectator ≡ true → Alike public viewer
        (member_of (class_of_spectator viewer)) board
    spectator_alike none spectator =
        elim (cases_Bool (is_authorized viewer.roles Commentator)) [
          | inl commentator ↦
              subst (λ b. Alike public viewer (member_of (if b then Commentators else Spectators)) board)
              (sym commentator)
              (spectator_like (member_of Commentators) refl refl refl refl commentator none spectator)
          | inr no_commentator ↦
              subst (λ b. Alike public viewer (member_of (if b then Commentators else Spectators)) board)
              (sym no_commentator)
              (spectator_like (member_of Spectators) refl refl refl refl no_commentator none spectator)
        ]

    spectator_sees : is_contestant viewer ≡ false → is_authorized viewer.roles Spectator ≡ true → sees_board public viewer
        board ≡ sees_board public (member_of (class_of_spectator viewer)) board
    spectator_sees none spectator = alike_see public viewer (member_of (class_of_spectator viewer)) board
        (spectator_alike none spectator)

    -- who neither plays nor watches sees nothing
    stranger_sees : is_contestant viewer ≡ false → is_authorized viewer.roles Spectator ≡ false → sees_board public viewer
        board ≡ false
    stranger_sees none no_spectator =
        forbidden_sees public viewer board NeitherContestantNorSpectator
        (guarded_so viewer (Some board) (λ _. not (is_contestant viewer) && not (is_authorized viewer.roles Spectator))
        no_director
        ∙ (λ i. not (none i) && not (no_spectator i)))

-- users of one class are shown the hands of the same boards
pub same_class_sees : (public : Public) (viewer : Viewer) (board : ℕ) → IsSection public.movement →
    sees_board public viewer board ≡ class_sees public (class_of viewer) board
same_class_sees public viewer board is_section = by_member (is_authorized viewer.roles Member) refl
  where
    by_spectator : is_authorized viewer.roles Member ≡ true → is_authorized viewer.roles Director ≡ false →
        is_contestant viewer ≡ false → (b : Bool) → is_authorized viewer.roles Spectator ≡ b →
        sees_board public viewer board ≡ class_sees public (if b then Some (class_of_spectator viewer)
        else None) board
    by_spectator member free none true is = spectator_sees public viewer board is_section member free none is
    by_spectator member free none false is = stranger_sees public viewer board is_section member free none is

    by_contestant : is_authorized viewer.roles Member ≡ true → is_authorized viewer.roles Director ≡ false →
        (b : Bool) → is_contestant viewer ≡ b →
        sees_board public viewer board ≡ class_sees public
        (if b then Some (class_of_seat viewer.seat) else if is_authorized viewer.roles Spectator then Some
        (class_of_spectator viewer) else None) board
    by_contestant member free true is = contestant_sees public viewer board is_section member free is viewer.seat refl
    by_contestant member free false is = by_spectator member free is (is_authorized viewer.roles Spectator) refl

    by_director : is_authorized viewer.roles Member ≡ true → (b : Bool) → is_authorized viewer.roles Director ≡ b →
        sees_board public viewer board
        ≡ class_sees public (if b then Some Directors else if is_contestant viewer then Some (class_of_seat viewer.seat)
        else if is_authorized viewer.roles Spectator then Some (class_of_spectator viewer) else None) board
    by_director member true is = director_sees public viewer board member is
        ∙ sym (director_sees public (member_of Directors) board refl refl)
    by_director member false is = by_contestant member is (is_contestant viewer) refl

    by_member : (b : Bool) → is_authorized viewer.roles Member ≡ b → sees_board public viewer board ≡ class_sees public
        (class_of viewer) board
    by_member true is =
        by_director is (is_authorized viewer.roles Director) refl
        ∙ ap (λ (class : Option UserClass). class_sees public class board)
        (sym (ap (λ b. if not b then None else if is_authorized viewer.roles Director then Some Directors
        else if is_contestant viewer then Some (class_of_seat viewer.seat) else if is_authorized viewer.roles
        Spectator then Some (class_of_spectator viewer) else None) is))
    by_member false is =
        forbidden_sees public viewer board NotAMember (ap not is)
        ∙ ap (λ (class : Option UserClass). class_sees public class board)
        (sym (ap (λ b. if not b then None else if is_authorized viewer.roles Director then Some Directors
        else if is_contestant viewer then Some (class_of_seat viewer.seat) else if is_authorized viewer.roles
        Spectator then Some (class_of_spectator viewer) else None) is))

-- ---- embargoes

module _ (public : Public) (board : ℕ) where
  -- where there is no embargo, the rules say the same as without one
  no_embargo_sees : (viewer : Viewer) → is_embargoed public ≡ false → sees_board public viewer board ≡ sees_board
      (without_embargo public) viewer board
  unfolding first_rule has_still_to_play plays_board is_complete
  no_embargo_sees viewer none = ap is_none (same_find _ _ rules same)
    where
      no_other : is_embargoed public ≡ (is_second public.edition && false)
      no_other = none ∙ never (is_second public.edition)
        where
          never : (b : Bool) → false ≡ (b && false)
          never true = refl
          never false = refl

      same : (rule : Rule) → forbids rule public viewer (Hands board) ≡ forbids rule (without_embargo public) viewer
          (Hands board)
      same NoAccount = refl
      same NotAMember = refl
      same AccountsAreClosed = refl
      same SessionIsEmbargoed = ap (λ b. some_that (guarded viewer (Some board)) (λ _. b)) no_other
      same BoardIsHeld = refl
      same StillToPlay = refl
      same OthersStillPlay = refl
      same NeitherContestantNorSpectator = refl
      same BoardIsIncomplete = refl
      same AnalysisWaits = refl
      same PlayWaits = refl
      same ReasonIsForThePairs = refl
      same NoResult = refl

  -- under an embargo who is no director is shown nothing
  embargo_sees : (viewer : Viewer) → is_authorized viewer.roles Director ≡ false → is_embargoed public ≡ true →
      sees_board public viewer board ≡ false
  embargo_sees viewer free embargo =
      forbidden_sees public viewer board SessionIsEmbargoed
      (guarded_so viewer (Some board) (λ _. is_embargoed public) free ∙ embargo)

  not_director : (viewer : Viewer) → is_authorized viewer.roles Director ≡ false → sees_board public viewer board ≡
      (not (is_embargoed public) && sees_board (without_embargo public) viewer board)
  not_director viewer free =
      elim (cases_Bool (is_embargoed public)) [
        | inl embargo ↦
            embargo_sees viewer free embargo
            ∙ sym (ap (λ b. not b && sees_board (without_embargo public) viewer board) embargo)
        | inr none ↦
            no_embargo_sees viewer none
            ∙ sym (ap (λ b. not b && sees_board (without_embargo public) viewer board) none)
      ]

  -- a class is shown what it would be without an embargo, where it may be shown boards at all
  pub class_sees_now : (class : UserClass) → class_sees public (Some class) board ≡
      (is_shown_boards public class && class_sees (without_embargo public) (Some class) board)
  class_sees_now Directors = director_sees public (member_of Directors) board refl refl
      ∙ sym (director_sees (without_embargo public) (member_of Directors) board refl refl)
  class_sees_now (OfPair pair) = not_director (member_of (OfPair pair)) refl
  class_sees_now Unseated = not_director (member_of Unseated) refl
  class_sees_now Spectators = not_director (member_of Spectators) refl
  class_sees_now Commentators = not_director (member_of Commentators) refl
