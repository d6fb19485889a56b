use Rattle.std.proofs.Common.{ℕ, true, false, sym, ap, ◌≡◌, ◌⊎◌, ◌∙◌, inl, inr}
use Rattle.std.specs.Prelude.{◌&&◌, ◌||◌, Some, not}
use Rattle.session_roles.specs.Edition.{is_second}
use Rattle.small_sets.specs.Numbers.{has_number}
use Rattle.disclosure_rules.specs.Seating.{is_complete}
use Rattle.disclosure_rules.specs.declared.public.Public.{Public}
use Rattle.class_views.specs.Classes.{class_sees, without_embargo}
use Rattle.class_views.specs.declared.user_class.UserClass.{UserClass}
use Rattle.class_views.specs.declared.user_class.UserClass.TheVariants.{
  OfPair,
  Unseated,
  Spectators,
  Directors,
  Commentators,
}
use Rattle.class_views.proofs.ClassSightLemmas.{
  commentators_see,
  directors_see,
  free_so,
  held_so,
  pair_sees,
  spectators_see,
  unseated_see,
}
use Rattle.class_views.proofs.class_sight.ClassSight.is_of.Goals as goal

-- what the class sees that was matched
of_class : (public : Public) (board : ℕ) (class named : UserClass) → class ≡ named →
    class_sees (without_embargo public) (Some named) board ≡ class_sees (without_embargo public) (Some class) board
of_class public board class named is = ap (λ (class : UserClass). class_sees (without_embargo public) (Some class) board)
    (sym is)

pub returns-in-Directors : goal.returns-in-Directors
returns-in-Directors c =
    let sight = c.args.self.now in
    directors_see sight.public.now sight.board ∙ of_class sight.public.now sight.board c.args.class Directors c.in-Directors.is

pub returns-then-not-self : goal.returns-then-not-self
returns-then-not-self c =
    let sight = c.args.self.now in
    c.is_over_for.ensures
    ∙ (free_so (has_number sight.public.now.held sight.board) _ (sym sight.held ∙ c.if-not-self.true)
    ∙ (pair_sees sight.public.now sight.board c.in-OfPair.pair
    ∙ of_class sight.public.now sight.board c.args.class (OfPair c.in-OfPair.pair) c.in-OfPair.is))

pub returns-else-not-self : goal.returns-else-not-self
returns-else-not-self c =
    let sight = c.args.self.now in
    ap not sight.held
    ∙ (held_so (has_number sight.public.now.held sight.board) _ (sym sight.held ∙ c.if-not-self.false)
    ∙ (pair_sees sight.public.now sight.board c.in-OfPair.pair
    ∙ of_class sight.public.now sight.board c.args.class (OfPair c.in-OfPair.pair) c.in-OfPair.is))

-- who waits for the whole board
seen_when_complete : (public : Public) (board : ℕ) (class : UserClass) → (class ≡ Unseated) ⊎ (class ≡ Spectators) →
    (not (has_number public.held board) && is_complete public board) ≡ class_sees (without_embargo public) (Some class)
    board
seen_when_complete public board class (inl is) = unseated_see public board ∙ of_class public board class Unseated is
seen_when_complete public board class (inr is) = spectators_see public board ∙ of_class public board class Spectators is

pub returns-then-not-self-2 : goal.returns-then-not-self-2
returns-then-not-self-2 c =
    let sight = c.args.self.now in
    sight.complete
    ∙ (free_so (has_number sight.public.now.held sight.board) (is_complete sight.public.now sight.board)
    (sym sight.held ∙ c.if-not-self-2.true)
    ∙ seen_when_complete sight.public.now sight.board c.args.class c.in-Unseated.is)

pub returns-else-not-self-2 : goal.returns-else-not-self-2
returns-else-not-self-2 c =
    let sight = c.args.self.now in
    ap not sight.held
    ∙ (held_so (has_number sight.public.now.held sight.board) (is_complete sight.public.now sight.board)
    (sym sight.held ∙ c.if-not-self-2.false)
    ∙ seen_when_complete sight.public.now sight.board c.args.class c.in-Unseated.is)

-- commentators see it before
seen_by_commentators : (public : Public) (board : ℕ) (class : UserClass) → class ≡ Commentators →
    has_number public.held board ≡ false →
    (is_complete public board || is_second public.edition) ≡ class_sees (without_embargo public) (Some class) board
seen_by_commentators public board class is free =
    free_so (has_number public.held board) _ free
    ∙ (commentators_see public board ∙ of_class public board class Commentators is)

pub returns-then-self : goal.returns-then-self
returns-then-self c =
    let sight = c.args.self.now in
    let complete : is_complete sight.public.now sight.board ≡ true = sym sight.complete ∙ c.if-self.true in
    c.if-self.true
    ∙ (sym (ap (λ b. b || is_second sight.public.now.edition) complete)
    ∙ seen_by_commentators sight.public.now sight.board c.args.class c.in-Commentators.is
    (sym sight.held ∙ c.if-not-self-3.true))

pub returns-else-self : goal.returns-else-self
returns-else-self c =
    let sight = c.args.self.now in
    let incomplete : is_complete sight.public.now sight.board ≡ false = sym sight.complete ∙ c.if-self.false in
    c.is_second.ensures
    ∙ (sym (ap (λ b. b || is_second sight.public.now.edition) incomplete)
    ∙ seen_by_commentators sight.public.now sight.board c.args.class c.in-Commentators.is
    (sym sight.held ∙ c.if-not-self-3.true))

pub returns-else-not-self-3 : goal.returns-else-not-self-3
returns-else-not-self-3 c =
    let sight = c.args.self.now in
    ap not sight.held
    ∙ (held_so (has_number sight.public.now.held sight.board) _ (sym sight.held ∙ c.if-not-self-3.false)
    ∙ (commentators_see sight.public.now sight.board
    ∙ of_class sight.public.now sight.board c.args.class Commentators c.in-Commentators.is))
