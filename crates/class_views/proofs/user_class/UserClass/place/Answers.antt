use Rattle.std.proofs.Common.{arith, ap, sym, ◌∙◌, refl}
use Rattle.class_views.specs.declared.user_class.UserClass.TheVariants.{OfPair}
use Rattle.class_views.proofs.PlaceLemmas.{
  pair_class,
  unseated_class,
  spectators_class,
  directors_class,
  commentators_class,
}
use Rattle.class_views.proofs.user_class.UserClass.place.Goals as goal

pub returns-in-OfPair-clause-place : goal.returns-in-OfPair-clause-place
returns-in-OfPair-clause-place c =
    pair_class c.place_of.result c.place_of.ensures.below ∙ (ap OfPair c.place_of.ensures.place ∙ sym c.in-OfPair.is)

pub returns-in-Unseated-clause-place : goal.returns-in-Unseated-clause-place
returns-in-Unseated-clause-place c = sym (unseated_class 32 refl) ∙ sym c.in-Unseated.is

pub returns-in-Spectators-clause-place : goal.returns-in-Spectators-clause-place
returns-in-Spectators-clause-place c = sym (spectators_class 33 refl) ∙ sym c.in-Spectators.is

pub returns-in-Directors-clause-place : goal.returns-in-Directors-clause-place
returns-in-Directors-clause-place c = sym (directors_class 34 refl) ∙ sym c.in-Directors.is

pub returns-in-Commentators-clause-place : goal.returns-in-Commentators-clause-place
returns-in-Commentators-clause-place c = sym (commentators_class 35 (omega arith)) ∙ sym c.in-Commentators.is
