use Rattle.std.proofs.Common.{arith, ap, sym, ◌∙◌}
use Rattle.class_views.specs.declared.user_class.UserClass.TheVariants.{OfPair}
use Rattle.class_views.proofs.PlaceLemmas.{
  pair_class,
  unseated_class,
  spectators_class,
  directors_class,
  commentators_class,
}
use Rattle.class_views.proofs.user_class.UserClass.at.Goals as goal

pub returns-then-place-lt-PAIRS : goal.returns-then-place-lt-PAIRS
returns-then-place-lt-PAIRS c = ap OfPair c.pair_at.ensures ∙ sym (pair_class c.args.place c.if-place-lt-PAIRS.true)

pub returns-in-0 : goal.returns-in-0
returns-in-0 c = unseated_class c.args.place (omega (arith, c.in-0.is, c.if-place-lt-PAIRS.false))

pub returns-in-1 : goal.returns-in-1
returns-in-1 c = spectators_class c.args.place (omega (arith, c.in-1.is, c.if-place-lt-PAIRS.false))

pub returns-in-2 : goal.returns-in-2
returns-in-2 c = directors_class c.args.place (omega (arith, c.in-2.is, c.if-place-lt-PAIRS.false))

pub returns-in_default : goal.returns-in_default
returns-in_default c = commentators_class c.args.place (omega (arith, c.in_default, c.if-place-lt-PAIRS.false))
