use Rattle.cards.proofs.PartsLemmas.{cut_in_four, is_cut, is_cut_twice, is_cut_thrice}
use Rattle.cards.proofs.parts.in_four.Goals as goal

pub returns-in_default-clause-none : goal.returns-in_default-clause-none
returns-in_default-clause-none c = λ one two three four parts.
    is_cut c.args.mark c.requires c.args.text.now one two three four parts c.in_default.ensures.cases

pub returns-in_default-split_once-clause-none : goal.returns-in_default-split_once-clause-none
returns-in_default-split_once-clause-none c = λ one two three four parts.
    is_cut_twice c.args.mark c.requires c.args.text.now one two three four parts
    (c.in-Some.one, c.in-Some.rest) c.in-Some.ensures.cases c.in_default-split_once.ensures.cases

pub returns-in_default-split_once-2-clause-none : goal.returns-in_default-split_once-2-clause-none
returns-in_default-split_once-2-clause-none c = λ one two three four parts.
    is_cut_thrice c.args.mark c.requires c.args.text.now one two three four parts
    (c.in-Some.one, c.in-Some.rest) (c.in-Some-split_once.two, c.in-Some-split_once.rest)
    c.in-Some.ensures.cases c.in-Some-split_once.ensures.cases c.in_default-split_once-2.ensures.cases

pub returns-clause-parts : goal.returns-clause-parts
returns-clause-parts c =
    cut_in_four c.args.mark c.requires c.args.text.now (c.in-Some.one, c.in-Some.rest) (
      c.in-Some-split_once.two,
      c.in-Some-split_once.rest,
    )
    (c.in-Some-split_once-2.three, c.in-Some-split_once-2.four)
    c.in-Some.ensures.cases c.in-Some-split_once.ensures.cases c.in-Some-split_once-2.ensures.cases
