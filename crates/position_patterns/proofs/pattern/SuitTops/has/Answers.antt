use Rattle.std.proofs.Common.{◌∙◌, sym, arith}
use Rattle.std.proofs.lemmas.Bool.{eqb-true}
use Rattle.position_patterns.proofs.pattern.SuitTops.has.Goals as goal
use Rattle.position_patterns.proofs.RankLemmas.{low_digits}

pub returns-clause-owners : goal.returns-clause-owners
returns-clause-owners c same =
    let few = c.if-self-gt13.false in
    sym (low_digits c.args.pattern.now.owners c.args.self.now.count (omega arith)) ∙ eqb-true _ _ same
