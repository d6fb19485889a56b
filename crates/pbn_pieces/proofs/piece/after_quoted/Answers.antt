use Rattle.std.proofs.Common.{◌≤◌, List, ℕ, [], length, refl, sym, ap, subst}
use Rattle.pbn_pieces.specs.Cutting.{quoted_at}
use Rattle.pbn_pieces.proofs.CutLemmas.{no_closing_found}
use Rattle.pbn_pieces.proofs.UnclosedLemmas.{unclosed_on_line}
use Rattle.pbn_pieces.proofs.piece.after_quoted.Goals as goal

pub returns-then-unclosed-after-clause-rest : goal.returns-then-unclosed-after-clause-rest
returns-then-unclosed-after-clause-rest c = ap (λ found. (quoted_at c.args.after.now found).1)
    (sym (no_closing_found c.args.after.now (c.requires [] c.args.after.now refl c.if-unclosed-after.true)))

pub returns-in-None-clause-unclosed : goal.returns-in-None-clause-unclosed
returns-in-None-clause-unclosed c = λ front back e left.
    unclosed_on_line c.args.after.now c.in-None.ensures front back e
    (subst (λ (rest : List ℕ). length rest ≤ length back) c.after_line.ensures left)
