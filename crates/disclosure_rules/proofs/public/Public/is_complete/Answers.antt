use Rattle.std.proofs.Common.{sym, ap, ◌∙◌, subst}
use Rattle.std.proofs.lemmas.Bool.Decides.{same_from_decides}
use Rattle.small_sets.specs.Numbers.{AreAmong}
use Rattle.disclosure_rules.specs.Seating.{IsComplete}
use Rattle.disclosure_rules.proofs.LiveCellsLemmas.{complete_from_among, among_from_complete}
use Rattle.disclosure_rules.proofs.SeatingTests.{complete_decides}
use Rattle.disclosure_rules.proofs.public.Public.is_complete.Goals as goal

pub returns : goal.returns
returns c =
    let now = c.args.self.now in
    let board = c.args.board in
    let scheduled = c.scheduled-scheduled in
    let tables = ap (AreAmong scheduled.result) c.tables.ensures in
    same_from_decides {P = IsComplete now board} _ _ (
      λ test. complete_from_among now board scheduled.result scheduled.ensures
          (subst (λ P. P) tables (c.is_subset.ensures.0 test)),
      λ complete.
          c.is_subset.ensures.1
          (subst (λ P. P) (sym tables) (among_from_complete now board scheduled.result scheduled.ensures complete)),
    ) (complete_decides now board)
