use Rattle.std.proofs.Common.{◌∙◌}
use Rattle.std.proofs.lemmas.Result.{IfOk-weaker}
use Rattle.entry_texts.proofs.ConfirmLemmas.{passed_pieces}
use Rattle.entry_texts.proofs.confirming.passed_out_text.Goals as goal

pub returns-clause-text : goal.returns-clause-text
returns-clause-text c =
    IfOk-weaker c.format.result _ _ (λ text is. is ∙ passed_pieces c.args.cell.board c.args.cell.table) c.format.ensures.ok
