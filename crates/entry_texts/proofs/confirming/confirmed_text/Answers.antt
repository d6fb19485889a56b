use Rattle.std.proofs.Common.{Some, sym, ap, ◌∙◌}
use Rattle.std.proofs.lemmas.Result.{IfOk-weaker}
use Rattle.serde_json.specs.Read.{read}
use Rattle.scoring.specs.declared.outcome.Outcome.{Outcome}
use Rattle.scoring.specs.declared.outcome.Outcome.TheVariants.{PassedOut, Played}
use Rattle.session_commands.specs.declared.command.Command.TheVariants.{Confirm}
use Rattle.command_writing.specs.CommandData.{command_data}
use Rattle.entry_texts.proofs.ConfirmLemmas.{confirm_read}
use Rattle.entry_texts.proofs.confirming.confirmed_text.Goals as goal

pub returns-in-PassedOut-clause-json : goal.returns-in-PassedOut-clause-json
returns-in-PassedOut-clause-json c =
    let it = c.passed_out_text.ensures in
    IfOk-weaker c.passed_out_text.result _ _
    (λ text same. ap read same ∙ confirm_read c.args.cell PassedOut it.writable
    ∙ ap (λ (outcome : Outcome). Some (command_data (Confirm c.args.cell outcome))) (sym c.in-PassedOut.is))
    it.text

pub returns-in-Played-clause-json : goal.returns-in-Played-clause-json
returns-in-Played-clause-json c =
    let it = c.played_text.ensures in
    IfOk-weaker c.played_text.result _ _
    (λ text same. ap read same ∙ confirm_read c.args.cell (Played c.in-Played.contract c.in-Played.tricks) it.writable
    ∙ ap (λ (outcome : Outcome). Some (command_data (Confirm c.args.cell outcome))) (sym c.in-Played.is))
    it.text
