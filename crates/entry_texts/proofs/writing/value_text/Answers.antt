use Rattle.std.proofs.Common.{◌≡◌, ◌≤◌, false, ap, sym, subst, ◌∙◌, arith}
use Rattle.std.proofs.lemmas.Result.{IfOk-weaker}
use Rattle.serde_json.specs.Data.{Data, depth}
use Rattle.serde_json.specs.Read.{max_depth}
use Rattle.serde_json.specs.Written.{has_float, compact_text}
use Rattle.std.proofs.Common.{Some}
use Rattle.command_writing.proofs.DepthLemmas.{command_depth, command_whole}
use Rattle.entry_texts.proofs.writing.value_text.Goals as goal

pub returns-clause-text : goal.returns-clause-text
returns-clause-text c =
    let same = c.in_ok-value.ensures.value in
    let whole = subst (λ (d : Data). has_float d ≡ false) (sym same) (command_whole c.args.command.now) in
    IfOk-weaker c.to_string.result _ _ (λ text is. is whole ∙ ap compact_text same) c.to_string.ensures.text

pub returns-clause-json : goal.returns-clause-json
returns-clause-json c =
    let same = c.in_ok-value.ensures.value in
    let shallow = subst (λ (d : Data). depth d ≤ max_depth) (sym same)
    (let few = command_depth c.args.command.now in omega (arith, few)) in
    IfOk-weaker c.to_string.result _ _ (λ text reads. reads shallow ∙ ap Some same) c.to_string.ensures.reads_back
