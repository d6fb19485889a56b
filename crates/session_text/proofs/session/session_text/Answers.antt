use Rattle.std.proofs.Common.{◌≡◌, ◌≤◌, false, Some, ap, sym, subst, ◌∙◌, arith}
use Rattle.std.proofs.lemmas.Result.{IfOk-weaker}
use Rattle.serde_json.specs.Data.{Data, depth}
use Rattle.serde_json.specs.Read.{max_depth}
use Rattle.serde_json.specs.Written.{has_float, compact_text}
use Rattle.session_text.specs.AskedSession.{session_asked}
use Rattle.session_text.proofs.DepthLemmas.{session_shallow, session_whole}
use Rattle.session_text.proofs.session.session_text.Goals as goal

pub returns-clause-text : goal.returns-clause-text
returns-clause-text c =
    IfOk-weaker c.to_string.result _ _ (λ text is boards.
    let same = c.in_ok-value.ensures in
    let whole = subst (λ (d : Data). has_float d ≡ false) (sym same) (session_whole (session_asked c.args.asked.now boards)) in
    is whole ∙ ap compact_text same) c.to_string.ensures.text

pub returns-clause-json : goal.returns-clause-json
returns-clause-json c =
    IfOk-weaker c.to_string.result _ _ (λ text reads boards.
    let same = c.in_ok-value.ensures in
    let shallow = subst (λ (d : Data). depth d ≤ max_depth) (sym same)
    (let few = session_shallow (session_asked c.args.asked.now boards) in omega (arith, few)) in
    reads shallow ∙ ap Some same) c.to_string.ensures.reads_back
