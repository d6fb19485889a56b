use Rattle.std.proofs.Common.{ap, ◌∙◌}
use Rattle.std.proofs.lemmas.Result.{IfOk-weaker}
use Rattle.serde_json.specs.Data.{string}
use Rattle.connections.proofs.greeting.hello_value.Goals as goal

pub returns : goal.returns
returns c =
    c.object.ensures _ (c.member.ensures _ _ c.new.ensures (IfOk-weaker c.try_from_str.result _ _
    (λ v h. h ∙ ap string c.as_str.ensures.text) c.try_from_str.ensures))
