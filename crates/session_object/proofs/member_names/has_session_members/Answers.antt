use Rattle.std.proofs.Common.{◌≡◌, sym, ap, ◌∙◌}
use Rattle.serde_json.specs.View.{view}
use Rattle.json_fields.specs.Form.{has_only}
use Rattle.session_object.specs.Session.{member_names}
use Rattle.session_object.proofs.member_names.has_session_members.Goals as goal

pub returns-then-beside : goal.returns-then-beside
returns-then-beside c =
    c.has_only.ensures ∙ ap (λ beside. has_only (member_names beside) (view c.args.value.now)) (sym c.if-beside.true)

pub returns-else-beside : goal.returns-else-beside
returns-else-beside c =
    c.has_only-else-beside.ensures
    ∙ ap (λ beside. has_only (member_names beside) (view c.args.value.now)) (sym c.if-beside.false)
