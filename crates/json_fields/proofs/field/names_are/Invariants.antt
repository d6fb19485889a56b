use Rattle.std.proofs.Common.{◌≡◌, map}
use Rattle.serde_json.specs.View.{members_view}
use Rattle.json_fields.specs.Form.{names_are}
use Rattle.json_fields.proofs.field.names_are.Given as goal

-- what is left has only listed names exactly if all have
abbrev pub invariant-loop-name : goal.invariant-loop-name
invariant-loop-name l =
    names_are (map (λ name. name.now) l.listed) (members_view l.name-iterator) ≡ names_are
    (map (λ name. name.now) l.listed) (members_view l.members.entries)
