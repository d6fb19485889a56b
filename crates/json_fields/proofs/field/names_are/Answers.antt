use Rattle.std.proofs.Common.{◌≡◌, ◌∙◌, sym, ap, map, ◌&&◌, string_bytes, false}
use Rattle.std.specs.List.{list_any}
use Rattle.std.specs.Str.{bytes_eq}
use Rattle.serde_json.specs.View.{members_view}
use Rattle.json_fields.specs.Form.{names_are}
use Rattle.json_fields.proofs.field.names_are.Goals as goal

pub returns-then-not-is_listed : goal.returns-then-not-is_listed
returns-then-not-is_listed c =
    let listed = map (λ name. name.now) c.args.listed.now in
    let unlisted : list_any (λ other. bytes_eq other (string_bytes c.in-Some.name.now)) listed ≡ false =
    ap (λ bytes. list_any (λ other. bytes_eq other bytes) listed) (sym c.as_str.ensures.value) ∙ sym c.is_listed.ensures
    ∙ c.if-not-is_listed.true in
    sym (ap (λ b. b && names_are listed (members_view c.next.new.self)) unlisted)
    ∙ ap (λ es. names_are listed (members_view es)) (sym c.in-Some.ensures.steps) ∙ c.loop-name.invariant
