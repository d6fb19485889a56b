use Rattle.std.proofs.Common.{rules, ◌≡◌, refl}
use Rattle.serde_json.specs.Data.{number}
use Rattle.serde_json.specs.Find.{of_integer}
use Rattle.serde_json.specs.View.{view}
use Rattle.reply_texts.proofs.traveller_writing.played_value.Goals as goal

pub returns : goal.returns
returns c =
    let score : view c.from-2.result ≡ number (of_integer c.args.score) = search rules in
    c.object.ensures _
    (c.number.ensures _ _
    (c.member-5.ensures _ _
    (c.member-4.ensures _ _
    (c.member-3.ensures _ _
    (c.member-2.ensures _ _ (c.member.ensures _ _ c.new.ensures (c.string_value.ensures _ c.to_string.ensures.ok))
    (c.string_value-2.ensures _ c.to_string-2.ensures.ok)) c.from.ensures) c.outcome_value.ensures) score) refl)
