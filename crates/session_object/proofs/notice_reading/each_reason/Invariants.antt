use Rattle.std.proofs.Common.{◌≡◌, drop}
use Rattle.serde_json.specs.View.{items_view}
use Rattle.json_fields.specs.Form.{each}
use Rattle.json_fields.proofs.ListLemmas.{with_front}
use Rattle.session_object.specs.NoticeMembers.{reason_said}
use Rattle.session_object.proofs.notice_reading.each_reason.Given as goal

-- the reasons so far, and those of what is left
abbrev pub invariant-loop-value : goal.invariant-loop-value
invariant-loop-value l = with_front l.reasons.items (each reason_said (items_view (drop l.value-index l.list)))
    ≡ each reason_said (items_view l.list)
