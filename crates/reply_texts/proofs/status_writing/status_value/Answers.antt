use Rattle.std.proofs.Common.{ap, ◌∙◌}
use Rattle.std.proofs.lemmas.Result.{IfOk-weaker}
use Rattle.serde_json.specs.Data.{object}
use Rattle.reply_texts.proofs.StatusLemmas.{status_in_order}
use Rattle.reply_texts.proofs.status_writing.status_value.Goals as goal

pub returns : goal.returns
returns c =
    let public = c.args.public.now in
    let seats = c.args.seats.now in
    let names = c.args.names.now in
    let notices = c.args.notices.now in
    IfOk-weaker c.object.result _ _
    (λ value h. h ∙ ap object (status_in_order public seats names notices))
    (c.object.ensures _
    (c.with_last_slots.ensures _
    (c.with_progress_slots-object.ensures _
    (c.with_board_slots-object.ensures _
    (c.with_first_slots-object.ensures _ c.new.ensures)))))
