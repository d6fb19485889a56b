use Rattle.serde_json.specs.View.{view}
use Rattle.session_object.proofs.ReadingLemmas.{refused_parts, refused_movement, refused_boards, reads_object}
use Rattle.session_object.proofs.reading.read_object.Goals as goal

pub returns-in-Err-clause-refused : goal.returns-in-Err-clause-refused
returns-in-Err-clause-refused c = refused_parts _ (view c.args.value.now) c.in-Err.fault c.in-Err.ensures.fault

pub returns-in-Err-movement_of-clause-refused : goal.returns-in-Err-movement_of-clause-refused
returns-in-Err-movement_of-clause-refused c =
    refused_movement _ (view c.args.value.now) c.in-Ok.parts c.in-Ok.ensures.parts c.in-Err-movement_of.fault
    c.in-Err-movement_of.ensures.refused

pub returns-in-Ok-read_deals-clause-read : goal.returns-in-Ok-read_deals-clause-read
returns-in-Ok-read_deals-clause-read c =
    reads_object _ (view c.args.value.now) c.in-Ok.parts c.in-Ok-movement_of.movement c.boards.result c.in-Ok-read_deals.boards
    c.in-Ok.ensures.parts
    c.in-Ok-movement_of.ensures.section c.in-Ok-movement_of.ensures.allowed c.boards.ensures.boards c.in-Ok-read_deals.ensures.set

pub returns-in-Err-read_deals-clause-refused : goal.returns-in-Err-read_deals-clause-refused
returns-in-Err-read_deals-clause-refused c =
    refused_boards _ (view c.args.value.now) c.in-Ok.parts c.in-Ok-movement_of.movement c.boards.result
    c.in-Err-read_deals.error _ c.fault_of_deals.ensures c.in-Ok.ensures.parts
    c.in-Ok-movement_of.ensures.section c.in-Ok-movement_of.ensures.allowed c.boards.ensures.boards c.in-Err-read_deals.ensures.refused
