use Rattle.std.proofs.Common.{sym, subst, ◌∙◌}
use Rattle.std.specs.Prelude.{Option, Some, None}
use Rattle.pbn_records.specs.declared.tag_at.TagAt.{TagAt}
use Rattle.pbn_records.specs.Faults.{FaultAtTag}
use Rattle.pbn_records.specs.Shown.{as_written, as_read}
use Rattle.pbn_records.specs.Kept.{Finds}
use Rattle.pbn_records.proofs.FaultLemmas.{some_board, none_board, finds_fault, finds_none, finds_none_of_no_board}
use Rattle.pbn_records.proofs.reader.tag_fault.Goals as goal

pub returns-in-Some-board_fault : goal.returns-in-Some-board_fault
returns-in-Some-board_fault c = λ first knows.
    subst
    (λ (tag : Option TagAt). Finds
    (Some (record { offset = c.in-Some.tag.offset; fault = c.in-Some-board_fault.fault }))
    (FaultAtTag c.args.board first c.args.used (as_read (as_written tag))))
    (sym c.in-Some.is)
    (finds_fault c.args.board first c.args.used c.in-Some.tag.offset c.in-Some.tag.value.now c.in-Some-board_fault.fault
    (some_board c.args.board c.is_none.result c.is_none.ensures c.if-is_none.false)
    (sym c.is_inherited_form.ensures ∙ c.if-is_inherited_form.false)
    (c.in-Some-board_fault.ensures.some first knows))

pub returns-then-is_none : goal.returns-then-is_none
returns-then-is_none c = λ first knows.
    subst (λ (tag : Option TagAt). Finds None (FaultAtTag c.args.board first c.args.used (as_read (as_written tag))))
    (sym c.in-Some.is)
    (finds_none_of_no_board first c.args.used c.in-Some.tag.offset c.in-Some.tag.value.now c.args.board
    (none_board c.args.board c.is_none.result c.is_none.ensures c.if-is_none.true)
    (sym c.is_inherited_form.ensures ∙ c.if-is_inherited_form.false))

pub returns-in-None : goal.returns-in-None
returns-in-None c = λ first knows.
    subst (λ (tag : Option TagAt). Finds None (FaultAtTag c.args.board first c.args.used (as_read (as_written tag))))
    (sym c.in-Some.is)
    (finds_none c.args.board first c.args.used c.in-Some.tag.offset c.in-Some.tag.value.now
    (sym c.is_inherited_form.ensures ∙ c.if-is_inherited_form.false) (c.in-None.ensures.none first knows))
