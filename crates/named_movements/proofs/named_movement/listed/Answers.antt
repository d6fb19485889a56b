use Rattle.std.proofs.lemmas.Result.{IfOk-weaker, IfErr-weaker}
use Rattle.small_sets.specs.First.{IsFirst}
use Rattle.movement.specs.Refusal.{RefusesList, list_error_number}
use Rattle.movement.specs.declared.list_error.ListError.{ListError}
use Rattle.named_movements.specs.Named.{limits_of_word, named_rows, RefusesNamed}
use Rattle.named_movements.proofs.RefusedLemmas.{to_list, first_of_list}
use Rattle.named_movements.proofs.SizeLemmas.{sizes, a_row}
use Rattle.named_movements.proofs.named_movement.listed.Goals as goal

pub row_at-rows-requires-clause-place : goal.row_at-rows-requires-clause-place
row_at-rows-requires-clause-place c =
    let named = c.args.named in
    a_row named.word named.tables named.rounds
    (sizes named.word named.tables named.rounds c.requires.tables c.requires.rounds)

pub returns-clause-section : goal.returns-clause-section
returns-clause-section c =
    rw c.requires.plain
    (rw (c.limits_of_word.ensures, c.put_rows-many.ensures.rows) at c.listed.ensures.section)

pub returns-clause-allowed : goal.returns-clause-allowed
returns-clause-allowed c =
    let named = c.args.named in
    IfOk-weaker c.listed.result
    (λ movement. (error : ListError) →
    ¬ RefusesList (limits_of_word named) named.per_set named.absent (named_rows named) error)
    (λ movement. (error : ListError) → ¬ RefusesNamed named error)
    (λ movement allowed error refused. allowed error (to_list named c.requires.tables c.requires.rounds error refused))
    (rw (c.limits_of_word.ensures, c.put_rows-many.ensures.rows) at c.listed.ensures.allowed)

pub returns-clause-refused : goal.returns-clause-refused
returns-clause-refused c =
    let named = c.args.named in
    IfErr-weaker c.listed.result
    (IsFirst list_error_number
    (RefusesList (limits_of_word named) named.per_set named.absent (named_rows named)))
    (IsFirst list_error_number (RefusesNamed named))
    (first_of_list named c.requires.tables c.requires.rounds)
    (rw (c.limits_of_word.ensures, c.put_rows-many.ensures.rows) at c.listed.ensures.refused)
