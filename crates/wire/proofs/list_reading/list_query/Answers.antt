use Rattle.std.proofs.Common.{◌≡◌, Err, sym, ap}
use Rattle.std.proofs.lemmas.Result.{err_from_is_err_and}
use Rattle.json_fields.specs.declared.request_fault.RequestFault.TheVariants.{OutOfMemory}
use Rattle.wire.proofs.ListLemmas.{list_made, list_without_filter, list_filtered}
use Rattle.wire.proofs.list_reading.list_query.Goals as goal

pub returns-in_err-filter-clause-query : goal.returns-in_err-filter-clause-query
returns-in_err-filter-clause-query c =
    let p = err_from_is_err_and c.from_residual.result c.from_residual.ensures.1 in
    rw (p.1, p.2) (list_without_filter _ _ _ _ _ c.in_err-filter.ensures.filter)

pub returns-in_err-filter-clause-memory : goal.returns-in_err-filter-clause-memory
returns-in_err-filter-clause-memory c =
    let p = err_from_is_err_and c.from_residual.result c.from_residual.ensures.1 in
    rw (p.1, p.2)
    (λ refused.
    let same : c.in_err-filter.field-0.0 ≡ OutOfMemory = cc (refused) in
    let asked = c.in_err-filter.ensures.memory (ap Err same) in
    list_filtered _ _ _ _ _ _ (sym c.if-not-has_only.ensures) (sym c.in-Some.ensures) (sym c.in-Some-limit_of.ensures)
    asked)

pub returns-clause-query : goal.returns-clause-query
returns-clause-query c =
    list_made _ _ _ _ _ _ _ (sym c.if-not-has_only.ensures) (sym c.in-Some.ensures) (sym c.in-Some-limit_of.ensures)
    c.in_ok-filter.ensures.filter
