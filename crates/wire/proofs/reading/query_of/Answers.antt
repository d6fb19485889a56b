use Rattle.std.proofs.Common.{sym}
use Rattle.std.proofs.lemmas.Result.{err_from_is_err_and}
use Rattle.wire.specs.Request.{query_of}
use Rattle.wire.proofs.QueryLemmas.{query_made, query_fails}
use Rattle.wire.proofs.reading.query_of.Goals as goal

pub returns-in_err-query : goal.returns-in_err-query
unfolding query_of
returns-in_err-query c =
    let p = err_from_is_err_and c.from_residual-in_err-query.result c.from_residual-in_err-query.ensures.1 in
    rw (p.1, p.2) (query_fails _ _ _ _ _ _ (sym c.in_ok-user.ensures) (sym c.in_ok-since.ensures)
    c.in_err-query.ensures.query)

pub returns : goal.returns
unfolding query_of
returns c = query_made _ _ _ _ _ _ (sym c.in_ok-user.ensures) (sym c.in_ok-since.ensures) c.in_ok-query.ensures.query
