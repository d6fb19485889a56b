use Rattle.std.proofs.Common.{sym, ◌∙◌}
use Rattle.std.proofs.lemmas.Result.{err_from_is_err_and}
use Rattle.command_object.proofs.FormLemmas.{without_last}
use Rattle.wire.specs.Audit.{audit_of}
use Rattle.wire.proofs.audit_reading.audit_of.Goals as goal

pub returns-in_err-range : goal.returns-in_err-range
unfolding audit_of
returns-in_err-range c =
    let p = err_from_is_err_and c.from_residual-in_err-range.result c.from_residual-in_err-range.ensures.1 in
    rw (p.1, p.2) (without_last _ _ _ _ (sym c.range_of.ensures ∙ c.in_err-range.was))
