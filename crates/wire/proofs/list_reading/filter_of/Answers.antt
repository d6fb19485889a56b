use Rattle.std.proofs.Common.{None, Err, IsSome, IsSomeAnd, subst}
use Rattle.serde_json.specs.View.{view}
use Rattle.json_fields.specs.Filter.{filter_of}
use Rattle.json_fields.specs.FilterReading.{ReadsFilter}
use Rattle.wire.specs.Optional.{read_or}
use Rattle.wire.specs.List.{filter_at}
use Rattle.wire.proofs.ListLemmas.{filter_stands}
use Rattle.wire.proofs.list_reading.filter_of.Goals as goal

pub returns-in-Err-OutOfMemory-clause-memory : goal.returns-in-Err-OutOfMemory-clause-memory
returns-in-Err-OutOfMemory-clause-memory c =
    let d = view c.in-Some.member.now in
    let refused = subst (λ fault. ReadsFilter (Err fault) (filter_of d)) c.in-Err-OutOfMemory.field-0-is
    c.in-Err-OutOfMemory.ensures in
    λ _. subst (λ o. IsSomeAnd (read_or None filter_at o) (λ f. IsSome f)) c.in-Some.ensures
    (filter_stands (filter_of d) refused)
