use Rattle.std.proofs.Common.{sym, ap, ◌∙◌}
use Rattle.pbn_records.specs.Shown.{as_written, as_read}
use Rattle.pbn_records.proofs.ReaderLemmas.{no_dealer}
use Rattle.pbn_records.proofs.reader.dealer_in.Goals as goal

pub returns-clause-none : goal.returns-clause-none
returns-clause-none c =
    no_dealer c.args.tag.now c.in-Some.tag.offset c.in-Some.tag.value.now c.dealer.result
    (ap (λ tag. as_read (as_written tag)) c.in-Some.is) (sym c.is_open.ensures ∙ c.if-is_open.false)
    c.dealer.ensures.none
