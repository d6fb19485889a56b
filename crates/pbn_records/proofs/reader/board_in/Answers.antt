use Rattle.std.proofs.Common.{ap}
use Rattle.pbn_records.specs.declared.used.Used.TheVariants as used
use Rattle.pbn_records.specs.Shown.{as_written, as_read, values_read}
use Rattle.pbn_records.proofs.FaultLemmas.{
  no_deal_no_board,
  bad_deal_fault,
  dealer_fault,
  vulnerable_fault,
  has_deal_read,
}
use Rattle.pbn_records.proofs.reader.board_in.Goals as goal

pub returns-in_default-clause-none : goal.returns-in_default-clause-none
returns-in_default-clause-none c = λ boards is.
    absurd (no_deal_no_board boards c.args.number (values_read c.args.values.now)
    (ap (λ tag. as_read (as_written tag)) c.in_default.is) is)

pub returns-in_default-read_deal-clause-none : goal.returns-in_default-read_deal-clause-none
returns-in_default-read_deal-clause-none c = λ boards is.
    let bad = bad_deal_fault c.args.number c.args.values.now.deal c.in-Some.tag.offset c.in-Some.tag.value.now
    c.in_default-read_deal.field-0
    (ap (λ tag. as_read (as_written tag)) c.in-Some.is) c.in_default-read_deal.ensures.fault in
    (bad.0, bad.1, (used.Deal, bad.2))

pub returns-in_default-dealer_in-clause-none : goal.returns-in_default-dealer_in-clause-none
returns-in_default-dealer_in-clause-none c = λ boards is.
    let bad = dealer_fault c.args.number (as_read (as_written c.args.values.now.dealer))
    c.in_default-dealer_in.ensures.none in
    (bad.0, bad.1, (used.Dealer, bad.2))

pub returns-in_default-vulnerability_in-clause-none : goal.returns-in_default-vulnerability_in-clause-none
returns-in_default-vulnerability_in-clause-none c = λ boards is.
    let bad = vulnerable_fault c.args.number (as_read (as_written c.args.values.now.vulnerable))
    c.in_default-vulnerability_in.ensures.none in
    (bad.0, bad.1, (used.Vulnerable, bad.2))

pub returns-clause-board : goal.returns-clause-board
returns-clause-board c = record {
  deal = has_deal_read c.in-Ok.deal c.args.values.now.deal c.in-Some.tag.offset c.in-Some.tag.value.now
      (ap (λ tag. as_read (as_written tag)) c.in-Some.is) c.in-Ok.ensures.deal;
  dealer = c.in-Some-dealer_in.ensures.dealer;
  vulnerability = c.in-Some-vulnerability_in.ensures.vulnerability;
}
