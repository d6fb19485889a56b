use Rattle.std.proofs.Common.{inl, map, arith}
use Rattle.std.proofs.lemmas.Result.{IfErr-weaker}
use Rattle.journal_store.specs.Kept.{texts_of}
use Rattle.kept_entries.specs.RowTexts.{IsReadingWant}
use Rattle.kept_entries.specs.declared.read_fault.RowFault.TheVariants.{Misnumbered}
use Rattle.kept_entries.proofs.AcceptedLemmas.{accepted_read, grouped_want}
use Rattle.kept_entries.proofs.ReadLemmas.{found_same}
use Rattle.kept_entries.proofs.publications.read_publications.Goals as goal

pub returns-clause-found : goal.returns-clause-found
returns-clause-found g c = λ published kept same.
    found_same (map texts_of c.args.rows.now) published kept same c.group_entries.result c.group_entries.ensures.rows
    c.group_entries.ensures.keepable

pub returns-then-rows-gt-MOST_ROWS-clause-accepted : goal.returns-then-rows-gt-MOST_ROWS-clause-accepted
returns-then-rows-gt-MOST_ROWS-clause-accepted g c = λ opening published keepable accepted same.
    accepted_read opening c.args.rows.now published Misnumbered keepable accepted same
    (inl (omega (arith, c.if-rows-gt-MOST_ROWS.true)))

pub returns-in-Err-clause-accepted : goal.returns-in-Err-clause-accepted
returns-in-Err-clause-accepted g c = λ opening published keepable accepted same.
    accepted_read opening c.args.rows.now published c.in-Err.fault keepable accepted same c.in-Err.ensures.fault

pub returns-clause-accepted : goal.returns-clause-accepted
returns-clause-accepted g c = λ opening published keepable accepted same.
    IfErr-weaker c.group_entries.result _ IsReadingWant
    (λ fault why. grouped_want (map texts_of c.args.rows.now) published fault keepable same why)
    c.group_entries.ensures.fault
