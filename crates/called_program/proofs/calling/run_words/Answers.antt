use Rattle.std.proofs.Common.{◌≡◌, ◌⊎◌, ℕ, List, [], inl, inr, arith, subst}
use Rattle.std.specs.Prelude.{codes, map, string_bytes}
use Rattle.std.specs.Io.KnownBytes.{Appends}
use Rattle.std.proofs.lemmas.Bool.{cases_eq}
use Rattle.clap.specs.Words.{first_of}
use Rattle.script_lines.specs.Writing.{WritesPart}
use Rattle.server_words.specs.Words.{options_in}
use Rattle.server_words.specs.declared.words.Words.TheVariants.{Audit, Copy, Prepare, Report}
use Rattle.called_program.specs.Reported.{IsReport}
use Rattle.std.proofs.KnownBytes.{Consumes-nil}
use Rattle.called_program.proofs.CallingLemmas.{no_help_without_fault, not_shown, same_form, says_named, says_served, says_why}
use Rattle.called_program.proofs.calling.run_words.Goals as goal

pub returns-in-Err-clause-understood : goal.returns-in-Err-clause-understood
returns-in-Err-clause-understood g c = λ asks is.
    let four : c.status_of_untaken.result ≡ 4 = c.status_of_untaken.ensures.memory (c.in-Err.ensures.script asks) in
    absurd (omega (arith, four, is))

pub returns-in-Err-clause-answered : goal.returns-in-Err-clause-answered
returns-in-Err-clause-answered g c = λ asks is.
    let four : c.status_of_untaken.result ≡ 4 = c.status_of_untaken.ensures.memory (c.in-Err.ensures.script asks) in
    absurd (omega (arith, four, is))

pub returns-in-Err-clause-failed : goal.returns-in-Err-clause-failed
returns-in-Err-clause-failed g c = λ asks is.
    let four : c.status_of_untaken.result ≡ 4 = c.status_of_untaken.ensures.memory (c.in-Err.ensures.script asks) in
    absurd (omega (arith, four, is))

pub returns-in-Err-clause-no_memory : goal.returns-in-Err-clause-no_memory
returns-in-Err-clause-no_memory g c = λ asks is.
    let no_help = no_help_without_fault (map string_bytes c.args.words.now) asks.0 in
    let shown = not_shown c.in-Err.error (map string_bytes c.args.words.now) no_help c.in-Err.ensures.refused in
    inl (Consumes-nil (g.I.Read.remaining c.args.reader.now), (c.status_of_untaken.ensures.mistaken shown.0 shown.1).1)

pub returns-in-Err-clause-served : goal.returns-in-Err-clause-served
returns-in-Err-clause-served g c = λ serving asks.
    let no_help = no_help_without_fault (map string_bytes c.args.words.now) asks.0 in
    let shown = not_shown c.in-Err.error (map string_bytes c.args.words.now) no_help c.in-Err.ensures.refused in
    (c.status_of_untaken.ensures.mistaken shown.0 shown.1).1

pub returns-in-Err-clause-prepared : goal.returns-in-Err-clause-prepared
returns-in-Err-clause-prepared g c = λ preparing asks.
    let no_help = no_help_without_fault (map string_bytes c.args.words.now) asks.0 in
    let shown = not_shown c.in-Err.error (map string_bytes c.args.words.now) no_help c.in-Err.ensures.refused in
    (c.status_of_untaken.ensures.mistaken shown.0 shown.1).1

pub returns-in-Err-clause-mistaken : goal.returns-in-Err-clause-mistaken
returns-in-Err-clause-mistaken g c = λ is.
    let shown = not_shown c.in-Err.error (map string_bytes c.args.words.now) is.1 c.in-Err.ensures.refused in
    c.status_of_untaken.ensures.mistaken shown.0 shown.1

pub returns-in-Ok-Report-clause-reported : goal.returns-in-Ok-Report-clause-reported
returns-in-Ok-Report-clause-reported g c = λ reporting asks is.
    let asked = rw c.in-Ok-Report.field-0-is at c.in-Ok-Report.ensures.asked in
    let same = same_form c.in-Ok-Report.reporting.form reporting.form
    (first_of (codes "as") (options_in (map string_bytes c.args.words.now))) asked.3 asks.3 in
    subst (λ form. (text : List ℕ) × IsReport form text
    × Appends (g.W.Write.contents c.args.writer.now) (g.W.Write.contents c.status_of_report.new.writer) text)
    same (c.status_of_report.ensures.told is)

pub returns-in-Ok-Report-clause-unreported : goal.returns-in-Ok-Report-clause-unreported
returns-in-Ok-Report-clause-unreported g c = λ reporting asks not_zero.
    let asked = rw c.in-Ok-Report.field-0-is at c.in-Ok-Report.ensures.asked in
    let same = same_form c.in-Ok-Report.reporting.form reporting.form
    (first_of (codes "as") (options_in (map string_bytes c.args.words.now))) asked.3 asks.3 in
    let before = g.W.Write.contents c.args.writer.now in
    let after = g.W.Write.contents c.status_of_report.new.writer in
    subst (λ form. Appends before after [] ⊎ ((text : List ℕ) × IsReport form text × WritesPart before after text)) same
    (elim (cases_eq c.status_of_report.result 3) [
      | inl three ↦ c.status_of_report.ensures.part three
      | inr other ↦ inl (c.status_of_report.ensures.untold not_zero other)
    ])

pub returns-in-Ok-Report-clause-unread : goal.returns-in-Ok-Report-clause-unread
returns-in-Ok-Report-clause-unread g c = λ _. Consumes-nil (g.I.Read.remaining c.args.reader.now)

pub returns-in-Ok-Script-clause-silent : goal.returns-in-Ok-Script-clause-silent
returns-in-Ok-Script-clause-silent g c = λ not_one not_two.
    says_why (map string_bytes c.args.words.now) c.status_of_script.result (g.E.Write.contents c.args.errors.now)
    (g.E.Write.contents c.status_of_script.new.errors) c.status_of_script.ensures.statuses not_one not_two c.status_of_script.ensures.silent
    c.status_of_script.ensures.why

pub returns-in-Ok-Serve-clause-silent : goal.returns-in-Ok-Serve-clause-silent
returns-in-Ok-Serve-clause-silent g c = λ not_one not_two.
    let asks = rw c.in-Ok-Serve.field-0-is at c.in-Ok-Serve.ensures.asked in
    says_served (map string_bytes c.args.words.now) c.in-Ok-Serve.serving c.status_of_serving.result
    (g.E.Write.contents c.args.errors.now) (g.E.Write.contents c.status_of_serving.new.errors) asks
    c.status_of_serving.ensures.statuses not_one not_two c.status_of_serving.ensures.told c.status_of_serving.ensures.unserved

pub returns-in-Ok-Audit-clause-silent : goal.returns-in-Ok-Audit-clause-silent
returns-in-Ok-Audit-clause-silent g c = λ not_one not_two.
    let asks = rw c.in-Ok-Audit.field-0-is at c.in-Ok-Audit.ensures.asked in
    says_named (map string_bytes c.args.words.now) (Audit c.in-Ok-Audit.path) c.status_of_audit.result (g.E.Write.contents c.args.errors.now)
    (g.E.Write.contents c.status_of_audit.new.errors) asks tt c.status_of_audit.ensures.statuses not_one not_two c.status_of_audit.ensures.silent
    c.status_of_audit.ensures.memory

pub returns-in-Ok-Copy-clause-silent : goal.returns-in-Ok-Copy-clause-silent
returns-in-Ok-Copy-clause-silent g c = λ not_one not_two.
    let asks = rw c.in-Ok-Copy.field-0-is at c.in-Ok-Copy.ensures.asked in
    says_named (map string_bytes c.args.words.now) (Copy c.in-Ok-Copy.copy) c.status_of_copy.result (g.E.Write.contents c.args.errors.now)
    (g.E.Write.contents c.status_of_copy.new.errors) asks tt c.status_of_copy.ensures.statuses not_one not_two c.status_of_copy.ensures.silent
    c.status_of_copy.ensures.memory

pub returns-in-Ok-Check-clause-silent : goal.returns-in-Ok-Check-clause-silent
returns-in-Ok-Check-clause-silent g c = λ not_one not_two.
    says_why (map string_bytes c.args.words.now) c.status_of_check.result (g.E.Write.contents c.args.errors.now)
    (g.E.Write.contents c.status_of_check.new.errors) c.status_of_check.ensures.statuses not_one not_two
    (λ none. c.status_of_check.ensures.silent (λ three. absurd (omega (arith, none, three)))
    (λ four. absurd (omega (arith, none, four)))) c.status_of_check.ensures.why

pub returns-in-Ok-Prepare-clause-silent : goal.returns-in-Ok-Prepare-clause-silent
returns-in-Ok-Prepare-clause-silent g c = λ not_one not_two.
    let asks = rw c.in-Ok-Prepare.field-0-is at c.in-Ok-Prepare.ensures.asked in
    says_named (map string_bytes c.args.words.now) (Prepare c.in-Ok-Prepare.preparing) c.status_of_preparing.result (g.E.Write.contents c.args.errors.now)
    (g.E.Write.contents c.status_of_preparing.new.errors) asks tt c.status_of_preparing.ensures.statuses not_one not_two c.status_of_preparing.ensures.silent
    c.status_of_preparing.ensures.memory

pub returns-in-Ok-Report-clause-silent : goal.returns-in-Ok-Report-clause-silent
returns-in-Ok-Report-clause-silent g c = λ not_one not_two.
    let asks = rw c.in-Ok-Report.field-0-is at c.in-Ok-Report.ensures.asked in
    says_named (map string_bytes c.args.words.now) (Report c.in-Ok-Report.reporting) c.status_of_report.result (g.E.Write.contents c.args.errors.now)
    (g.E.Write.contents c.status_of_report.new.errors) asks tt c.status_of_report.ensures.statuses not_one not_two c.status_of_report.ensures.silent
    c.status_of_report.ensures.memory

pub returns-in-Err-clause-silent : goal.returns-in-Err-clause-silent
returns-in-Err-clause-silent g c = λ not_one not_two.
    says_why (map string_bytes c.args.words.now) c.status_of_untaken.result (g.E.Write.contents c.args.errors.now)
    (g.E.Write.contents c.status_of_untaken.new.errors) c.status_of_untaken.ensures.statuses not_one not_two c.status_of_untaken.ensures.silent
    c.status_of_untaken.ensures.why
