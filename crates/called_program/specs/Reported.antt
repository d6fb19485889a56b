-- What is written of the session of a journal.
use Rattle.std.specs.Prelude.{◌≡◌, ℕ, List}
use Rattle.kept_sessions.specs.Reported.{IsReportOfSession}
use Rattle.pbn_report.specs.PbnText.{pbn_text}
use Rattle.report_texts.specs.CsvText.{csv_text}
use Rattle.report_texts.specs.HtmlText.{html_text}
use Rattle.server_words.specs.declared.words.ReportForm.{ReportForm}
use Rattle.server_words.specs.declared.words.ReportForm.TheVariants.{Csv, Html, Pbn, Usebio}
use Rattle.session_report.specs.declared.report.Report.{Report}
use Rattle.usebio_report.specs.UsebioText.{usebio_text}

-- the text of a report in a form
abbrev pub form_text : ReportForm → Report → List ℕ
form_text Csv report = csv_text report
form_text Html report = html_text report
form_text Pbn report = pbn_text report
form_text Usebio report = usebio_text report

-- the text is that of a session's report, in this form
pub record IsReport (form : ReportForm) (text : List ℕ) : Type 0 where
  pub report : Report
  pub of : IsReportOfSession report
  pub is : text ≡ form_text form report
