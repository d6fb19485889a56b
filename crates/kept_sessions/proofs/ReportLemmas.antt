-- The report of a session that two texts open.
use Rattle.std.proofs.Common.{◌≡◌, ◌≤◌, subst, ℕ, List, length}
use Rattle.movement.specs.Movement.{most_boards}
use Rattle.session_commands.specs.declared.entry.Entry.{Entry}
use Rattle.session_state.specs.SessionState.{SessionState}
use Rattle.session_book.specs.Journal.{IsAccepted, replay}
use Rattle.session_report.specs.declared.membership.Membership.{Membership}
use Rattle.session_report.specs.declared.report.Report.{Report}
use Rattle.session_report.specs.Report.{AreReported, report_of}
use Rattle.kept_sessions.specs.Reported.{AreNumbersOf, IsReportOfTexts}
use Rattle.kept_sessions.specs.Sources.{IsSessionOf}

-- what is found of each part is the report of the texts
pub report_of_texts : (object boards : List ℕ) (opening : SessionState) (journal : List Entry) (budget : ℕ)
    (memberships : List Membership) (entries : List Entry) (report : Report)
    → IsSessionOf object boards opening journal budget → AreNumbersOf object boards memberships → IsAccepted opening entries
    → report ≡ report_of (replay opening entries) memberships (length entries) → AreReported 1 report.boards
    → length report.boards ≤ most_boards → IsReportOfTexts object boards entries report
report_of_texts object boards opening journal budget memberships entries report session members accepted is numbered few = record {
  opening = opening;
  budget = budget;
  memberships = memberships;
  session = subst (λ (e : List Entry). IsSessionOf object boards opening e budget) session.empty session;
  members = members;
  accepted = accepted;
  is = is;
  numbered = numbered;
  few = few;
}
