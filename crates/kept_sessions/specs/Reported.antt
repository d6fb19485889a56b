-- The report of the session that a journal keeps.
use Rattle.std.specs.Prelude.{◌≡◌, ◌≤◌, ℕ, List, [], ◌∷◌, Option, Some, option_map, length}
use Rattle.std.specs.List.{filter_map}
use Rattle.sqlite.specs.Recovery.{Image}
use Rattle.sqlite.specs.State.{State, HasCleanDisk}
use Rattle.session_state.specs.SessionState.{SessionState}
use Rattle.session_commands.specs.declared.entry.Entry.{Entry}
use Rattle.session_book.specs.Journal.{IsAccepted, replay}
use Rattle.session_object.specs.declared.object.SessionObject.{SessionObject}
use Rattle.session_object.specs.Reading.{ReadsSession}
use Rattle.session_opening.specs.declared.new_user.NewUser.{NewUser}
use Rattle.session_report.specs.declared.membership.Membership.{Membership}
use Rattle.session_report.specs.declared.report.Report.{Report}
use Rattle.session_report.specs.Report.{AreReported, report_of}
use Rattle.movement.specs.Movement.{most_boards}
use Rattle.history.specs.Prefixes.{entries_of}
use Rattle.journal_store.specs.Tables.{session_row}
use Rattle.journal_store.specs.Restart.{IsKeptAt}
use Rattle.kept_entries.specs.KeptRows.{rows_of}
use Rattle.kept_sessions.specs.Kept.{KeepsJust}
use Rattle.kept_sessions.specs.Sources.{IsSessionOf}

-- a user's number as a member, where the session object has one
abbrev pub membership_of : NewUser → Option Membership
membership_of user = option_map (λ number. record { name = user.name; number = number }) user.number

-- the numbers of members that a session object has, beside the boards that are given
pub record AreNumbersOf (object boards : List ℕ) (memberships : List Membership) : Type 0 where
  pub said : SessionObject
  pub reads : ReadsSession (Some boards) object said
  pub are : memberships ≡ filter_map membership_of said.config.users

-- what a session comes to by its two texts and these entries
pub record IsReportOfTexts (object boards : List ℕ) (entries : List Entry) (report : Report) : Type 0 where
  pub opening : SessionState
  pub budget : ℕ
  pub memberships : List Membership
  pub session : IsSessionOf object boards opening [] budget
  pub members : AreNumbersOf object boards memberships
  pub accepted : IsAccepted opening entries
  pub is : report ≡ report_of (replay opening entries) memberships (length entries)
  -- its boards are deals with the numbers from 1 on, so that what is written as PBN is read as these
  pub numbered : AreReported 1 report.boards
  pub few : length report.boards ≤ most_boards

-- the report is what a session comes to: that of two texts, at the version after entries that it accepts
pub record IsReportOfSession (report : Report) : Type 0 where
  pub object : List ℕ
  pub boards : List ℕ
  pub entries : List Entry
  pub is : IsReportOfTexts object boards entries report

-- the same of the journal that the files held: of its own two texts, and of just its entries
pub record IsReportOfJournal (image : Image) (report : Report) (s : State) : Type 0 where
  pub object : List ℕ
  pub boards : List ℕ
  pub publications : List (List Entry)
  pub kept : HasCleanDisk s → IsKeptAt image (session_row object boards ∷ []) (rows_of publications) s
  pub just : KeepsJust s publications
  pub is : IsReportOfTexts object boards (entries_of publications) report
