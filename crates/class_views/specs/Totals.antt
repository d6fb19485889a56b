-- What all results of a board earn, and what those count that a class is shown.
use Rattle.std.specs.Prelude.{◌≡◌, ◌≤◌, ℕ, ◌-◌, Bool, true, if◌then◌else◌, Option, Some, None, List, [], slice_get}
use Rattle.std.specs.List.{sum_by}
use Rattle.std.specs.Option.{option_map, option_or}
use Rattle.movement.specs.declared.cell.Cell.{Cell}
use Rattle.movement.specs.Movement.{Section}
use Rattle.disclosure_rules.specs.declared.marks.Marks.{Marks}
use Rattle.disclosure_rules.specs.LiveCells.{is_live}
use Rattle.small_sets.specs.Numbers.{has_number}
use Rattle.session_state.specs.SessionState.{SessionState, cell_at}
use Rattle.session_commands.specs.Command.{subject_cell, subject_board}
use Rattle.session_commands.specs.declared.command.Command.{Command}
use Rattle.standings.specs.declared.earning.Earning.{Earning}
use Rattle.standings.specs.declared.table_result.TableResult.{TableResult}
use Rattle.standings.specs.Ranking.{earned_by, earnings_of, top_for}
use Rattle.table_terms.specs.declared.pair.Pair.{Pair}
use Rattle.scoring.specs.declared.standing.Standing.{Standing}
use Rattle.session_queries.specs.Content.{result_of}
use Rattle.session_queries.specs.Facts.{cell_on, boards}
use Rattle.session_queries.specs.Results.{live_results}
use Rattle.class_views.specs.Classes.{class_sees}
use Rattle.class_views.specs.declared.user_class.UserClass.{UserClass}

-- what some results earn on a board with these marks
abbrev pub earnings_with : Section → Option Marks → List TableResult → List Earning
earnings_with section None results = []
earnings_with section (Some marks) results = earnings_of section marks.vulnerability results

-- what all results of a board earn
unfoldable pub earnings_on : SessionState → ℕ → List Earning
earnings_on state board =
    earnings_with state.public.movement (slice_get state.public.marks (board - 1)) (live_results state board)

-- what a board counts for a class, by what each result counts
abbrev pub counted_on : (Earning → ℕ) → SessionState → Option UserClass → ℕ → ℕ
counted_on count state class board =
    if class_sees state.public class board then sum_by count (earnings_on state board) else 0

-- what all boards count for it
unfoldable pub counted_for : (Earning → ℕ) → SessionState → Option UserClass → ℕ
counted_for count state class = sum_by (counted_on count state class) (boards state.public.movement)

-- the board that a command is about, if it is about one
abbrev pub told_board : Command → Option ℕ
told_board command = option_or (option_map (λ (cell : Cell). cell.board) (subject_cell command)) (subject_board command)

-- whether what stands at a cell may count or be shown: not where it has no result. Where there is no cell, it may
abbrev pub may_count_at : SessionState → Option Cell → Bool
may_count_at state None = true
may_count_at state (Some cell) = is_live state.public.live cell

-- the same of what a command is about
abbrev pub may_count : SessionState → Command → Bool
may_count state command = may_count_at state (subject_cell command)

-- two states are the same on a board: but for an embargo the policy says the same of it, and its results are the same
pub record IsSameOn (before after : SessionState) (board : ℕ) : Type 0 where
  pub movement : after.public.movement ≡ before.public.movement
  pub marks : after.public.marks ≡ before.public.marks
  pub edition : after.public.edition ≡ before.public.edition
  pub held : has_number after.public.held board ≡ has_number before.public.held board
  pub live : (table : ℕ) → 1 ≤ table → table ≤ 16 →
      is_live after.public.live (cell_on board table) ≡ is_live before.public.live (cell_on board table)
  pub results : (table : ℕ) → 1 ≤ table → table ≤ 16 →
      result_of (cell_at after (cell_on board table)) ≡ result_of (cell_at before (cell_on board table))

-- how a pair stands by what all boards count for a class
abbrev pub total_for : SessionState → Option UserClass → Pair → Standing
total_for state class pair = record {
  pair = pair;
  earned = counted_for (earned_by pair) state class;
  tops = counted_for (top_for pair) state class;
}
