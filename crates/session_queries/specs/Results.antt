-- The results on a board, as they are looked for table by table: all that there are, and those that a user may see.
use Rattle.std.specs.Prelude.{ℕ, if◌then◌else◌, Option, Some, None, List, filter_map}
use Rattle.std.specs.List.{range_with_len}
use Rattle.std.specs.Option.{option_map}
use Rattle.disclosure_rules.specs.declared.fact.Fact.TheVariants as fact
use Rattle.disclosure_rules.specs.declared.viewer.Viewer.{Viewer}
use Rattle.movement.specs.declared.cell.Cell.{Cell}
use Rattle.movement.specs.Schedule.{is_scheduled}
use Rattle.session_state.specs.SessionState.{SessionState, cell_at}
use Rattle.standings.specs.declared.table_result.TableResult.{TableResult}
use Rattle.session_queries.specs.Content.{result_of}
use Rattle.session_queries.specs.Facts.{cell_on}
use Rattle.session_queries.specs.Reading.{result_at}
use Rattle.session_queries.specs.Shown.{is_allowed}

-- the result of a cell, where there is one and the user may see it
abbrev pub allowed_at : SessionState → Viewer → Cell → Option TableResult
allowed_at state viewer cell =
    if is_allowed state.public viewer (fact.Result cell)
    then option_map (result_at cell) (result_of (cell_at state cell)) else None

-- the result of a table on a board, where the table plays it, there is one and the user may see it
unfoldable pub allowed_result : SessionState → Viewer → ℕ → ℕ → Option TableResult
allowed_result state viewer board table =
    if is_scheduled state.public.movement (cell_on board table)
    then allowed_at state viewer (cell_on board table) else None

-- the results on a board of so many tables that the user may see, table by table
unfoldable pub allowed_results : SessionState → Viewer → ℕ → ℕ → List TableResult
allowed_results state viewer board tables = filter_map (allowed_result state viewer board) (range_with_len 1 tables)

-- the result of a table on a board, where the table plays it and there is one, whoever asks
abbrev pub live_result : SessionState → ℕ → ℕ → Option TableResult
live_result state board table =
    if is_scheduled state.public.movement (cell_on board table)
    then option_map (result_at (cell_on board table)) (result_of (cell_at state (cell_on board table))) else None

-- all results on a board, table by table
unfoldable pub live_results : SessionState → ℕ → List TableResult
live_results state board = filter_map (live_result state board) (range_with_len 1 state.public.movement.tables)
