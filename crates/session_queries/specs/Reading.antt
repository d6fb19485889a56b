-- What is read from what is shown. What isn't shown can't be told from what isn't there.
use Rattle.std.specs.Prelude.{ℕ, ◌-◌, Bool, is_some, Option, Some, None, List, filter_map, slice_get}
use Rattle.std.specs.Option.{option_and_then, option_map}
use Rattle.cards.specs.Hands.{Hands}
use Rattle.cards.specs.declared.card.Card.{Card}
use Rattle.movement.specs.declared.cell.Cell.{Cell}
use Rattle.movement.specs.Movement.{Section}
use Rattle.rbac.specs.declared.account.Account.{Account}
use Rattle.rbac.specs.declared.inheritance.Inheritance.{Inheritance}
use Rattle.disclosure_rules.specs.declared.fact.Fact.TheVariants as fact
use Rattle.disclosure_rules.specs.declared.marks.Marks.{Marks}
use Rattle.disclosure_rules.specs.declared.public.Public.{Public}
use Rattle.query_filter.specs.declared.trick_table.TrickTable.{TrickTable}
use Rattle.session_queries.specs.declared.card_costs.CardCosts.{CardCosts}
use Rattle.standings.specs.declared.cell_result.CellResult.{CellResult}
use Rattle.standings.specs.declared.table_result.TableResult.{TableResult}
use Rattle.session_queries.specs.Content.{
  Content,
  says_public,
  says_accounts,
  says_hands,
  says_analysis,
  says_result,
  says_play,
}
use Rattle.session_queries.specs.Content.{says_costs, says_reason}
use Rattle.session_queries.specs.Facts.{cells_of_board}
use Rattle.session_queries.specs.Shown.{Shown, content_shown}

-- what every member may see, if that is what is said
abbrev pub as_public : Content → Option Public
as_public (says_public public seats names notices) = Some public
as_public _ = None

abbrev pub as_accounts : Content → Option (List Account)
as_accounts (says_accounts users pairs) = Some users
as_accounts _ = None

abbrev pub as_pairs : Content → Option (List Inheritance)
as_pairs (says_accounts users pairs) = Some pairs
as_pairs _ = None

abbrev pub as_hands : Content → Option Hands
as_hands (says_hands found) = found
as_hands _ = None

-- a board's analysis, which may be still to come
abbrev pub as_analysis : Content → Option (Option TrickTable)
as_analysis (says_analysis tricks) = Some tricks
as_analysis _ = None

abbrev pub as_result : Content → Option CellResult
as_result (says_result found) = found
as_result _ = None

abbrev pub as_play : Content → Option (List Card)
as_play (says_play found) = found
as_play _ = None

abbrev pub as_costs : Content → Option CardCosts
as_costs (says_costs found) = found
as_costs _ = None

abbrev pub as_reason : Content → Option ℕ
as_reason (says_reason found) = found
as_reason _ = None

-- what every member may see, where it is shown
abbrev pub shown_public : List Shown → Option Public
shown_public items = option_and_then as_public (content_shown items fact.Public)

-- the users with their roles, where they are shown
abbrev pub shown_accounts : List Shown → Option (List Account)
shown_accounts items = option_and_then as_accounts (content_shown items fact.Accounts)

-- the inheritance pairs, where they are shown
abbrev pub shown_pairs : List Shown → Option (List Inheritance)
shown_pairs items = option_and_then as_pairs (content_shown items fact.Accounts)

-- the hands of a board, where they are shown
abbrev pub shown_hands : List Shown → ℕ → Option Hands
shown_hands items board = option_and_then as_hands (content_shown items (fact.Hands board))

-- the marks of a board, where they are shown
abbrev pub shown_marks : List Shown → ℕ → Option Marks
shown_marks items board = option_and_then (λ (public : Public). slice_get public.marks (board - 1)) (shown_public items)

-- the analysis of a board, where it is shown
abbrev pub shown_analysis : List Shown → ℕ → Option (Option TrickTable)
shown_analysis items board = option_and_then as_analysis (content_shown items (fact.Analysis board))

-- the result of a cell, where it is shown
abbrev pub shown_result : List Shown → Cell → Option CellResult
shown_result items cell = option_and_then as_result (content_shown items (fact.Result cell))

-- the play of a cell, where it is shown
abbrev pub shown_play : List Shown → Cell → Option (List Card)
shown_play items cell = option_and_then as_play (content_shown items (fact.Play cell))

-- the costs of a cell's cards, where they are shown
abbrev pub shown_costs : List Shown → Cell → Option CardCosts
shown_costs items cell = option_and_then as_costs (content_shown items (fact.Cost cell))

-- the reason of a cell's ruling, where it is shown
abbrev pub shown_reason : List Shown → Cell → Option ℕ
shown_reason items cell = option_and_then as_reason (content_shown items (fact.Reason cell))

-- a result as that of a cell
abbrev pub result_at : Cell → CellResult → TableResult
result_at cell found = record { cell = cell; result = found }

-- the results on a board that are shown, table by table
abbrev pub shown_results : Section → List Shown → ℕ → List TableResult
shown_results section items board =
    filter_map (λ cell. option_map (result_at cell) (shown_result items cell)) (cells_of_board section board)
