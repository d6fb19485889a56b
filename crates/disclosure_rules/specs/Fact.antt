-- What may be shown, and to which board and table it belongs.
use Rattle.std.specs.Prelude.{ℕ, Bool, true, false, Option, Some, None}
use Rattle.movement.specs.declared.cell.Cell.{Cell}
use Rattle.disclosure_rules.specs.declared.fact.Fact.{Fact}
use Rattle.disclosure_rules.specs.declared.fact.Fact.TheVariants.{Public, Accounts, Hands, Analysis, Result, Play, Cost}
use Rattle.disclosure_rules.specs.declared.fact.Fact.TheVariants.{Reason}

-- the board that the fact belongs to: it is secret where it belongs to one
abbrev pub board_of_fact : Fact → Option ℕ
board_of_fact Public = None
board_of_fact Accounts = None
board_of_fact (Hands board) = Some board
board_of_fact (Analysis board) = Some board
board_of_fact (Result cell) = Some cell.board
board_of_fact (Play cell) = Some cell.board
board_of_fact (Cost cell) = Some cell.board
board_of_fact (Reason cell) = Some cell.board

-- the table and board that the fact belongs to, if it belongs to one table
abbrev pub cell_of_fact : Fact → Option Cell
cell_of_fact Public = None
cell_of_fact Accounts = None
cell_of_fact (Hands _) = None
cell_of_fact (Analysis _) = None
cell_of_fact (Result cell) = Some cell
cell_of_fact (Play cell) = Some cell
cell_of_fact (Cost cell) = Some cell
cell_of_fact (Reason cell) = Some cell

-- whether the fact is the accounts
abbrev pub is_accounts : Fact → Bool
is_accounts Public = false
is_accounts Accounts = true
is_accounts (Hands _) = false
is_accounts (Analysis _) = false
is_accounts (Result _) = false
is_accounts (Play _) = false
is_accounts (Cost _) = false
is_accounts (Reason _) = false

-- whether the fact tells of the double-dummy value of the hands
abbrev pub is_analysed : Fact → Bool
is_analysed Public = false
is_analysed Accounts = false
is_analysed (Hands _) = false
is_analysed (Analysis _) = true
is_analysed (Result _) = false
is_analysed (Play _) = false
is_analysed (Cost _) = true
is_analysed (Reason _) = false

-- whether the fact tells how the cards were played
abbrev pub is_of_play : Fact → Bool
is_of_play Public = false
is_of_play Accounts = false
is_of_play (Hands _) = false
is_of_play (Analysis _) = false
is_of_play (Result _) = false
is_of_play (Play _) = true
is_of_play (Cost _) = true
is_of_play (Reason _) = false

-- whether the fact is the reason of a ruling
abbrev pub is_reason : Fact → Bool
is_reason Public = false
is_reason Accounts = false
is_reason (Hands _) = false
is_reason (Analysis _) = false
is_reason (Result _) = false
is_reason (Play _) = false
is_reason (Cost _) = false
is_reason (Reason _) = true
