use Rattle.std.proofs.Common.{rules}
use Rattle.journal_store.specs.Tables.{session_columns}
use Rattle.journal_store.proofs.tables.is_session_table.Goals as goal

pub returns-else-is_plain-clause-only : goal.returns-else-is_plain-clause-only
returns-else-is_plain-clause-only c has = let yes = c.is_plain.ensures.only session_columns has in search rules
