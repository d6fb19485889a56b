use Rattle.std.proofs.Common.{◌≡◌}
use Rattle.disclosure_rules.specs.LiveCells.{is_live}
use Rattle.small_sets.specs.Numbers.{numbers_that}
use Rattle.reply_texts.proofs.status_writing.live_tables.Given as goal

-- the tables so far are those that have a result on the board
abbrev pub invariant-loop-before : goal.invariant-loop-before
invariant-loop-before l =
    l.tables.items ≡ numbers_that l.before (λ table. is_live l.public.live (record { table = table; board = l.board }))
