use Rattle.std.proofs.Common.{◌≡◌}
use Rattle.small_sets.specs.Numbers.{has_number, numbers_that}
use Rattle.reply_texts.proofs.status_writing.held_boards.Given as goal

-- the boards so far are those that are held
abbrev pub invariant-loop-before : goal.invariant-loop-before
invariant-loop-before l = l.boards.items ≡ numbers_that l.before (has_number l.public.held)
