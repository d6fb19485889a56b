-- The audit: which entries of the journal it shows, and what of each.
--
-- own: a row tells who gave which command and what it is about, and no result, card, percentage or reason.
use Rattle.std.specs.Prelude.{ℕ, ◌+◌, ◌-◌, List, [], ◌∷◌, take, drop}
use Rattle.session_book.specs.declared.audit.AuditRow.{AuditRow}
use Rattle.session_commands.specs.declared.entry.Entry.{Entry}
use Rattle.session_commands.specs.Told.{word_of, target_of}

-- what is told of an entry with its number
abbrev pub audit_row : ℕ → Entry → AuditRow
audit_row number entry = record {
  number = number;
  actor = entry.actor;
  word = word_of entry.command;
  target = target_of entry.command;
}

-- what is told of entries with their numbers, of which the first is given
abbrev pub numbered_from : ℕ → List Entry → List AuditRow
numbered_from number [] = []
numbered_from number (entry ∷ entries) = audit_row number entry ∷ numbered_from (number + 1) entries

-- the rows of a journal from a number on, at most so many; its entries are numbered from 1
abbrev pub audit_rows : List Entry → ℕ → ℕ → List AuditRow
audit_rows journal from limit = take limit (drop (from - 1) (numbered_from 1 journal))
