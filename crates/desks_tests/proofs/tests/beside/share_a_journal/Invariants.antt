use Rattle.desks_tests.proofs.tests.beside.share_a_journal.Given as goal

-- the server is that of the session that was just opened
abbrev pub ghosts-share_a_journal_by-N-Server : goal.ghosts-share_a_journal_by-N-Server
ghosts-share_a_journal_by-N-Server g a = record { opening = a.book.opening; history = a.history }

-- and the count of what its desks enter is the new one
abbrev pub ghosts-share_a_journal_by-N-Ledger : goal.ghosts-share_a_journal_by-N-Ledger
ghosts-share_a_journal_by-N-Ledger g a = record { name = a.tally.name; parts = a.tally.parts }
