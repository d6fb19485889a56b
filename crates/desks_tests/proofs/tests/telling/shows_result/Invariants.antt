use Rattle.desks_tests.proofs.tests.telling.shows_result.Given as goal

-- the server is that of the session that was just opened
abbrev pub ghosts-shows_result_by-N-Server : goal.ghosts-shows_result_by-N-Server
ghosts-shows_result_by-N-Server g a = record { opening = a.book.opening; history = a.history }

-- and the count of what its desks enter is the new one
abbrev pub ghosts-shows_result_by-N-Ledger : goal.ghosts-shows_result_by-N-Ledger
ghosts-shows_result_by-N-Ledger g a = record { name = a.tally.name; parts = a.tally.parts }
