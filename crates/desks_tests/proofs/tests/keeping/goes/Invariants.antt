use Rattle.desks_tests.proofs.tests.keeping.goes.Given as goal

-- the server is that of the session that was just opened
abbrev pub ghosts-goes_named-N-Server : goal.ghosts-goes_named-N-Server
ghosts-goes_named-N-Server g a = record { opening = a.book.opening; history = a.history }

-- and the count of what its desks enter is the new one
abbrev pub ghosts-goes_named-N-Ledger : goal.ghosts-goes_named-N-Ledger
ghosts-goes_named-N-Ledger g a = record { name = a.tally.name; parts = a.tally.parts }
