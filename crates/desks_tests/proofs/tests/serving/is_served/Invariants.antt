use Rattle.desks_tests.proofs.tests.serving.is_served.Given as goal

-- the server is that of the session that was just opened
abbrev pub ghosts-is_served_by-N-Server : goal.ghosts-is_served_by-N-Server
ghosts-is_served_by-N-Server g a = record { opening = a.book.opening; history = a.history }

-- and the count of what its desks enter is the new one
abbrev pub ghosts-is_served_by-N-Ledger : goal.ghosts-is_served_by-N-Ledger
ghosts-is_served_by-N-Ledger g a = record { name = a.tally.name; parts = a.tally.parts }
