use Rattle.desks_tests.proofs.tests.beside.learn_receipts.Given as goal

-- the server is that of the session that was just opened
abbrev pub ghosts-learn_receipts_by-N-Server : goal.ghosts-learn_receipts_by-N-Server
ghosts-learn_receipts_by-N-Server g a = record { opening = a.book.opening; history = a.history }

-- and the count of what its desks enter is the new one
abbrev pub ghosts-learn_receipts_by-N-Ledger : goal.ghosts-learn_receipts_by-N-Ledger
ghosts-learn_receipts_by-N-Ledger g a = record { name = a.tally.name; parts = a.tally.parts }
