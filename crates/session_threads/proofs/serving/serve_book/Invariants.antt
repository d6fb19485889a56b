use Rattle.session_threads.proofs.serving.serve_book.Given as goal

-- the server is that of the session that was just opened
abbrev pub ghosts-serve_named-N-Server : goal.ghosts-serve_named-N-Server
ghosts-serve_named-N-Server g a = record { opening = a.book.opening; history = a.history }

-- and the count of what its desks enter is the new one
abbrev pub ghosts-serve_named-N-Ledger : goal.ghosts-serve_named-N-Ledger
ghosts-serve_named-N-Ledger g a = record { name = a.tally.name; parts = a.tally.parts }
