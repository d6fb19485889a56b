use Rattle.std.proofs.Common.{◌≢◌, ℕ, ◌<◌, [], map, get_or}
use Rattle.rbac.specs.declared.account.Account.{Account}
use Rattle.session_book.proofs.book.place_of.Given as goal

abbrev pub invariant-loop-place : goal.invariant-loop-place
invariant-loop-place l = (k : ℕ) → k < l.place → get_or (map (λ (account : Account). account.name) l.accounts) k [] ≢
    l.name
