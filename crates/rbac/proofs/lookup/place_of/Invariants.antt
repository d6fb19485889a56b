use Rattle.std.proofs.Common.{◌≢◌, ◌<◌, ℕ, slice_index_or}
use Rattle.rbac.specs.declared.account.Account.{Account}
use Rattle.rbac.proofs.lookup.place_of.Given as goal

abbrev pub invariant-loop-place : goal.invariant-loop-place
invariant-loop-place l = (k : ℕ) (d : Account) → k < l.place → (slice_index_or l.accounts k d).name ≢ l.name
