-- The connections of a hall's thread that ask over HTTP: how many may still be let in, where so many are accepted in all.
use Rattle.std.specs.Prelude.{◌≡◌, ◌≢◌, ◌⊎◌, ◌+◌, ◌-◌, ◌<◌, ◌≤◌, ℕ}
use Rattle.slab.specs.Slab.{slab_len}
use Rattle.hall_threads.specs.declared.askers.Askers.{Askers}

-- ---- for private clauses

module _ {S : Type 0} where
  -- another connection may be accepted: with 0 whoever comes, and else until as many were as there are to be
  abbrev pub IsOpen : Askers S → Type 0
  IsOpen askers = (askers.connections ≡ 0) ⊎ (askers.accepted < askers.connections)

  -- how many may still be let in: those who ask, and those who are still to be accepted
  abbrev pub still_to_come : Askers S → ℕ
  still_to_come askers = slab_len askers.asking + (askers.connections - askers.accepted)

  -- so many fewer may still be let in, as where so many were let in; so that it means nothing where all that come are accepted
  pub record LeavesFewer (fewer : ℕ) (askers after : Askers S) : Type 0 where
    pub same : after.connections ≡ askers.connections
    pub left : askers.connections ≢ 0 → fewer + still_to_come after ≤ still_to_come askers

  -- one more asks, at most
  pub record AsksOneMore (askers after : Askers S) : Type 0 where
    pub same : after.connections ≡ askers.connections
    pub left : askers.connections ≢ 0 → still_to_come after ≤ still_to_come askers + 1
