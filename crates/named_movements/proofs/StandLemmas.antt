-- Lists of rows that are sound because each row can stand after those before it, and the first rows of such lists.
use Rattle.std.proofs.Common.{◌≡◌, ◌≢◌, ℕ, zero, suc, ◌<◌, Bool, true, false, List, [], ◌∷◌, ◌++◌, length, take, get_or, sym, ap, ◌∙◌, subst, append_assoc, append-nil, All, arith}
use Rattle.std.specs.Prelude.{◌&&◌, not}
use Rattle.std.specs.List.{AllPairs, list_any}
use Rattle.std.proofs.lemmas.List.Folds.{list_any_at}
use Rattle.std.proofs.lemmas.Bool.{and_parts, false_from_ne_true}
use Rattle.std.proofs.lemmas.List.{get_or-take, length-take, take-take}
use Rattle.movement.specs.Sound.{SharesPair, SharesBoth, IsInRange, IsSound, has_fault}
use Rattle.movement.specs.declared.limits.Limits.{Limits}
use Rattle.movement.specs.declared.movement_fault.MovementFault.{MovementFault}
use Rattle.movement.specs.declared.movement_fault.MovementFault.TheVariants.{
  OutOfRange,
  TableTwice,
  SetAtTableAgain,
  PairTwice,
  SetAgain,
  OpponentsAgain,
  SharedByTooMany,
}
use Rattle.movement.specs.declared.row.Row.{Row}
use Rattle.movement.proofs.SoundLemmas.{sound_from}

-- each reason why a row can't stand
abbrev faults : List MovementFault
faults =
    OutOfRange
    ∷ TableTwice
    ∷ SetAtTableAgain
    ∷ PairTwice
    ∷ SetAgain
    ∷ OpponentsAgain
    ∷ SharedByTooMany
    ∷ []

-- whether each row can stand after those before it
abbrev pub stand : Limits → List Row → List Row → Bool
stand limits before [] = true
stand limits before (row ∷ rows) =
    not (list_any (has_fault limits before row) faults) && stand limits (before ++ row ∷ []) rows

module _ (limits : Limits) (before : List Row) (row : Row)
    (none : not (list_any (has_fault limits before row) faults) ≡ true) where
  at : (k : ℕ) (d : MovementFault) → k < 7 → has_fault limits before row (get_or faults k d) ≡ false
  at k d within =
      false_from_ne_true _ (λ has.
      let some : list_any (has_fault limits before row) faults ≡ true =
      list_any_at (has_fault limits before row) faults k d within has in
      let contrary : not true ≡ true = subst (λ (b : Bool). not b ≡ true) some none in
      absurd (cc))

  no_fault : (fault : MovementFault) → has_fault limits before row fault ≡ false
  no_fault OutOfRange = at 0 OutOfRange (omega arith)
  no_fault TableTwice = at 1 OutOfRange (omega arith)
  no_fault SetAtTableAgain = at 2 OutOfRange (omega arith)
  no_fault PairTwice = at 3 OutOfRange (omega arith)
  no_fault SetAgain = at 4 OutOfRange (omega arith)
  no_fault OpponentsAgain = at 5 OutOfRange (omega arith)
  no_fault SharedByTooMany = at 6 OutOfRange (omega arith)

each : (limits : Limits) (before rows : List Row) → stand limits before rows ≡ true → (k : ℕ) → k < length rows →
    (d : Row) (fault : MovementFault) → has_fault limits (before ++ take k rows) (get_or rows k d) fault ≡ false
each limits before [] holds k within d fault = absurd (omega arith)
each limits before (row ∷ rows) holds zero within d fault =
    rw (append-nil before) (no_fault limits before row (and_parts _ _ holds).0 fault)
each limits before (row ∷ rows) holds (suc k) within d fault =
    ap (λ (earlier : List Row). has_fault limits earlier (get_or rows k d) fault)
    (sym (append_assoc before (row ∷ []) (take k rows)))
    ∙ each limits (before ++ row ∷ []) rows (and_parts _ _ holds).1 k (omega arith) d fault

-- rows each of which can stand after those before it are sound
pub sound_if : (limits : Limits) (rows : List Row) → stand limits [] rows ≡ true → IsSound limits rows
sound_if limits rows holds =
    sound_from limits rows (λ k within d fault. each limits [] rows holds k within d fault)

module _ (rows : List Row) (n : ℕ) where
  -- a row among the first ones
  among : (k : ℕ) → k < length (take n rows) → (k < n) × (k < length rows)
  among k within = let long = length-take n rows in (omega arith, omega arith)

  -- what no two rows have in common, no two of the first ones have
  pairs : (R : Row → Row → Type 0) → AllPairs R rows → AllPairs R (take n rows)
  pairs R apart i j d before within =
      let here = among j within in
      rw (get_or-take n rows i d (omega arith), get_or-take n rows j d here.0) (apart i j d before here.1)

  -- the first rows of sound ones are sound, if they keep within the limits
  pub sound_part : (limits least : Limits) → least.shared_by ≡ limits.shared_by → IsSound limits rows →
      All (IsInRange least) (take n rows) → IsSound least (take n rows)
  sound_part limits least shared_by sound range = record {
    in_range = range;
    tables = pairs (λ earlier row. row.round ≡ earlier.round → row.table ≢ earlier.table) sound.tables;
    cells = pairs (λ earlier row. row.table ≡ earlier.table → row.set ≢ earlier.set) sound.cells;
    rounds = pairs (λ earlier row. row.round ≡ earlier.round → ¬ SharesPair row earlier) sound.rounds;
    sets = pairs (λ earlier row. row.set ≡ earlier.set → ¬ SharesPair row earlier) sound.sets;
    opponents = pairs (λ earlier row. ¬ SharesBoth row earlier) sound.opponents;
    shared = λ k d within.
        let here = among k within in
        let same : get_or (take n rows) k d ≡ get_or rows k d = get_or-take n rows k d here.0 in
        let first : take k (take n rows) ≡ take k rows = take-take k n rows (omega arith) in
        rw (same, first, shared_by) (sound.shared k d here.1);
  }
