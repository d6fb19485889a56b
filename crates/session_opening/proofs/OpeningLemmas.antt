-- What a session opens with, board by board and user by user.
use Rattle.std.proofs.Common.{
  ◌≡◌,
  ℕ,
  zero,
  suc,
  ◌+◌,
  ◌-◌,
  ◌<◌,
  ◌≤◌,
  List,
  [],
  ◌∷◌,
  ◌++◌,
  map,
  length,
  take,
  get_or,
  replicate,
  refl,
  sym,
  ap,
  ◌∙◌,
  arith,
  length-append,
  length-take-le,
}
use Rattle.std.specs.Prelude.{Some, slice_set, slice_get}
use Rattle.std.proofs.Math.Seq.{set-append_seam}
use Rattle.std.proofs.lemmas.List.{length-map, length-replicate, map_more, take_more, append_assoc}
use Rattle.movement.specs.Movement.{most_boards}
use Rattle.pbn_records.specs.declared.board.Board.{Board}
use Rattle.std.proofs.lemmas.List.Elements.{filter_map-append}
use Rattle.session_opening.specs.declared.new_user.NewUser.{NewUser}
use Rattle.session_opening.specs.NewUser.{new_seated}
use Rattle.session_opening.specs.Opening.{marks_of, no_marks, opening_marks, opening_seats}

-- the places of the markings are filled
pub places : (boards : List Board) → length boards ≤ most_boards → length (opening_marks boards) ≡ most_boards
places boards few =
    let marked = length-map boards marks_of in
    let rest = length-replicate (most_boards - length boards) no_marks in
    length-append (map marks_of boards) (replicate (most_boards - length boards) no_marks) ∙ omega (arith, marked, rest)

-- what stands at a place of a list
pub given_at : {X : Type 0} (xs : List X) (i : ℕ) → i < length xs → (x : X) × (slice_get xs i ≡ Some x) ×
    (get_or xs i x ≡ x)
given_at [] i within = absurd (omega arith)
given_at (x ∷ xs) zero within = (x, refl, refl)
given_at (x ∷ xs) (suc i) within = given_at xs i (omega (arith, within))

pub one_on : (n : ℕ) → n + 1 - 1 ≡ n
one_on n = omega arith

pub below_all : (n m k : ℕ) → n < m → m ≤ k → n < k
below_all n m k below within = omega (arith, below, within)

-- one user more sits, or doesn't
pub seats_more : (users : List NewUser) (i : ℕ) (d : NewUser) → i < length users →
    opening_seats (take i users) ++ opening_seats (get_or users i d ∷ []) ≡ opening_seats (take (i + 1) users)
seats_more users i d within =
    sym (filter_map-append new_seated (take i users) (get_or users i d ∷ []))
    ∙ ap opening_seats (sym (take_more users i d within))

-- one board more is marked
pub marks_more : (boards : List Board) (i : ℕ) (d : Board) → i < length boards → i < most_boards →
    slice_set (opening_marks (take i boards)) i (marks_of (get_or boards i d)) ≡ opening_marks (take (i + 1) boards)
marks_more boards i d within below =
    let new = marks_of (get_or boards i d) in
    let front = map marks_of (take i boards) in
    let rest = replicate (most_boards - (i + 1)) no_marks in
    let so_many : length (take i boards) ≡ i = length-take-le i boards (omega arith) in
    let one_more : length (take (i + 1) boards) ≡ i + 1 = length-take-le (i + 1) boards (omega arith) in
    let filled : length front ≡ i = length-map (take i boards) marks_of ∙ so_many in
    let left : most_boards - length (take i boards) ≡ (most_boards - (i + 1)) + 1 = omega (arith, so_many) in
    let left_then : most_boards - (i + 1) ≡ most_boards - length (take (i + 1) boards) = omega (arith, one_more) in
    (λ k. slice_set (front ++ replicate (left k) no_marks) (sym filled k) new)
    ∙ ap (λ n. slice_set (front ++ replicate n no_marks) (length front) new) (plus_one (most_boards - (i + 1)))
    ∙ set-append_seam front no_marks rest new
    ∙ sym (append_assoc front (new ∷ []) rest)
    ∙ ap (λ marked. marked ++ rest) (sym (map_more marks_of boards i d within))
    ∙ ap (λ n. map marks_of (take (i + 1) boards) ++ replicate n no_marks) left_then
  where
    plus_one : (n : ℕ) → n + 1 ≡ suc n
    plus_one n = omega arith
