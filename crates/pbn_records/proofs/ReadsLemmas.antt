-- A text that is gone over with no fault, and the boards of its games in a row.
use Rattle.std.proofs.Common.{
  ◌≡◌,
  ℕ,
  ◌+◌,
  ◌-◌,
  ◌<◌,
  ◌≤◌,
  true,
  List,
  [],
  ◌∷◌,
  ◌++◌,
  length,
  length-append,
  zero,
  suc,
  inl,
  inr,
  refl,
  sym,
  ap,
  ◌∙◌,
  arith,
}
use Rattle.std.specs.Prelude.{Option, Some, None, slice_get, nat_lt}
use Rattle.std.specs.Option.{is_some}
use Rattle.std.proofs.lemmas.Bool.{true≢false, cases_Bool, ltb-true, ltb-false}
use Rattle.pbn_records.specs.declared.board.Board.{Board}
use Rattle.pbn_records.specs.declared.state.State.{State}
use Rattle.pbn_records.specs.declared.known_boards.KnownBoards.{KnownBoards}
use Rattle.pbn_records.specs.Values.{Values}
use Rattle.pbn_records.specs.Boards.{first_game, IsRead}
use Rattle.pbn_records.specs.Kept.{KnowsBoard, board_at}
use Rattle.pbn_records.specs.Reads.{start_of, values_from, IsLeastMissing, Reads}
use Rattle.pbn_records.specs.InText.{HasRead}
use Rattle.pbn_records.specs.Each.{KnowsFirst, IsUnknown, HasFirst}
use Rattle.pbn_records.proofs.KnownLemmas.{none_known}

-- what stands in a row with one board more
pushed_before : (set : List Board) (board : Board) (index : ℕ) → index < length set → slice_get (set ++ board ∷ [])
    index ≡ slice_get set index
pushed_before [] board index within = absurd (omega (arith, within))
pushed_before (first ∷ set) board zero within = refl
pushed_before (first ∷ set) board (suc index) within = pushed_before set board index (omega (arith, within))

pushed_last : (set : List Board) (board : Board) → slice_get (set ++ board ∷ []) (length set) ≡ Some board
pushed_last [] board = refl
pushed_last (first ∷ set) board = pushed_last set board

next_number : (number : ℕ) → 1 ≤ number → number - 1 + 1 ≡ number
next_number number from = omega (arith, from)

record IsKnown (number : ℕ) (first : Option Values) (known : Option Board) : Type 0 where
  pub values : Values
  pub board : Board
  pub first_so : first ≡ Some values
  pub known_so : known ≡ Some board
  pub read : IsRead number values board

is_known : (number : ℕ) (first : Option Values) (known : Option Board) → KnowsBoard number first known →
    is_some known ≡ true → IsKnown number first known
is_known number first None knows some = absurd (true≢false (sym some))
is_known number None (Some board) knows some = absurd knows
is_known number (Some values) (Some board) knows some = record {
  values = values;
  board = board;
  first_so = refl;
  known_so = refl;
  read = knows;
}

known_at : (text : List ℕ) (boards : ℕ) (state : State) (number : ℕ) → (read : HasRead text boards state) → 1 ≤ number →
    is_some (board_at state.known (number - 1 + 1)) ≡ true →
    IsKnown number (first_game boards number (values_from (start_of text) read.pieces)) (board_at state.known number)
known_at text boards state number read from some =
    is_known number _ _ (read.known number) (ap (λ n. is_some (board_at state.known n)) (sym (next_number number from))
    ∙ some)

pub reads_of : (text : List ℕ) (boards : ℕ) (state : State) (set : List Board) → HasRead text boards state →
    KnowsFirst state.known boards →
    HasFirst state.known boards set → Reads text boards set
reads_of text boards state set read knows has = record {
  pieces = read.pieces;
  joined = read.joined;
  faultless = read.faultless;
  many = has.many;
  read = λ number from to.
      let index = number - 1 in
      let within : index < boards = omega (arith, from, to) in
      let known = known_at text boards state number read from (knows index within) in (
        known.values,
        known.board,
        known.first_so,
        has.each index within ∙ ap (board_at state.known) (next_number number from) ∙ known.known_so,
        known.read,
      );
}

-- one board more in a row
pub pushed : (known : KnownBoards) (boards : ℕ) (set : List Board) (board : Board) → board_at known (boards + 1) ≡ Some
    board → HasFirst known boards set →
    HasFirst known (suc boards) (set ++ board ∷ [])
pushed known boards set board e has = record {
  many = let long = length-append set (board ∷ []) in let many = has.many in omega (arith, long, many);
  each = λ index within.
      elim (cases_Bool (nat_lt index boards)) [
        | inl before ↦
            let lt = ltb-true index boards before in let many = has.many in
            pushed_before set board index (omega (arith, lt, many)) ∙ has.each index lt
        | inr last ↦
            let many = has.many in
            let same : index ≡ length set = (let past = ltb-false index boards last in
            omega (arith, past, within, many)) in
            ap (slice_get (set ++ board ∷ [])) same ∙ pushed_last set board ∙ sym e ∙ ap (λ n. board_at known (n + 1))
            (sym (same ∙ many))
      ];
}

-- the boards that are known can stand in a row
row_of : (known : KnownBoards) (boards : ℕ) → KnowsFirst known boards → (set : List Board) × HasFirst known boards set
row_of known zero knows = ([], record { many = refl; each = λ index within. absurd (omega (arith, within)) })
row_of known (suc boards) knows =
    let row = row_of known boards (λ index within. knows index (omega (arith, within))) in
    one_more row.0 (board_at known (boards + 1)) refl (knows boards (omega arith)) row.1
  where
    one_more : (set : List Board) (found : Option Board) → board_at known (boards + 1) ≡ found → is_some found ≡ true →
        HasFirst known boards set →
        (set : List Board) × HasFirst known (suc boards) set
    one_more set None e some has = absurd (true≢false (sym some))
    one_more set (Some board) e some has = (set ++ board ∷ [], pushed known boards set board e has)

pub missing_of : (text : List ℕ) (boards number : ℕ) (state : State) → HasRead text boards state → IsUnknown state.known
    boards number →
    IsLeastMissing text boards number
missing_of text boards number state read unknown =
    let numbered = unknown.numbered in
    let within = unknown.within in
    record {
      pieces = read.pieces;
      joined = read.joined;
      faultless = read.faultless;
      from = omega (arith, numbered);
      to = omega (arith, numbered, within);
      missing = none_known number _ _ (read.known number) unknown.none;
      least = λ other from before.
          let known = known_at text boards state other read from
          (unknown.others (other - 1) (omega (arith, from, before, numbered))) in
          (known.values, known.first_so);
    }

pub readable : (text : List ℕ) (boards : ℕ) (state : State) → HasRead text boards state → KnowsFirst state.known
    boards →
    (set : List Board) × Reads text boards set
readable text boards state read knows =
    let row = row_of state.known boards knows in (row.0, reads_of text boards state row.0 read knows row.1)
