-- What is known of the boards of some games, and of one game more.
use Rattle.std.proofs.Common.{
  ◌≡◌,
  ◌≢◌,
  ℕ,
  ◌≤◌,
  get_or,
  replicate,
  arith,
  Bool,
  true,
  false,
  inl,
  inr,
  List,
  [],
  ◌∷◌,
  ◌++◌,
  refl,
  sym,
  ap,
  subst,
  ◌∙◌,
}
use Rattle.std.specs.Prelude.{Option, Some, None, nat_eq, nat_lt, nat_le, ◌&&◌, if◌then◌else◌}
use Rattle.std.specs.Option.{is_some, option_or}
use Rattle.std.proofs.lemmas.Bool.{true≢false, cases_Bool, eqb-true, eq-eqb, leb-true, ltb-true, ltb-false, and_parts}
use Rattle.std.proofs.lemmas.List.{get_or-replicate, get_or_past, length-replicate}
use Rattle.std.proofs.lemmas.List.Folds.{find-append}
use Rattle.pbn_records.specs.declared.known_boards.KnownBoards.{KnownBoards}
use Rattle.pbn_records.specs.declared.board.Board.{Board}
use Rattle.pbn_records.specs.declared.fault.FaultAt.{FaultAt}
use Rattle.pbn_records.specs.declared.fault.Fault.{Fault}
use Rattle.pbn_records.specs.declared.deals_error.DealsError.{DealsError}
use Rattle.pbn_pieces.proofs.CutLemmas.{some_same}
use Rattle.pbn_records.specs.declared.used.Used.TheVariants as used
use Rattle.pbn_records.specs.Tags.{Valued}
use Rattle.pbn_records.specs.Values.{Values}
use Rattle.pbn_records.specs.Boards.{
  are_digits,
  decimal_number,
  is_there,
  number_in,
  is_this_board,
  game_board,
  first_game,
  IsRead,
}
use Rattle.pbn_records.specs.Faults.{first_game_if_any, IsFaultOf}
use Rattle.pbn_records.specs.Kept.{KnowsDeal, KnowsBoard, board_at, Knows, Finds, HasTagFault, IsGameFault, error_of}

-- no board is known yet
pub none_yet : (places number : ℕ) (none : Option Board) → get_or (replicate places none) number none ≡ none
none_yet places number none = elim (cases_Bool (nat_lt number places)) [
  | inl within ↦ get_or-replicate places number none none (ltb-true number places within)
  | inr past ↦ get_or_past (replicate places none) number none
      (let long = length-replicate places none in let after = ltb-false number places past in
      omega (arith, long, after))
]

knows_deal_of : (number : ℕ) (first : Option Values) (known : Option Board) → KnowsBoard number first known →
    KnowsDeal first known
knows_deal_of number None None knows = tt
knows_deal_of number None (Some board) knows = knows
knows_deal_of number (Some values) None knows = knows
knows_deal_of number (Some values) (Some board) knows = knows.deal

-- what is known of a game's board
pub knows_first : (boards : ℕ) (games : List Values) (known : KnownBoards) (board : Option ℕ) (earlier : Option Board) →
    ((number : ℕ) → board ≡ Some number → earlier ≡ board_at known number) → (board ≡ None → earlier ≡ None) →
    Knows boards games known → KnowsDeal (first_game_if_any boards games board) earlier
knows_first boards games known None earlier some none knows = subst (KnowsDeal None) (sym (none refl)) tt
knows_first boards games known (Some number) earlier some none knows =
    subst (KnowsDeal (first_game boards number games)) (sym (some number refl))
    (knows_deal_of number _ _ (knows number))

-- the first fault of a game
pub game_finds : (boards : ℕ) (games : List Values) (known : KnownBoards) (values : Values) (board : Option ℕ)
    (earlier : Option Board) (found : Option FaultAt) → board ≡ game_board boards values →
    ((number : ℕ) → board ≡ Some number → earlier ≡ board_at known number) → (board ≡ None → earlier ≡ None) →
    ((first : Option Values) → KnowsDeal first earlier → Finds found (HasTagFault board first values)) →
    Knows boards games known → Finds found (IsFaultOf boards games values)
game_finds boards games known values board earlier found is some none finds knows =
    subst (λ board. Finds found (HasTagFault board (first_game_if_any boards games board) values)) is
    (finds (first_game_if_any boards games board) (knows_first boards games known board earlier some none knows))

pub game_fault : (boards : ℕ) (games : List Values) (values : Values) (found : FaultAt) (error : DealsError) →
    error ≡ error_of found.fault found.offset → Finds (Some found) (IsFaultOf boards games values) →
    IsGameFault boards games values error
game_fault boards games values found error named finds =
    record { fault = found.fault; offset = found.offset; is = finds.0; least = finds.1; named = named }

-- one game more
added : (boards number : ℕ) (games : List Values) (values : Values) →
    first_game boards number (games ++ values ∷ [])
    ≡ option_or (first_game boards number games) (if is_this_board number (game_board boards values) then Some values
    else None)
added boards number games values = find-append (λ values. is_this_board number (game_board boards values)) games
    (values ∷ [])

or_none : (one : Option Values) → option_or one None ≡ one
or_none None = refl
or_none (Some values) = refl

or_some : (one other : Option Values) → is_some one ≡ true → option_or one other ≡ one
or_some None other e = absurd (true≢false (sym e))
or_some (Some values) other e = refl

first_kept : (boards number : ℕ) (games : List Values) (values : Values) →
    (is_this_board number (game_board boards values) ≡ true → is_some (first_game boards number games) ≡ true) →
    first_game boards number (games ++ values ∷ []) ≡ first_game boards number games
first_kept boards number games values known =
    elim (cases_Bool (is_this_board number (game_board boards values))) [
      | inl is ↦ added boards number games values ∙ or_some (first_game boards number games) _ (known is)
      | inr isnt ↦
          added boards number games values
          ∙ ap (λ (b : Bool). option_or (first_game boards number games) (if b then Some values else None)) isnt
          ∙ or_none (first_game boards number games)
    ]

-- a game that is ignored
pub knows_ignored : (boards : ℕ) (games : List Values) (known : KnownBoards) (values : Values) →
    game_board boards values ≡ None → Knows boards games known → Knows boards (games ++ values ∷ []) known
knows_ignored boards games known values none knows number =
    subst (λ first. KnowsBoard number first (board_at known number))
    (sym (first_kept boards number games values (λ is. absurd (true≢false (sym is ∙ ap (is_this_board number) none)))))
    (knows number)

some_known : (number : ℕ) (first : Option Values) (known : Option Board) → KnowsBoard number first known →
    is_some known ≡ true → is_some first ≡ true
some_known number None None knows e = e
some_known number None (Some board) knows e = absurd knows
some_known number (Some values) known knows e = refl

-- a game of a board that has an earlier one
pub knows_again : (boards : ℕ) (games : List Values) (known : KnownBoards) (values : Values) (number : ℕ)
    (earlier : Option Board) →
    Some number ≡ game_board boards values → earlier ≡ board_at known number → is_some earlier ≡ true →
    Knows boards games known → Knows boards (games ++ values ∷ []) known
knows_again boards games known values number earlier is at some knows other =
    subst (λ first. KnowsBoard other first (board_at known other))
    (sym (first_kept boards other games values (λ e.
    let same = eqb-true number other (ap (is_this_board other) is ∙ e) in
    subst (λ n. is_some (first_game boards n games) ≡ true) same
    (some_known number _ _ (knows number) (ap is_some (sym at) ∙ some)))))
    (knows other)

pub none_known : (number : ℕ) (first : Option Values) (known : Option Board) → KnowsBoard number first known →
    known ≡ None → first ≡ None
none_known number None known knows e = refl
none_known number (Some values) None knows e = absurd knows
none_known number (Some values) (Some board) knows e = absurd (true≢false (ap is_some e))

-- a board's first game
pub knows_new : (boards : ℕ) (games : List Values) (old new : KnownBoards) (values : Values) (number : ℕ)
    (earlier : Option Board) (read : Board) →
    Some number ≡ game_board boards values → earlier ≡ board_at old number → earlier ≡ None → IsRead number values
    read →
    board_at new number ≡ Some read → ((other : ℕ) → other ≢ number → board_at new other ≡ board_at old other) →
    Knows boards games old → Knows boards (games ++ values ∷ []) new
knows_new boards games old new values number earlier read is at none reads added_so others knows other =
    elim (cases_Bool (nat_eq number other)) [
      | inl same ↦
          let e = eqb-true number other same in
          subst (λ n. KnowsBoard n (first_game boards n (games ++ values ∷ [])) (board_at new n)) e
          (subst (λ found. KnowsBoard number (first_game boards number (games ++ values ∷ [])) found)
          (sym added_so)
          (subst (λ first. KnowsBoard number first (Some read))
          (sym (added boards number games values
          ∙ ap (λ first. option_or first (if is_this_board number (game_board boards values) then Some values
          else None))
          (none_known number _ _ (knows number) (sym at ∙ none))
          ∙ ap (λ board. if is_this_board number board then Some values else None) (sym is)
          ∙ ap (λ (b : Bool). if b then Some values else None) (eq-eqb number number refl)))
          reads))
      | inr apart ↦
          subst (λ found. KnowsBoard other (first_game boards other (games ++ values ∷ [])) found)
          (sym (others other (λ e. true≢false (sym (eq-eqb number other (sym e)) ∙ apart))))
          (subst (λ first. KnowsBoard other first (board_at old other))
          (sym (first_kept boards other games values
          (λ e. absurd (true≢false (sym (ap (is_this_board other) is ∙ e) ∙ apart)))))
          (knows other))
    ]

pub from_one : (boards number : ℕ) (values : Values) → Some number ≡ game_board boards values → 1 ≤ number
from_one boards number values is = in_board (is_there (values used.Deal)) (values used.Board) is
  where
    in_value : (value : List ℕ) (b : Bool) →
        (are_digits value && (nat_le 1 (decimal_number value) && nat_le (decimal_number value) boards)) ≡ b →
        Some number ≡ (if b then Some (decimal_number value) else None) → 1 ≤ number
    in_value value true e is =
        subst (λ n. 1 ≤ n) (some_same _ _ (sym is))
        (leb-true 1 (decimal_number value) (and_parts (nat_le 1 (decimal_number value))
        (nat_le (decimal_number value) boards)
        (and_parts (are_digits value) (nat_le 1 (decimal_number value) && nat_le (decimal_number value) boards) e).1).0)
    in_value value false e is = absurd (true≢false (ap is_some is))

    in_tag : (tag : Option Valued) → Some number ≡ number_in boards tag → 1 ≤ number
    in_tag None is = absurd (true≢false (ap is_some is))
    in_tag (Some tag) is = in_value tag.value _ refl is

    in_board : (there : Bool) (tag : Option Valued) → Some number ≡ (if there then number_in boards tag else None) →
        1 ≤ number
    in_board true tag is = in_tag tag is
    in_board false tag is = absurd (true≢false (ap is_some is))

pub none_of_some : (earlier : Option Board) (some : Bool) → some ≡ is_some earlier → some ≡ false → earlier ≡ None
none_of_some None some is isnt = refl
none_of_some (Some board) some is isnt = absurd (true≢false (sym is ∙ isnt))

-- a board's first game with no fault is read
pub no_fault_at_first : (boards number : ℕ) (values : Values) (board : Option ℕ) (earlier : Option Board) →
    board ≡ Some number → earlier ≡ None →
    ((first : Option Values) → KnowsDeal first earlier → Finds None (HasTagFault board first values)) →
    ((fault : Fault) × (offset : ℕ) × HasTagFault (Some number) None values fault offset) → ⊥
no_fault_at_first boards number values board earlier is none finds fault =
    finds None (subst (KnowsDeal None) (sym none) tt) fault.0 fault.1
    (subst (λ board. HasTagFault board None values fault.0 fault.1) (sym is) fault.2)
