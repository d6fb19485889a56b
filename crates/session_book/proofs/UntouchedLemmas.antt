-- What an entry doesn't touch, nobody sees who didn't see it before.
use Rattle.std.proofs.Common.{
  ◌≡◌,
  ◌≢◌,
  ℕ,
  zero,
  suc,
  ◌-◌,
  ◌<◌,
  ◌≤◌,
  Bool,
  true,
  false,
  cond,
  List,
  [],
  ◌∷◌,
  ◌++◌,
  nat_eq,
  get_or,
  set,
  inl,
  inr,
  refl,
  sym,
  ap,
  ◌∙◌,
  subst,
  arith,
}
use Rattle.std.specs.Prelude.{◌*◌, Option, Some, None, is_some, not, ◌&&◌, ◌||◌, ◌⊎◌, find, filter, option_map}
use Rattle.std.specs.List.{range_with_len}
use Rattle.std.specs.Bool.{then_some}
use Rattle.std.specs.Option.{option_or}
use Rattle.std.proofs.lemmas.Bool.{
  eq-eqb,
  eqb-true,
  false≢true,
  false_from_ne_true,
  cases_Bool,
  and_parts,
  and_from,
  or_right,
  not_from_false,
}
use Rattle.std.proofs.lemmas.List.{get_or-set_other}
use Rattle.std.proofs.lemmas.List.Folds.{find-append}
use Rattle.table_terms.specs.Bits.{any_filter}
use Rattle.movement.specs.declared.cell.Cell.{Cell}
use Rattle.movement.specs.Movement.{Section, IsCell, most_tables, most_boards}
use Rattle.movement.specs.Schedule.{is_scheduled}
use Rattle.movement.proofs.ScheduleTests.{scheduled-cell}
use Rattle.rbac.specs.Account.{same_name, assigned_roles, new_account, with_change}
use Rattle.rbac.specs.Authorization.{reached}
use Rattle.session_roles.specs.Role.{with_role, without_role}
use Rattle.rbac.specs.declared.account.Account.{Account}
use Rattle.rbac.specs.declared.inheritance.Inheritance.{Inheritance}
use Rattle.session_roles.specs.declared.role.Role.{Role}
use Rattle.rbac.proofs.AccountLemmas.{same_name_decides, changed, changed_other, name_kept}
use Rattle.rbac.proofs.AuthorizationLemmas.{decides_is_reached}
use Rattle.disclosure_rules.specs.LiveCells.{is_live, tables_at, with_live, without_live}
use Rattle.small_sets.specs.Numbers.{has_number, with_number, without_number}
use Rattle.disclosure_rules.specs.Policy.{is_authorized}
use Rattle.disclosure_rules.specs.Seating.{some_that}
use Rattle.disclosure_rules.specs.declared.seat.Seat as the_seat
use Rattle.small_sets.proofs.NumbersLemmas.{has_number-numbers_that}
use Rattle.session_state.specs.Apply.{apply, effect, confirmed, with_result}
use Rattle.session_commands.specs.Command.{subject_cell, touched_by}
use Rattle.session_state.specs.Refusal.{hindrance_of}
use Rattle.session_state.specs.Seats.{without_seat}
use Rattle.session_state.specs.SessionState.{SessionState, cell_at}
use Rattle.session_commands.specs.declared.cell_state.CellState.{CellState}
use Rattle.session_commands.specs.declared.cell_state.CellState.TheVariants.{Entered, Confirmed, Ruled}
use Rattle.session_commands.specs.declared.command.Command.{Command}
use Rattle.session_commands.specs.declared.command.Command.TheVariants as command
use Rattle.session_commands.specs.declared.command.Command.TheVariants.{
  Confirm,
  Correct,
  Void,
  Seat,
  Unseat,
  AddUser,
  Assign,
  Deassign,
  AddInheritance,
  DeleteInheritance,
  Lift,
}
use Rattle.session_commands.specs.declared.entry.Entry.{Entry}
use Rattle.session_commands.specs.declared.refusal.Refusal.{Refusal}
use Rattle.session_commands.specs.declared.refusal.Refusal.TheVariants.{NoSuchCell}
use Rattle.session_state.specs.declared.seated.Seated.{Seated}
use Rattle.session_book.specs.Touched.{is_touched}
use Rattle.session_book.proofs.SightLemmas.{ShowsNoMore}

not_equal : (a b : ℕ) → nat_eq a b ≡ false → a ≢ b
not_equal a b differ same = false≢true (sym differ ∙ eq-eqb a b same)

-- results: one on another board, and one that is taken away
other_board : (live : List (List ℕ)) (cell : Cell) (table board : ℕ) → 1 ≤ cell.board → 1 ≤ board → board ≢ cell.board →
    is_live (with_live live cell) (record { table = table; board = board }) ≡ is_live live
    (record { table = table; board = board })
other_board live cell table zero from from_other differ = absurd (omega arith)
other_board live cell table (suc b) from from_other differ =
    ap (λ tables. has_number tables table) (get_or-set_other live (cell.board - 1) b
    (with_number most_tables (tables_at live cell.board) cell.table) []
    (λ same. differ (omega (arith, same, from))))

-- what stands at a place after a write is what was written, or what stood there
written : {X : Type 0} (xs : List X) (i j : ℕ) (x d : X) → (get_or (set xs i x) j d ≡ get_or xs j d) ⊎
    ((j ≡ i) × (get_or (set xs i x) j d ≡ x))
written [] i j x d = inl refl
written (y ∷ ys) zero zero x d = inr (refl, refl)
written (y ∷ ys) zero (suc j) x d = inl refl
written (y ∷ ys) (suc i) zero x d = inl refl
written (y ∷ ys) (suc i) (suc j) x d =
    elim (written ys i j x d) [
      | inl same ↦ inl same
      | inr here ↦ inr (ap suc here.0, here.1)
    ]

fewer : (most : ℕ) (numbers : List ℕ) (k n : ℕ) → has_number (without_number most numbers k) n ≡ true →
    has_number numbers n ≡ true
fewer most numbers k n left =
    let test : ℕ → Bool = λ m. not (nat_eq m k) && has_number numbers m in
    let passes =
    (and_parts _ _ (sym (any_filter (nat_eq n) test n (λ m same. ap test (sym (eqb-true n m same)))
    (range_with_len 1 most)) ∙ left)).1 in
    (and_parts (not (nat_eq n k)) (has_number numbers n) passes).1

fewer_live : (live : List (List ℕ)) (cell : Cell) (table board : ℕ) → 1 ≤ cell.board →
    is_live (without_live live cell) (record { table = table; board = board }) ≡ true → is_live live
    (record { table = table; board = board }) ≡ true
fewer_live live cell table zero from left = left
fewer_live live cell table (suc b) from left =
    let tables = without_number most_tables (tables_at live cell.board) cell.table in
    elim (written live (cell.board - 1) b tables []) [
      | inl same ↦ ap (λ numbers. has_number numbers table) (sym same) ∙ left
      | inr here ↦
          let number : cell.board ≡ suc b = omega (arith, here.0, from) in
          ap (λ n. has_number (tables_at live n) table) (sym number)
          ∙ fewer most_tables (tables_at live cell.board) cell.table table (ap (λ numbers. has_number numbers table)
          (sym here.1) ∙ left)
    ]

-- boards that are held: one more, and another one less
still_held : (held : List ℕ) (number board : ℕ) → 1 ≤ board → board ≤ most_boards → has_number held board ≡ true →
    has_number (with_number most_boards held number) board ≡ true
still_held held number board from to is =
    has_number-numbers_that most_boards (λ n. nat_eq n number || has_number held n) board from to ∙ or_right _ _ is

other_held : (held : List ℕ) (number board : ℕ) → 1 ≤ board → board ≤ most_boards → nat_eq board number ≡ false →
    has_number held board ≡ true → has_number (without_number most_boards held number) board ≡ true
other_held held number board from to differ is =
    has_number-numbers_that most_boards (λ n. not (nat_eq n number) && has_number held n) board from to ∙ and_from _ _
    (not_from_false _ differ) is

-- seats: another user's, and one that is left
not_named : (user name : List ℕ) → same_name user name ≡ false → same_name name user ≡ false
not_named user name differ =
    false_from_ne_true _
    (λ same. false≢true (sym differ ∙ (same_name_decides user name).1 (sym ((same_name_decides name user).0 same))))

abbrev seat_in : List Seated → List ℕ → Option the_seat.Seat
seat_in seats user = option_map (λ seated. seated.seat) (find (λ (seated : Seated). same_name seated.name user) seats)

other_sits : (seats : List Seated) (seated : Seated) (user : List ℕ) → same_name seated.name user ≡ false →
    seat_in (seats ++ seated ∷ []) user ≡ seat_in seats user
other_sits seats seated user other =
    let p : Seated → Bool = λ s. same_name s.name user in
    ap (option_map (λ (s : Seated). s.seat))
    (find-append p seats (seated ∷ []) ∙ ap (λ b. option_or (find p seats) (cond b (Some seated) None)) other ∙ no_other
    (find p seats))
  where
    no_other : (found : Option Seated) → option_or found None ≡ found
    no_other None = refl
    no_other (Some s) = refl

gone : {X : Type 0} (p : X → Bool) (xs : List X) → find p (filter (λ x. not (p x)) xs) ≡ None
gone p [] = refl
gone {X} p (x ∷ xs) = by_test (p x) refl (gone p xs)
  where
    by_test : (b : Bool) → b ≡ p x → find p (filter (λ y. not (p y)) xs) ≡ None →
        find p (cond (not b) (x ∷ filter (λ y. not (p y)) xs) (filter (λ y. not (p y)) xs)) ≡ None
    by_test true is rest = rest
    by_test false is rest = ap (λ b. cond b (Some x) (find p (filter (λ y. not (p y)) xs))) (sym is) ∙ rest

others_found : {X : Type 0} (p q : X → Bool) → ((x : X) → p x ≡ true → q x ≡ true) → (xs : List X) →
    find p (filter q xs) ≡ find p xs
others_found p q passes [] = refl
others_found {X} p q passes (x ∷ xs) = by_tests (p x) (q x) refl refl (others_found p q passes xs)
  where
    by_tests : (a b : Bool) → a ≡ p x → b ≡ q x → find p (filter q xs) ≡ find p xs →
        find p (cond b (x ∷ filter q xs) (filter q xs)) ≡ cond a (Some x) (find p xs)
    by_tests true true is kept rest = ap (λ c. cond c (Some x) (find p (filter q xs))) (sym is)
    by_tests true false is left rest = absurd (false≢true (left ∙ passes x (sym is)))
    by_tests false true is kept rest = ap (λ c. cond c (Some x) (find p (filter q xs))) (sym is) ∙ rest
    by_tests false false is left rest = rest

stands_up : (seats : List Seated) (name user : List ℕ) → (seat_in (without_seat seats name) user ≡ seat_in seats user) ⊎
    (seat_in (without_seat seats name) user ≡ None)
stands_up seats name user =
    elim (cases_Bool (same_name user name)) [
      | inl same ↦
          inr (ap (λ n. seat_in (without_seat seats n) user) (sym ((same_name_decides user name).0 same))
          ∙ ap (option_map (λ (s : Seated). s.seat)) (gone (λ (s : Seated). same_name s.name user) seats))
      | inr other ↦
          inl (ap (option_map (λ (s : Seated). s.seat))
          (others_found (λ (s : Seated). same_name s.name user) (λ (s : Seated). not (same_name s.name name))
          (λ s is. not_from_false _ (ap (λ n. same_name n name) ((same_name_decides s.name user).0 is) ∙ other)) seats))
    ]

-- roles: those of the account that is found
abbrev roles_in : List Inheritance → Option Account → Option (List Role)
roles_in pairs found = option_map (reached pairs) (option_map (λ account. account.assigned) found)

-- a user who joins has no role
joined_none : (pairs : List Inheritance) (accounts : List Account) (name user : List ℕ) (role : Role) →
    is_authorized (option_map (reached pairs) (assigned_roles (accounts ++ new_account name ∷ []) user)) role ≡
    is_authorized (option_map (reached pairs) (assigned_roles accounts user)) role
unfolding assigned_roles
joined_none pairs accounts name user role =
    ap (λ found. is_authorized (roles_in pairs found) role) (find-append p accounts (new_account name ∷ [])) ∙ by_found
    (find p accounts)
  where
    p : Account → Bool
    p = λ account. same_name account.name user

    by_name : (b : Bool) → is_authorized (roles_in pairs (cond b (Some (new_account name)) None)) role ≡ true → ⊥
    by_name true is = let some = (decides_is_reached pairs [] role).0 is in false≢true some.1
    by_name false is = false≢true is

    by_found : (found : Option Account) → is_authorized
        (roles_in pairs (option_or found (find p (new_account name ∷ [])))) role ≡ is_authorized (roles_in pairs found)
        role
    by_found (Some account) = refl
    by_found None = false_from_ne_true _ (by_name (same_name name user))

-- a change of assigned roles that changes no account of the user's leaves the user the same roles
changed_not : (pairs : List Inheritance) (change : List Role → List Role) (name user : List ℕ) (role : Role) →
    ((account : Account) → account.name ≡ user → changed change name account ≡ account) → (accounts : List Account) →
    is_authorized (option_map (reached pairs) (assigned_roles (with_change change name accounts) user)) role ≡
    is_authorized (option_map (reached pairs) (assigned_roles accounts user)) role
unfolding assigned_roles
changed_not pairs change name user role same [] = refl
changed_not pairs change name user role same (account ∷ accounts) =
    ap (λ n. is_authorized (roles_in pairs (cond (same_name n user) (Some (changed change name account))
    (find p (with_change change name accounts)))) role) (name_kept change name account)
    ∙ by_name (same_name account.name user) refl (changed_not pairs change name user role same accounts)
  where
    p : Account → Bool
    p = λ other. same_name other.name user

    by_name : (b : Bool) → b ≡ same_name account.name user →
        is_authorized (roles_in pairs (find p (with_change change name accounts))) role ≡ is_authorized
        (roles_in pairs (find p accounts)) role →
        is_authorized
        (roles_in pairs (cond b (Some (changed change name account)) (find p (with_change change name accounts))))
        role
        ≡ is_authorized (roles_in pairs (cond b (Some account) (find p accounts))) role
    by_name true named rest = ap (λ (a : Account). is_authorized (roles_in pairs (Some a)) role)
        (same account ((same_name_decides account.name user).0 (sym named)))
    by_name false other rest = rest

-- so does a change of another user's
others_change : (state : SessionState) (change : List Role → List Role) (name user : List ℕ) (role : Role) →
    same_name user name ≡ false →
    is_authorized (option_map (reached state.roles.pairs) (assigned_roles (with_change change name state.roles.accounts)
    user)) role
    ≡ is_authorized (option_map (reached state.roles.pairs) (assigned_roles state.roles.accounts user)) role
others_change state change name user role other =
    changed_not state.roles.pairs change name user role
    (λ account named. changed_other change name account
    (λ same. false≢true (sym other ∙ (same_name_decides user name).1 (sym named ∙ same)))) state.roles.accounts

-- states that differ in one part
nothing_changed : (state : SessionState) (user : List ℕ) (board : ℕ) → ShowsNoMore state state user board
nothing_changed state user board = record {
  movement = refl;
  roles = λ role. refl;
  seat = inl refl;
  edition = refl;
  embargo = λ is. is;
  held = λ is. is;
  live = λ table is. is;
}

result_elsewhere : (state : SessionState) (cell : Cell) (known : CellState) (user : List ℕ) (board : ℕ) →
    1 ≤ cell.board → 1 ≤ board → board ≢ cell.board →
    ShowsNoMore state (with_result state cell known) user board
result_elsewhere state cell known user board from from_other differ = record {
  movement = refl;
  roles = λ role. refl;
  seat = inl refl;
  edition = refl;
  embargo = λ is. is;
  held = λ is. is;
  live = λ table is. sym (other_board state.public.live cell table board from from_other differ) ∙ is;
}

confirmed_elsewhere : (state : SessionState) (cell : Cell) (known : CellState) (user : List ℕ) (board : ℕ) →
    1 ≤ cell.board → 1 ≤ board → board ≢ cell.board →
    ShowsNoMore state (confirmed state cell known) user board
confirmed_elsewhere state cell (Entered outcome play) user board from from_other differ =
    result_elsewhere state cell (Confirmed outcome play None) user board from from_other differ
confirmed_elsewhere state cell known user board from from_other differ = nothing_changed state user board

-- of what a command doesn't touch it shows no more: a line for each that changes results, seats or roles, or ends an
-- embargo; of the others the last line finds that what is held stays so
effect_shows : (state : SessionState) (command : Command) (user : List ℕ) (board : ℕ) →
    ((cell : Cell) → subject_cell command ≡ Some cell → 1 ≤ cell.board) → 1 ≤ board → board ≤ most_boards →
    is_touched (touched_by command) user board ≡ false → ShowsNoMore state (effect state command) user board
effect_shows state (Confirm cell outcome) user board from low high untouched =
    confirmed_elsewhere state cell (cell_at state cell) user board (from cell refl) low
    (not_equal board cell.board untouched)
effect_shows state (Correct cell outcome play) user board from low high untouched =
    result_elsewhere state cell (Confirmed outcome play None) user board (from cell refl) low
    (not_equal board cell.board untouched)
effect_shows state (command.Rule cell north_south east_west reason) user board from low high untouched =
    result_elsewhere state cell (Ruled north_south east_west reason) user board (from cell refl) low
    (not_equal board cell.board untouched)
effect_shows state (Void cell) user board from low high untouched =
    record {
      movement = refl;
      roles = λ role. refl;
      seat = inl refl;
      edition = refl;
      embargo = λ is. is;
      held = λ is. is;
      live = λ place is. fewer_live state.public.live cell place board (from cell refl) is;
    }
effect_shows state (Seat name pair place) user board from low high untouched = record {
  movement = refl;
  roles = λ role. refl;
  seat = inl (other_sits state.seats (record { name = name; seat = record { pair = pair; place = place } }) user
      (not_named user name untouched));
  edition = refl;
  embargo = λ is. is;
  held = λ is. is;
  live = λ place is. is;
}
effect_shows state (Unseat name) user board from low high untouched = record {
  movement = refl;
  roles = λ role. refl;
  seat = stands_up state.seats name user;
  edition = refl;
  embargo = λ is. is;
  held = λ is. is;
  live = λ place is. is;
}
effect_shows state (AddUser name digest) user board from low high untouched = record {
  movement = refl;
  roles = joined_none state.roles.pairs state.roles.accounts name user;
  seat = inl refl;
  edition = refl;
  embargo = λ is. is;
  held = λ is. is;
  live = λ place is. is;
}
effect_shows state (Assign name more) user board from low high untouched = record {
  movement = refl;
  roles = λ role. others_change state (λ set. with_role set more) name user role untouched;
  seat = inl refl;
  edition = refl;
  embargo = λ is. is;
  held = λ is. is;
  live = λ place is. is;
}
effect_shows state (Deassign name less) user board from low high untouched = record {
  movement = refl;
  roles = λ role. others_change state (λ set. without_role set less) name user role untouched;
  seat = inl refl;
  edition = refl;
  embargo = λ is. is;
  held = λ is. is;
  live = λ place is. is;
}
effect_shows state (AddInheritance senior junior) user board from low high untouched =
    absurd (false≢true (sym untouched))
effect_shows state (DeleteInheritance senior junior) user board from low high untouched =
    absurd (false≢true (sym untouched))
effect_shows state Lift user board from low high untouched = absurd (false≢true (sym untouched))
effect_shows state command user board from low high untouched = record {
  movement = refl;
  roles = λ role. refl;
  seat = inl refl;
  edition = refl;
  embargo = λ is. search;
  held = λ is. search (still_held, other_held);
  live = λ place is. is;
}

second_free : (a b rest : Option Refusal) → option_or a (option_or b rest) ≡ None → b ≡ None
second_free None None rest none = refl
second_free None (Some cause) rest none = absurd cc
second_free (Some cause) b rest none = absurd cc

met_not : (scheduled : Bool) → then_some (not scheduled) NoSuchCell ≡ None → scheduled ≡ true
met_not true none = refl
met_not false none = absurd cc

is_scheduled_there : (at : Option Cell) (cell : Cell) (scheduled : Cell → Bool) → at ≡ Some cell →
    then_some (some_that at (λ c. not (scheduled c))) NoSuchCell ≡ None → scheduled cell ≡ true
is_scheduled_there (Some other) cell scheduled at none =
    let same : other ≡ cell = cc in subst (λ c. scheduled c ≡ true) same (met_not (scheduled other) none)
is_scheduled_there None cell scheduled at none = absurd cc

after_some : (n board : ℕ) → n < board → 1 ≤ board
after_some n board after = omega (arith, after)

-- a cell's board comes after those of the sets before its own
from_first_board : (section : Section) (cell : Cell) → IsCell section cell → 1 ≤ cell.board
from_first_board section cell (k, row, below, here, has) =
    after_some ((row.set - 1) * section.per_set) cell.board has.board.after

-- an entry that nothing hinders, and that is about a cell, has a board
its_board_is_there : (state : SessionState) (command : Command) → hindrance_of state command ≡ None → (cell : Cell) →
    subject_cell command ≡ Some cell → 1 ≤ cell.board
unfolding hindrance_of
its_board_is_there state command none cell at =
    let free = second_free _ _ _ none in
    let scheduled = is_scheduled_there (subject_cell command) cell (is_scheduled state.public.movement) at free in
    from_first_board state.public.movement cell (scheduled-cell state.public.movement cell scheduled)

-- of what an entry doesn't touch it shows no more
pub untouched_shows : (state : SessionState) (entry : Entry) (user : List ℕ) (board : ℕ) → 1 ≤ board →
    board ≤ most_boards → is_touched (touched_by entry.command) user board ≡ false →
    ShowsNoMore state (apply state entry) user board
untouched_shows state entry user board low high untouched = by_hindrance (hindrance_of state entry.command) refl
  where
    by_hindrance : (found : Option Refusal) → found ≡ hindrance_of state entry.command → ShowsNoMore state
        (cond (is_some found) state (effect state entry.command)) user board
    by_hindrance (Some cause) found = nothing_changed state user board
    by_hindrance None found = effect_shows state entry.command user board (its_board_is_there state entry.command
        (sym found)) low high untouched
