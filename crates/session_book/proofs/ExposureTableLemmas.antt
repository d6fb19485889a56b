-- The table of who was shown something of which board: what it has after the policy was asked, and one entry more.
use Rattle.std.proofs.Common.{◌≡◌, ◌≢◌, ℕ, zero, suc, ◌+◌, ◌<◌, ◌≤◌, Bool, true, false, List, [], ◌∷◌, ◌++◌, map, length, get_or, replicate, nat_eq, refl, sym, ap, ◌∙◌, subst, inl, inr, arith}
use Rattle.std.specs.Prelude.{◌||◌, ◌&&◌, nat_le, nat_lt, Contains, slice_set}
use Rattle.std.proofs.lemmas.Bool.{
  cases_Bool,
  cases_lt,
  cases_eq,
  le-leb,
  lt-leb,
  lt-ltb,
  le-ltb,
  eq-eqb,
  ne_eqb,
  eqb-true,
  and_parts,
  or_left,
  and_left,
  and_right,
  or_from,
  false≢true,
  false_from_ne_true,
}
use Rattle.std.proofs.lemmas.List.{length-map, get_or-map, get_or_append_left, get_or-set_same, get_or-set_other, length-append}
use Rattle.std.specs.Prelude.{Option, Some, None, find, Any, IsSomeAnd}
use Rattle.movement.specs.declared.cell.Cell.{Cell}
use Rattle.movement.specs.Movement.{IsCell, HasCell, rows}
use Rattle.movement.specs.Row.{Seats}
use Rattle.disclosure_rules.specs.declared.seat.Seat.{Seat}
use Rattle.disclosure_rules.specs.declared.viewer.Viewer.{Viewer}
use Rattle.disclosure_rules.specs.Seating.{is_seated_at}
use Rattle.disclosure_rules.proofs.SeatingTests.{seated_decides}
use Rattle.disclosure_rules.proofs.FirstLemmas.{find_place, find_none}
use Rattle.movement.specs.Movement.{boards_of, most_boards}
use Rattle.rbac.specs.Account.{same_name, most_users}
use Rattle.rbac.specs.Authorization.{IsValid}
use Rattle.rbac.proofs.AccountLemmas.{same_name_decides}
use Rattle.rbac.specs.declared.account.Account.{Account}
use Rattle.small_sets.specs.Numbers.{has_number, with_number}
use Rattle.small_sets.proofs.NumbersLemmas.{has_with_number}
use Rattle.session_state.specs.SessionState.{SessionState, viewer_of}
use Rattle.session_commands.specs.declared.entry.Entry.{Entry}
use Rattle.session_book.specs.Exposure.{sees_hands, is_exposed, users_of, spoils, spoiler_at}
use Rattle.session_book.specs.ExposureTable.{is_noted, user_at, IsAsked, one_board, first_boards, first_users, IsNoted}
use Rattle.session_book.specs.Replay.{replay}
use Rattle.session_book.proofs.ExposureLemmas.{exposed_more, exposed_at_opening}
use Rattle.session_book.proofs.LastingLemmas.{Lasts, replay_lasts}
use Rattle.session_book.proofs.SpoilerLemmas.{stranger_unexposed}

-- nothing is noted in a new table
none_in : (n place board : ℕ) → is_noted (replicate n []) place board ≡ false
none_in zero place board = refl
none_in (suc n) zero board = refl
none_in (suc n) (suc place) board = none_in n place board

-- a board that is added for an account is noted, and no other
pub noted_set : (table : List (List ℕ)) (place board p b : ℕ) → place < length table → 1 ≤ b → b ≤ most_boards →
    is_noted (slice_set table place (with_number most_boards (get_or table place []) board)) p b
    ≡ (is_noted table p b || one_board place board p b)
noted_set table place board p b below from to =
    elim (cases_eq p place) [
      | inl same ↦
          let row = get_or table place [] in
          ap (λ q. is_noted (slice_set table place (with_number most_boards row board)) q b) same
          ∙ ap (λ r. has_number r b) (get_or-set_same table place (with_number most_boards row board) [] below)
          ∙ has_with_number most_boards row board b from to
          ∙ swap (nat_eq b board) (has_number row b)
          ∙ ap (λ x. has_number row b || (x && nat_eq b board)) (sym (eq-eqb place place refl))
          ∙ ap (λ q. is_noted table q b || one_board place board q b) (sym same)
      | inr other ↦
          let row = get_or table place [] in
          ap (λ r. has_number r b) (get_or-set_other table place p (with_number most_boards row board) [] other)
          ∙ unchanged (is_noted table p b)
          ∙ ap (λ x. is_noted table p b || (x && nat_eq b board)) (sym (ne_eqb p place other))
    ]
  where
    swap : (x y : Bool) → (x || y) ≡ (y || (true && x))
    swap true true = refl
    swap true false = refl
    swap false true = refl
    swap false false = refl

    unchanged : (x : Bool) → x ≡ (x || false)
    unchanged true = refl
    unchanged false = refl

-- one pair was asked about: it is noted where it was, or where the user sees the hands
pub asked_one : (state : SessionState) (old new : List (List ℕ)) (place board : ℕ) (added : Bool) →
    ((p b : ℕ) → 1 ≤ b → b ≤ most_boards → is_noted new p b ≡
    (is_noted old p b || (one_board place board p b && added))) →
    (is_noted old place board || added) ≡ (is_noted old place board || sees_hands state (user_at state place) board) →
    IsAsked state (one_board place board) old new
asked_one state old new place board added now agrees p b from to =
    elim (cases_Bool (one_board place board p b)) [
      | inl same ↦
          let parts = and_parts (nat_eq p place) (nat_eq b board) same in
          let at_p : place ≡ p = sym (eqb-true p place parts.0) in
          let at_b : board ≡ b = sym (eqb-true b board parts.1) in
          now p b from to ∙ ap (λ x. is_noted old p b || (x && added)) same
          ∙ (λ i. is_noted old (sym at_p i) (sym at_b i) || added) ∙ agrees
          ∙ (λ i. is_noted old (at_p i) (at_b i) || sees_hands state (user_at state (at_p i)) (at_b i))
          ∙ ap (λ x. is_noted old p b || (x && sees_hands state (user_at state p) b)) (sym same)
      | inr other ↦
          now p b from to ∙ ap (λ x. is_noted old p b || (x && added)) other
          ∙ ap (λ x. is_noted old p b || (x && sees_hands state (user_at state p) b)) (sym other)
    ]

-- a table that is as it was
pub as_before : (place board : ℕ) (table : List (List ℕ)) (p b : ℕ) → 1 ≤ b → b ≤ most_boards → is_noted table p b ≡
    (is_noted table p b || (one_board place board p b && false))
as_before place board table p b from to = same (is_noted table p b) (one_board place board p b)
  where
    same : (x y : Bool) → x ≡ (x || (y && false))
    same true y = refl
    same false true = refl
    same false false = refl

-- a pair that is noted isn't asked about
pub asked_noted : (state : SessionState) (place board : ℕ) (table : List (List ℕ)) →
    is_noted table place board ≡ true → IsAsked state (one_board place board) table table
asked_noted state place board table noted =
    asked_one state table table place board false (as_before place board table)
    (ap (λ x. x || false) noted ∙ sym (ap (λ x. x || sees_hands state (user_at state place) board) noted))

both : (o f g s : Bool) → ((o || (f && s)) || (g && s)) ≡ (o || ((f || g) && s))
both true f g s = refl
both false true g true = refl
both false true true false = refl
both false true false false = refl
both false false g s = refl

-- asked about some, and then about others
pub asked_on : (state : SessionState) (f g h : ℕ → ℕ → Bool) (old mid new : List (List ℕ)) → IsAsked state f old mid →
    IsAsked state g mid new →
    ((p b : ℕ) → 1 ≤ b → h p b ≡ (f p b || g p b)) → IsAsked state h old new
asked_on state f g h old mid new first then all p b from to =
    then p b from to
    ∙ ap (λ x. x || (g p b && sees_hands state (user_at state p) b)) (first p b from to)
    ∙ both (is_noted old p b) (f p b) (g p b) (sees_hands state (user_at state p) b)
    ∙ ap (λ x. is_noted old p b || (x && sees_hands state (user_at state p) b)) (sym (all p b from))

-- asked about nobody
pub asked_none : (state : SessionState) (f : ℕ → ℕ → Bool) (table : List (List ℕ)) →
    ((p b : ℕ) → 1 ≤ b → f p b ≡ false) → IsAsked state f table table
asked_none state f table none p b from to =
    same (is_noted table p b) ∙ ap (λ x. is_noted table p b || (x && sees_hands state (user_at state p) b))
    (sym (none p b from))
  where
    same : (x : Bool) → x ≡ (x || false)
    same true = refl
    same false = refl

le_step : (b k : ℕ) → nat_le b (k + 1) ≡ (nat_le b k || nat_eq b (k + 1))
le_step b k =
    elim (cases_lt k b) [
      | inl above ↦ elim (cases_eq b (k + 1)) [
        | inl same ↦ le-leb b (k + 1) (omega arith) ∙ (λ i. sym (lt-leb b k above) i || sym (eq-eqb b (k + 1) same) i)
        | inr other ↦ lt-leb b (k + 1) (omega arith) ∙ (λ i. sym (lt-leb b k above) i || sym (ne_eqb b (k + 1) other) i)
      ]
      | inr within ↦ le-leb b (k + 1) (omega arith) ∙ ap (λ x. x || nat_eq b (k + 1)) (sym (le-leb b k within))
    ]

-- one board more
pub boards_step : (place k p b : ℕ) → 1 ≤ b → first_boards place (k + 1) p b ≡
    (first_boards place k p b || one_board place (k + 1) p b)
boards_step place k p b from =
    ap (λ x. nat_eq p place && (nat_le 1 b && x)) (le_step b k)
    ∙ ap (λ x. nat_eq p place && (x && (nat_le b k || nat_eq b (k + 1)))) (le-leb 1 b from)
    ∙ shared (nat_eq p place) (nat_le b k) (nat_eq b (k + 1))
    ∙ ap (λ x. (nat_eq p place && (x && nat_le b k)) || one_board place (k + 1) p b) (sym (le-leb 1 b from))
  where
    shared : (e x y : Bool) → (e && (true && (x || y))) ≡ ((e && (true && x)) || (e && y))
    shared true x y = refl
    shared false x y = refl

-- no board
pub no_boards : (place p b : ℕ) → 1 ≤ b → first_boards place 0 p b ≡ false
no_boards place p b from = and_right (nat_eq p place) _ (and_right (nat_le 1 b) _ (lt-leb b 0 from))

pub lt_same : (p n : ℕ) → p ≢ n → nat_lt p (n + 1) ≡ nat_lt p n
lt_same p n other =
    elim (cases_lt p n) [
      | inl below ↦ lt-ltb p (n + 1) (omega arith) ∙ sym (lt-ltb p n below)
      | inr above ↦ le-ltb p (n + 1) (omega arith) ∙ sym (le-ltb p n above)
    ]

-- one user more
pub users_step : (n last p b : ℕ) → first_users (n + 1) last p b ≡ (first_users n last p b || first_boards n last p b)
users_step n last p b =
    elim (cases_eq p n) [
      | inl same ↦
          ap (λ x. x && (nat_le 1 b && nat_le b last)) (lt-ltb p (n + 1) (omega arith))
          ∙ (λ i. (sym (le-ltb p n (omega arith)) i && (nat_le 1 b && nat_le b last)) ||
          (sym (eq-eqb p n same) i && (nat_le 1 b && nat_le b last)))
      | inr other ↦
          ap (λ x. x && (nat_le 1 b && nat_le b last)) (lt_same p n other)
          ∙ old (nat_lt p n && (nat_le 1 b && nat_le b last))
          ∙ ap (λ x. (nat_lt p n && (nat_le 1 b && nat_le b last)) || (x && (nat_le 1 b && nat_le b last)))
          (sym (ne_eqb p n other))
    ]
  where
    old : (x : Bool) → x ≡ (x || false)
    old true = refl
    old false = refl

pub no_users : (last p b : ℕ) → 1 ≤ b → first_users 0 last p b ≡ false
no_users last p b from = and_left _ _ (le-ltb p 0 (omega arith))

-- everybody was asked about each board of the session
pub everybody : (users last p b : ℕ) → p < users → 1 ≤ b → b ≤ last → first_users users last p b ≡ true
everybody users last p b there from to = λ i. lt-ltb p users there i && (le-leb 1 b from i && le-leb b last to i)

pub nobody_past : (users last p b : ℕ) → users ≤ p → first_users users last p b ≡ false
nobody_past users last p b past = and_left _ _ (le-ltb p users past)

-- the name of a user, where the account stands
pub name_at : (accounts : List Account) (place : ℕ) (account : Account) → place < length accounts →
    account ≡ get_or accounts place account → account.name ≡ get_or (map (λ (a : Account). a.name) accounts) place []
name_at accounts place account below here = ap (λ (a : Account). a.name) here
    ∙ sym (get_or-map (λ (a : Account). a.name) accounts place account [] below)

pub name_read : (state : SessionState) (accounts : List Account) (place : ℕ) (account : Account) →
    accounts ≡ state.roles.accounts → place < length accounts → account ≡ get_or accounts place account →
    account.name ≡ user_at state place
name_read state accounts place account same below here =
    name_at accounts place account below here ∙ ap (λ (list : List Account). get_or (map (λ (a : Account). a.name) list)
    place []) same

-- a name that isn't the one that is looked for stands at no place so far
pub not_yet : (accounts : List Account) (place : ℕ) (account : Account) (name : List ℕ) → place < length accounts →
    account ≡ get_or accounts place account → same_name account.name name ≡ false →
    ((k : ℕ) → k < place → get_or (map (λ (a : Account). a.name) accounts) k [] ≢ name) → (k : ℕ) → k < place + 1 →
    get_or (map (λ (a : Account). a.name) accounts) k [] ≢ name
not_yet accounts place account name below here other so_far k within same =
    elim (cases_eq k place) [
      | inl at ↦
          false≢true (sym other ∙ (same_name_decides account.name name).1 (name_at accounts place account below here
          ∙ (ap (λ p. get_or (map (λ (a : Account). a.name) accounts) p []) (sym at) ∙ same)))
      | inr differ ↦ so_far k (omega arith) same
    ]

-- a user who joined later has none of the names before
module _ (before after : SessionState) (lasts : Lasts before after) (valid : IsValid after.roles) where
  same_user : (place : ℕ) → place < length (users_of before) → user_at after place ≡ user_at before place
  same_user place below = ap (λ users. get_or users place []) lasts.users ∙ get_or_append_left (users_of before)
      lasts.joined [] place below

  fewer_before : length (users_of before) ≤ length (users_of after)
  fewer_before = let all = ap length lasts.users ∙ length-append (users_of before) lasts.joined in omega (arith, all)

  name_of_place : (place : ℕ) (account : Account) → place < length after.roles.accounts → user_at after place ≡
      (get_or after.roles.accounts place account).name
  name_of_place place account below = get_or-map (λ (a : Account). a.name) after.roles.accounts place account [] below

  joined_new : (place : ℕ) → length (users_of before) ≤ place → place < length (users_of after) →
      ¬ Contains (users_of before) (user_at after place)
  joined_new place past there (k, below, here) =
      let count = length-map after.roles.accounts (λ (a : Account). a.name) in
      let at_place : place < length after.roles.accounts = omega (arith, count) in
      let at_k : k < length after.roles.accounts = omega (arith, count) in
      let account : Account = record { name = []; assigned = [] } in
      valid.names k place account (omega arith) at_place
      (sym (name_of_place k account at_k) ∙ same_user k below ∙ default_same (users_of before) k below ∙ here
      ∙ name_of_place place account at_place)
    where
      default_same : (users : List (List ℕ)) (i : ℕ) → i < length users → get_or users i [] ≡ get_or users i
          (user_at after place)
      default_same [] i below = absurd (omega arith)
      default_same (x ∷ xs) zero below = refl
      default_same (x ∷ xs) (suc i) below = default_same xs i (omega arith)

-- the table after one entry more, where all were asked who may see something now
module _ (opening : SessionState) (journal : List Entry) (entry : Entry) (before after : SessionState)
    (old new : List (List ℕ)) (asked : ℕ → ℕ → Bool)
    (replayed : before ≡ replay opening journal) (leads : after ≡ replay opening (journal ++ entry ∷ []))
    (lasts : Lasts before after) (valid : IsValid after.roles)
    (few : boards_of opening.public.movement ≤ most_boards)
    (kept : IsNoted opening journal before old) (answers : IsAsked after asked old new)
    (covers : (p b : ℕ) → p < length (users_of after) → 1 ≤ b → b ≤ boards_of opening.public.movement →
    asked p b ≡ false →
    sees_hands after (user_at after p) b ≡ true → is_exposed opening journal (user_at after p) b ≡ true)
    (past : (p b : ℕ) → length (users_of after) ≤ p → asked p b ≡ false) where
  now_exposed : (user : List ℕ) (board : ℕ) → is_exposed opening (journal ++ entry ∷ []) user board ≡
      (is_exposed opening journal user board || sees_hands after user board)
  now_exposed user board = exposed_more opening journal entry user board
      ∙ ap (λ state. is_exposed opening journal user board || sees_hands state user board) (sym leads)

  -- what was noted before, of the users that there are now
  was_noted : (p b : ℕ) → p < length (users_of after) → 1 ≤ b → b ≤ boards_of opening.public.movement →
      is_noted old p b ≡ is_exposed opening journal (user_at after p) b
  was_noted p b there from to =
      elim (cases_lt p (length (users_of before))) [
        | inl below ↦ kept.noted p b below from to ∙ ap (λ user. is_exposed opening journal user b)
            (sym (same_user before after lasts valid p below))
        | inr joined ↦ kept.later p b joined from (omega arith)
            ∙ sym (stranger_unexposed opening journal (user_at after p) b (λ there_before. joined_new before after lasts
            valid p joined there (subst (λ (s : SessionState). Contains (users_of s) (user_at after p)) (sym replayed)
            there_before)))
      ]

  pub noted_more : IsNoted opening (journal ++ entry ∷ []) after new
  noted_more = record {
    noted = λ p b there from to.
        answers p b from (omega arith)
        ∙ ap (λ x. x || (asked p b && sees_hands after (user_at after p) b)) (was_noted p b there from to)
        ∙ all_noted p b there from to
        ∙ sym (now_exposed (user_at after p) b);
    later = λ p b none from to.
        answers p b from to
        ∙ or_from _ _ (kept.later p b (omega (arith, fewer_before before after lasts valid)) from to)
        (and_left _ _ (past p b none));
  }
    where
      all_noted : (p b : ℕ) → p < length (users_of after) → 1 ≤ b → b ≤ boards_of opening.public.movement →
          (is_exposed opening journal (user_at after p) b || (asked p b && sees_hands after (user_at after p) b)) ≡
          (is_exposed opening journal (user_at after p) b || sees_hands after (user_at after p) b)
      all_noted p b there from to =
          elim (cases_Bool (asked p b)) [
            | inl yes_asked ↦ ap (λ x. is_exposed opening journal (user_at after p) b ||
                (x && sees_hands after (user_at after p) b)) yes_asked
            | inr not_asked ↦ elim (cases_Bool (sees_hands after (user_at after p) b)) [
              | inl sees ↦
                  let exposed = covers p b there from to not_asked sees in
                  or_left _ _ exposed ∙ sym (or_left _ _ exposed)
              | inr sees_not ↦
                  (λ i. is_exposed opening journal (user_at after p) b || (not_asked i && sees_not i))
                  ∙ (λ i. is_exposed opening journal (user_at after p) b || sym sees_not i)
            ]
          ]

-- the table at the opening, where all were asked
pub noted_first : (opening state : SessionState) (none table : List (List ℕ)) (boards : ℕ) → state ≡ opening →
    none ≡ replicate most_users [] → boards ≡ boards_of opening.public.movement → boards ≤ most_boards →
    IsAsked opening (first_users (length (users_of opening)) boards) none table → IsNoted opening [] state table
noted_first opening state none table boards same nothing all few answers =
    subst (λ (s : SessionState). IsNoted opening [] s table) (sym same) (record {
      noted = λ p b there from to.
          answers p b from (omega (arith, all, few))
          ∙ (λ i. unnoted p b i || (everybody (length (users_of opening)) boards p b there from (omega (arith, all)) i
          && sees_hands opening (user_at opening p) b))
          ∙ sym (exposed_at_opening opening (user_at opening p) b);
      later = λ p b past from to.
          answers p b from to ∙ or_from _ _ (unnoted p b)
          (and_left _ _ (nobody_past (length (users_of opening)) boards p b past));
    })
  where
    unnoted : (p b : ℕ) → is_noted none p b ≡ false
    unnoted p b = ap (λ table. is_noted table p b) nothing ∙ none_in most_users p b

-- the first who passes a test is found, where nobody before does
pub first_spoiler : (p : List ℕ → Bool) (users : List (List ℕ)) (place : ℕ) (user : List ℕ) → place < length users →
    user ≡ get_or users place [] → p user ≡ true →
    ((k : ℕ) → k < place → p (get_or users k []) ≡ false) → Some user ≡ find p users
first_spoiler p users place user below here passes least =
    ap Some here ∙ sym (find_place p users place [] below (ap p (sym here) ∙ passes) least)

-- one more who doesn't pass
pub spoils_step : (p : List ℕ → Bool) (users : List (List ℕ)) (place : ℕ) (user : List ℕ) → user ≡ get_or users place
    [] → p user ≡ false →
    ((k : ℕ) → k < place → p (get_or users k []) ≡ false) → (k : ℕ) → k < place + 1 → p (get_or users k []) ≡ false
spoils_step p users place user here fails least k within =
    elim (cases_eq k place) [
      | inl at ↦ ap (λ n. p (get_or users n [])) at ∙ (ap p (sym here) ∙ fails)
      | inr differ ↦ least k (omega arith)
    ]

-- where nobody passes, nobody is found
pub no_spoiler_at : (p : List ℕ → Bool) (users : List (List ℕ)) →
    ((k : ℕ) → k < length users → p (get_or users k []) ≡ false) → None ≡ find p users
no_spoiler_at p users fails = sym (find_none p users [] fails)

-- nobody sits at a cell that isn't scheduled
module _ (opening : SessionState) (journal : List Entry) (cell : Cell) (not_cell : ¬ IsCell opening.public.movement
    cell) where
  at_seat : (seat : Option Seat) →
      IsSomeAnd seat (λ s. Any (λ row. Seats row s.pair × HasCell (replay opening journal).public.movement row cell)
      (rows (replay opening journal).public.movement)) → ⊥
  at_seat None none = absurd none
  at_seat (Some seat) (k, row, below, here, seated) =
      not_cell (subst (λ section. IsCell section cell) (replay_lasts opening journal).movement
      (k, row, below, here, seated.1))

  not_seated : (viewer : Viewer) → is_seated_at (replay opening journal).public viewer cell ≡ false
  not_seated viewer = false_from_ne_true _
      (λ test. at_seat viewer.seat ((seated_decides (replay opening journal).public viewer cell).0 test))

  pub nobody_sits : None ≡ spoiler_at opening journal cell
  nobody_sits =
      let users = users_of (replay opening journal) in
      no_spoiler_at (spoils opening journal cell) users
      (λ k below. and_right (is_exposed opening journal (get_or users k []) cell.board) _
      (not_seated (viewer_of (replay opening journal) (get_or users k []))))
