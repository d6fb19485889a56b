-- A rename: at the place of its own account, and nowhere else.
use Rattle.std.proofs.Common.{◌≡◌, ◌≢◌, ℕ, zero, suc, ◌+◌, ◌<◌, Bool, true, false, ◌||◌, cond, List, [], ◌∷◌, length, refl, sym, ap, ◌∙◌, arith}
use Rattle.std.specs.Prelude.{Option, None, is_some, if◌then◌else◌, slice_set, slice_index_or}
use Rattle.std.specs.List.{list_any}
use Rattle.std.proofs.lemmas.Bool.{false≢true}
use Rattle.rbac.proofs.AccountLemmas.{same_name_decides}
use Rattle.rbac.specs.Account.{same_name}
use Rattle.rbac.specs.declared.account.Account.{Account}
use Rattle.session_commands.specs.declared.actor.Actor.{Actor}
use Rattle.session_commands.specs.declared.command.Command.TheVariants.{Rename}
use Rattle.session_commands.specs.declared.refusal.Refusal.{Refusal}
use Rattle.session_state.specs.Accounts.{has_account}
use Rattle.session_state.specs.Apply.{apply, effect}
use Rattle.session_state.specs.Readers.{account_place, shown_name_of}
use Rattle.session_state.specs.Refusal.{hindrance_of}
use Rattle.session_state.specs.SessionState.{SessionState}
use Rattle.session_state.proofs.HindranceLemmas.{user_unhindered}
use Rattle.session_state.proofs.SeatCauseLemmas.{was_not}

-- what is set in a place is there
set_there : {A : Type 0} (xs : List A) (place : ℕ) (x none : A) → place < length xs →
    slice_index_or (slice_set xs place x) place none ≡ x
set_there [] place x none below = absurd (omega arith)
set_there (first ∷ xs) zero x none below = refl
set_there (first ∷ xs) (suc place) x none below = set_there xs place x none (omega arith)

-- a user who has an account stands among them
stands_among : (accounts : List Account) (name : List ℕ) →
    list_any (λ account. same_name account.name name) accounts ≡ true → account_place accounts name < length accounts
stands_among [] name is = absurd (false≢true is)
stands_among (account ∷ accounts) name is =
    by_test (same_name account.name name) is (stands_among accounts name)
  where
    by_test : (b : Bool) → (b || list_any (λ account. same_name account.name name) accounts) ≡ true →
        (list_any (λ account. same_name account.name name) accounts ≡ true →
        account_place accounts name < length accounts) →
        cond b 0 (account_place accounts name + 1) < suc (length accounts)
    by_test true is later = omega arith
    by_test false is later = let there = later is in omega (arith, there)

next : (place : ℕ) → place + 1 ≡ suc place
next place = omega arith

-- what is read and set one place further on, behind a first item
read_next : {A : Type 0} (first : A) (xs : List A) (place : ℕ) (none : A) →
    slice_index_or (first ∷ xs) (place + 1) none ≡ slice_index_or xs place none
read_next first xs place none = ap (λ k. slice_index_or (first ∷ xs) k none) (next place)

set_next : {A : Type 0} (first : A) (xs : List A) (place : ℕ) (x : A) →
    slice_set (first ∷ xs) (place + 1) x ≡ first ∷ slice_set xs place x
set_next first xs place x = ap (λ k. slice_set (first ∷ xs) k x) (next place)

-- what is set at the place of one user leaves all others theirs
kept_of_others : (accounts : List Account) (names : List (List ℕ)) (name other shown : List ℕ) → other ≢ name →
    length names ≡ length accounts →
    slice_index_or (slice_set names (account_place accounts name) shown) (account_place accounts other) []
    ≡ slice_index_or names (account_place accounts other) []
kept_of_others [] [] name other shown different as_many = refl
kept_of_others [] (first ∷ names) name other shown different as_many = absurd (omega arith)
kept_of_others (account ∷ accounts) [] name other shown different as_many = absurd (omega arith)
kept_of_others (account ∷ accounts) (first ∷ names) name other shown different as_many =
    by_tests (same_name account.name name) (same_name account.name other) refl refl
    (kept_of_others accounts names name other shown different (omega (arith, as_many)))
  where
    by_tests : (a b : Bool) → same_name account.name name ≡ a → same_name account.name other ≡ b →
        slice_index_or (slice_set names (account_place accounts name) shown) (account_place accounts other) []
        ≡ slice_index_or names (account_place accounts other) [] →
        slice_index_or (slice_set (first ∷ names) (cond a 0 (account_place accounts name + 1)) shown)
        (cond b 0 (account_place accounts other + 1)) []
        ≡ slice_index_or (first ∷ names) (cond b 0 (account_place accounts other + 1)) []
    by_tests true true is also later = absurd (different (sym ((same_name_decides account.name other).0 also)
        ∙ (same_name_decides account.name name).0 is))
    by_tests true false is also later =
        read_next shown names (account_place accounts other) [] ∙ sym (read_next first names (account_place accounts other) [])
    by_tests false true is also later = ap (λ them. slice_index_or them 0 [])
        (set_next first names (account_place accounts name) shown)
    by_tests false false is also later =
        ap (λ them. slice_index_or them (account_place accounts other + 1) [])
        (set_next first names (account_place accounts name) shown)
        ∙ read_next first (slice_set names (account_place accounts name) shown) (account_place accounts other) []
        ∙ later
        ∙ sym (read_next first names (account_place accounts other) [])

pub renamed_own : (state : SessionState) (actor : Actor) (name shown : List ℕ) →
    length state.names ≡ length state.roles.accounts → hindrance_of state (Rename name shown) ≡ None →
    shown_name_of (apply state (record { actor = actor; command = Rename name shown })) name ≡ shown
renamed_own state actor name shown as_many unhindered =
    let account : has_account state.roles name ≡ true =
    was_not _ (user_unhindered state (Rename name shown) unhindered) in
    let among = stands_among state.roles.accounts name account in
    ap (λ (found : Option Refusal). shown_name_of (if is_some found then state else effect state (Rename name shown))
    name) unhindered
    ∙ set_there state.names (account_place state.roles.accounts name) shown [] (omega (arith, among, as_many))

pub renamed_others : (state : SessionState) (actor : Actor) (name other shown : List ℕ) →
    length state.names ≡ length state.roles.accounts → other ≢ name →
    shown_name_of (apply state (record { actor = actor; command = Rename name shown })) other
    ≡ shown_name_of state other
renamed_others state actor name other shown as_many different =
    by_hindrance (is_some (hindrance_of state (Rename name shown)))
  where
    by_hindrance : (hindered : Bool) →
        shown_name_of (if hindered then state else effect state (Rename name shown)) other ≡ shown_name_of state other
    by_hindrance true = refl
    by_hindrance false = kept_of_others state.roles.accounts state.names name other shown different as_many
