-- Who spoils a result, and the law that nobody does in an accepted journal.
use Rattle.std.proofs.Common.{
  ◌≡◌,
  cond,
  ℕ,
  ◌<◌,
  Bool,
  true,
  false,
  List,
  [],
  ◌∷◌,
  ◌++◌,
  length,
  get_or,
  refl,
  sym,
  ap,
  ◌∙◌,
  subst,
  append_assoc,
}
use Rattle.std.specs.Prelude.{Option, Some, None, find, Contains, option_map, option_and_then, ◌&&◌}
use Rattle.std.proofs.lemmas.Bool.{false≢true, false_from_ne_true}
use Rattle.std.proofs.lemmas.List.{append-nil, length-map, get_or-map}
use Rattle.std.proofs.lemmas.List.Sums.{fold-append}
use Rattle.std.proofs.lemmas.List.Elements.{Contains-append_left}
use Rattle.movement.specs.declared.cell.Cell.{Cell}
use Rattle.rbac.specs.declared.account.Account.{Account}
use Rattle.rbac.proofs.AuthorizationLemmas.{none_authorized}
use Rattle.disclosure_rules.specs.declared.rule.Rule.TheVariants.{NoAccount}
use Rattle.disclosure_rules.specs.declared.fact.Fact.{Fact}
use Rattle.disclosure_rules.proofs.FirstLemmas.{none_found}
use Rattle.disclosure_rules.specs.Policy.{first_rule, forbids, rules}
use Rattle.disclosure_rules.specs.Seating.{IsSeatedAt}
use Rattle.disclosure_rules.proofs.SeatingTests.{seated_decides}
use Rattle.session_state.specs.Apply.{apply}
use Rattle.session_commands.specs.Refusal.{spoiled}
use Rattle.session_state.proofs.RefusalLemmas.{free_at_last}
use Rattle.session_commands.specs.declared.command.Command.{Command}
use Rattle.session_commands.specs.Command.{subject_cell, is_told_by_table}
use Rattle.session_commands.specs.declared.entry.Entry.{Entry}
use Rattle.session_commands.specs.declared.refusal.Refusal.TheVariants.{Spoiled}
use Rattle.session_state.specs.SessionState.{SessionState, viewer_of}
use Rattle.session_book.specs.Exposure.{SomeAllowed, is_exposed, users_of, result_cell, spoils, spoiler_at, spoiler_of}
use Rattle.session_book.specs.Journal.{Follow, IsAccepted, MayFollow, refusal_after}
use Rattle.session_book.specs.Replay.{replay}
use Rattle.session_book.proofs.ExposureLemmas.{exposed_decides}
use Rattle.session_book.proofs.LastingLemmas.{replay_lasts}

-- who has no account is allowed nothing
pub stranger_denied : (state : SessionState) (user : List ℕ) (fact : Fact) → ¬ Contains (users_of state) user →
    first_rule state.public (viewer_of state user) fact ≡ Some NoAccount
unfolding first_rule
stranger_denied state user fact stranger =
    ap (λ roles. find (λ rule. forbids rule state.public (record { roles = roles; seat = (viewer_of state user).seat })
    fact) rules)
    (none_authorized state.roles user
    (λ k account below same. stranger (
      k,
      subst (λ n. k < n) (sym (length-map state.roles.accounts _)) below,
      name_at k account below ∙ same,
    )))
  where
    name_at : (k : ℕ) (account : Account) → k < length state.roles.accounts → get_or (users_of state) k user ≡
        (get_or state.roles.accounts k account).name
    name_at k account below = get_or-map (λ (a : Account). a.name) state.roles.accounts k account user below

-- so whom some fact is allowed has one
pub allowed_has_account : (state : SessionState) (user : List ℕ) (fact : Fact) → first_rule state.public
    (viewer_of state user) fact ≡ None → ¬ ¬ Contains (users_of state) user
allowed_has_account state user fact allowed stranger =
    let denied : Some NoAccount ≡ None = sym (stranger_denied state user fact stranger) ∙ allowed in
    absurd cc

-- who passes a test is found, or somebody before
some_found : (p : List ℕ → Bool) (users : List (List ℕ)) (user : List ℕ) → Contains users user → p user ≡ true →
    ¬ (find p users ≡ None)
some_found p users user (k, below, here) passes none =
    false≢true (sym (none_found p users user none k below) ∙ (ap p here ∙ passes))

-- a result that is not spoiled has no spoiler
not_spoiled : (spoiler : Option (List ℕ)) → option_map Spoiled spoiler ≡ None → spoiler ≡ None
not_spoiled None none = refl
not_spoiled (Some user) none = absurd cc

told_spoils : (told : Bool) (at : Option Cell) (cell : Cell) (spoiler : Cell → Option (List ℕ)) →
    cond told at None ≡ Some cell → cond told (option_map Spoiled (option_and_then spoiler (cond told at None))) None ≡
    None →
    spoiler cell ≡ None
told_spoils true (Some other) cell spoiler at free =
    let here : other ≡ cell = cc in subst (λ c. spoiler c ≡ None) here (not_spoiled _ free)
told_spoils true None cell spoiler at free = absurd cc
told_spoils false other cell spoiler at free = absurd cc

none_spoils : (command : Command) (cell : Cell) (spoiler : Cell → Option (List ℕ)) → result_cell command ≡ Some cell →
    spoiled command (option_and_then spoiler (result_cell command)) ≡ None →
    spoiler cell ≡ None
none_spoils command cell spoiler at free = told_spoils (is_told_by_table command) (subject_cell command) cell spoiler at
    free

-- each entry of an accepted journal may follow those before it
pub follows : (opening : SessionState) (before entries : List Entry) (entry : Entry) (after : List Entry) →
    Follow opening before (entries ++ entry ∷ after) → MayFollow opening (before ++ entries) entry
follows opening before [] entry after follow = subst (λ journal. MayFollow opening journal entry)
    (sym (append-nil before)) follow.0
follows opening before (first ∷ entries) entry after follow =
    subst (λ journal. MayFollow opening journal entry) (append_assoc before (first ∷ []) entries)
    (follows opening (before ++ first ∷ []) entries entry after follow.1)

-- an entry that may follow has no spoiler
no_spoiler : (opening : SessionState) (before : List Entry) (entry : Entry) (cell : Cell) → MayFollow opening before
    entry → result_cell entry.command ≡ Some cell → spoiler_at opening before cell ≡ None
unfolding refusal_after
no_spoiler opening before entry cell may at =
    none_spoils entry.command cell (spoiler_at opening before) at
    (free_at_last (replay opening before) (spoiler_of opening before entry.command) entry.actor entry.command
    (length before) may).0

-- who has an account has one ever after
still_there : (opening : SessionState) (first later : List Entry) (user : List ℕ) →
    Contains (users_of (replay opening first)) user → Contains (users_of (replay opening (first ++ later))) user
unfolding replay
still_there opening first later user there =
    let lasts = replay_lasts (replay opening first) later in
    subst (λ (state : SessionState). Contains (users_of state) user) (sym (fold-append apply opening first later))
    (subst (λ users. Contains users user) (sym lasts.users) (Contains-append_left (users_of (replay opening first))
    lasts.joined user there))

-- who has no account is exposed to nothing
pub stranger_unexposed : (opening : SessionState) (journal : List Entry) (user : List ℕ) (board : ℕ) →
    ¬ Contains (users_of (replay opening journal)) user → is_exposed opening journal user board ≡ false
stranger_unexposed opening journal user board stranger =
    false_from_ne_true _ (λ test.
    let exposed = (exposed_decides opening journal user board).0 test in
    allowed_has_account (replay opening exposed.first) user exposed.shown.fact exposed.shown.allowed
    (λ there. stranger (subst (λ entries. Contains (users_of (replay opening entries)) user) (sym exposed.split)
    (still_there opening exposed.first exposed.later user there))))

-- who was shown something of a board sits at no cell whose result is entered or confirmed later
pub none_foreknows : (opening : SessionState) (first later after : List Entry) (entry : Entry) (user : List ℕ)
    (board : ℕ) (cell : Cell) →
    IsAccepted opening (first ++ later ++ entry ∷ after) → SomeAllowed (replay opening first) user board →
    result_cell entry.command ≡ Some cell → cell.board ≡ board →
    ¬ IsSeatedAt (replay opening (first ++ later)).public (viewer_of (replay opening (first ++ later)) user) cell
none_foreknows opening first later after entry user board cell accepted shown at of_board seated =
    let before = first ++ later in
    let state = replay opening before in
    let may = follows opening [] before entry after accepted in
    let exposed : is_exposed opening before user cell.board ≡ true =
    (exposed_decides opening before user cell.board).1 (record {
      first = first;
      later = later;
      split = refl;
      shown =
          subst (SomeAllowed (replay opening first) user) (sym of_board) shown;
    }) in
    let passes : spoils opening before cell user ≡ true = λ i. exposed i &&
    (seated_decides state.public (viewer_of state user) cell).1 seated i in
    allowed_has_account (replay opening first) user shown.fact shown.allowed
    (λ there. some_found (spoils opening before cell) (users_of state) user (still_there opening first later user there)
    passes (no_spoiler opening before entry cell may at))
