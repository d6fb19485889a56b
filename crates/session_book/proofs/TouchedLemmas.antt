-- The table after one entry more, where all were asked about whom the entry touches.
use Rattle.std.proofs.Common.{
  ◌≡◌,
  ℕ,
  ◌+◌,
  ◌<◌,
  ◌≤◌,
  ◌⊎◌,
  Bool,
  true,
  false,
  List,
  [],
  ◌∷◌,
  ◌++◌,
  length,
  nat_eq,
  refl,
  sym,
  ap,
  ◌∙◌,
  subst,
  inl,
  inr,
  arith,
}
use Rattle.std.specs.Prelude.{◌||◌, ◌&&◌, nat_le, nat_lt}
use Rattle.std.proofs.lemmas.Bool.{
  cases_Bool,
  cases_eq,
  le-leb,
  lt-leb,
  lt-ltb,
  le-ltb,
  eq-eqb,
  ne_eqb,
  and_left,
  and_right,
  or_left,
}
use Rattle.movement.specs.Movement.{boards_of, most_boards}
use Rattle.rbac.specs.Account.{same_name}
use Rattle.rbac.specs.Authorization.{IsValid}
use Rattle.session_state.specs.Apply.{apply}
use Rattle.session_state.specs.SessionState.{SessionState}
use Rattle.session_commands.specs.declared.entry.Entry.{Entry}
use Rattle.session_commands.specs.declared.touched.Touched.{Touched}
use Rattle.session_commands.specs.declared.touched.Touched.TheVariants.{Nothing, Board, User, Everything}
use Rattle.session_book.specs.Exposure.{sees_hands, is_exposed, users_of}
use Rattle.session_book.specs.ExposureTable.{
  is_noted,
  user_at,
  IsAsked,
  one_board,
  first_boards,
  first_users,
  IsNoted,
}
use Rattle.session_book.specs.Replay.{replay}
use Rattle.session_commands.specs.Command.{touched_by}
use Rattle.session_book.specs.Touched.{is_touched, is_touched_at, touched_at, touched_before}
use Rattle.session_book.proofs.ExposureLemmas.{exposed_now, exposed_more, or_none}
use Rattle.session_book.proofs.ExposureTableLemmas.{noted_more, lt_same}
use Rattle.session_book.proofs.JournalLemmas.{replayed_more}
use Rattle.session_book.proofs.LastingLemmas.{Lasts, apply_lasts}
use Rattle.session_book.proofs.SightLemmas.{seen_before}
use Rattle.session_book.proofs.UntouchedLemmas.{untouched_shows}

-- two ways to say about whom was asked
pub asked_as : (state : SessionState) (f g : ℕ → ℕ → Bool) (old new : List (List ℕ)) →
    ((p b : ℕ) → 1 ≤ b → g p b ≡ f p b) → IsAsked state f old new → IsAsked state g old new
asked_as state f g old new same answers p b from to =
    answers p b from to ∙ ap (λ x. is_noted old p b || (x && sees_hands state (user_at state p) b))
    (sym (same p b from))

-- at nothing
pub nothing_at : (state : SessionState) (last place p b : ℕ) → 1 ≤ b → touched_at state Nothing last place p b ≡ false
nothing_at state last place p b from = and_right (nat_eq p place) _ (and_right (nat_le 1 b && nat_le b last) _ refl)

-- at one board of the first ones
pub board_at : (state : SessionState) (last place board p b : ℕ) → 1 ≤ board → board ≤ last → touched_at state
    (Board board) last place p b ≡ one_board place board p b
board_at state last place board p b from to =
    elim (cases_eq b board) [
      | inl same ↦
          let low : 1 ≤ b = omega arith in
          let high : b ≤ last = omega arith in
          ap (λ x. nat_eq p place && (x && nat_eq b board)) (λ i. le-leb 1 b low i && le-leb b last high i)
      | inr other ↦
          ap (λ x. nat_eq p place && ((nat_le 1 b && nat_le b last) && x)) (ne_eqb b board other)
          ∙ ap (λ x. nat_eq p place && x) (and_right (nat_le 1 b && nat_le b last) false refl)
          ∙ ap (λ x. nat_eq p place && x) (sym (ne_eqb b board other))
    ]

-- at one board that isn't among the first
pub no_board_at : (state : SessionState) (last place board p b : ℕ) → (board < 1) ⊎ (last < board) → 1 ≤ b →
    touched_at state (Board board) last place p b ≡ false
no_board_at state last place board p b out from =
    elim (cases_eq b board) [
      | inl same ↦
          let high : last < b = past out same in
          and_right (nat_eq p place) _ (and_left _ _ (and_right (nat_le 1 b) _ (lt-leb b last high)))
      | inr other ↦ and_right (nat_eq p place) _ (and_right (nat_le 1 b && nat_le b last) _ (ne_eqb b board other))
    ]
  where
    past : (board < 1) ⊎ (last < board) → b ≡ board → last < b
    past (inl low) same = absurd (omega arith)
    past (inr high) same = omega arith

-- at the user who is named, and at another
pub named_at : (state : SessionState) (last place p b : ℕ) (user name : List ℕ) → user ≡ user_at state place →
    same_name user name ≡ true → touched_at state (User name) last place p b ≡ first_boards place last p b
named_at state last place p b user name here named =
    elim (cases_eq p place) [
      | inl same ↦
          ap (λ x. nat_eq p place && ((nat_le 1 b && nat_le b last) && x))
          (ap (λ q. same_name (user_at state q) name) same ∙ (ap (λ u. same_name u name) (sym here) ∙ named))
          ∙ ap (λ x. nat_eq p place && x) (all (nat_le 1 b && nat_le b last))
      | inr other ↦ and_left _ _ (ne_eqb p place other) ∙ sym (and_left _ _ (ne_eqb p place other))
    ]
  where
    all : (x : Bool) → (x && true) ≡ x
    all true = refl
    all false = refl

pub not_named_at : (state : SessionState) (last place p b : ℕ) (user name : List ℕ) → user ≡ user_at state place →
    same_name user name ≡ false → touched_at state (User name) last place p b ≡ false
not_named_at state last place p b user name here other =
    elim (cases_eq p place) [
      | inl same ↦
          and_right (nat_eq p place) _ (and_right (nat_le 1 b && nat_le b last) _
          (ap (λ q. same_name (user_at state q) name) same ∙ (ap (λ u. same_name u name) (sym here) ∙ other)))
      | inr differ ↦ and_left _ _ (ne_eqb p place differ)
    ]

-- at everything
pub everything_at : (state : SessionState) (last place p b : ℕ) → touched_at state Everything last place p b ≡
    first_boards place last p b
everything_at state last place p b = ap (λ x. nat_eq p place && x) (all (nat_le 1 b && nat_le b last))
  where
    all : (x : Bool) → (x && true) ≡ x
    all true = refl
    all false = refl

-- at everything, for each user before a place
pub everything_before : (state : SessionState) (last n p b : ℕ) → touched_before state Everything last n p b ≡
    first_users n last p b
everything_before state last n p b = ap (λ x. nat_lt p n && x) (all (nat_le 1 b && nat_le b last))
  where
    all : (x : Bool) → (x && true) ≡ x
    all true = refl
    all false = refl

-- one user more
pub touched_step : (state : SessionState) (touched : Touched) (last n p b : ℕ) → 1 ≤ b →
    touched_before state touched last (n + 1) p b ≡ (touched_before state touched last n p b || touched_at state touched
    last n p b)
touched_step state touched last n p b from =
    elim (cases_eq p n) [
      | inl same ↦
          ap (λ x. x && is_touched_at state touched last p b) (lt-ltb p (n + 1) (omega arith))
          ∙ (λ i. (sym (le-ltb p n (omega arith)) i && is_touched_at state touched last p b) ||
          (sym (eq-eqb p n same) i && is_touched_at state touched last p b))
      | inr other ↦
          ap (λ x. x && is_touched_at state touched last p b) (lt_same p n other)
          ∙ old (nat_lt p n && is_touched_at state touched last p b)
          ∙ ap (λ x. (nat_lt p n && is_touched_at state touched last p b) ||
          (x && is_touched_at state touched last p b)) (sym (ne_eqb p n other))
    ]
  where
    old : (x : Bool) → x ≡ (x || false)
    old true = refl
    old false = refl

pub touched_none : (state : SessionState) (touched : Touched) (last p b : ℕ) → 1 ≤ b → touched_before state touched last
    0 p b ≡ false
touched_none state touched last p b from = and_left _ _ (le-ltb p 0 (omega arith))

-- an entry exposes nobody anew to what it doesn't touch
pub untouched_exposed : (opening : SessionState) (journal : List Entry) (entry : Entry) (user : List ℕ) (board : ℕ) →
    1 ≤ board → board ≤ most_boards → is_touched (touched_by entry.command) user board ≡ false →
    is_exposed opening (journal ++ entry ∷ []) user board ≡ is_exposed opening journal user board
untouched_exposed opening journal entry user board low high untouched =
    let before = replay opening journal in
    exposed_more opening journal entry user board
    ∙ elim (cases_Bool (sees_hands (replay opening (journal ++ entry ∷ [])) user board)) [
      | inl sees ↦
          let shows = untouched_shows before entry user board low high untouched in
          let seen = seen_before before (apply before entry) user board shows (ap (λ state. sees_hands state user board)
          (sym (replayed_more opening journal entry)) ∙ sees) in
          let was = exposed_now opening journal user board seen in
          or_left _ _ was ∙ sym was
      | inr sees_not ↦ ap (λ b. is_exposed opening journal user board || b) sees_not ∙ or_none
          (is_exposed opening journal user board)
    ]

-- the table after one entry more, where all were asked about whom the entry touches
pub noted_by_touched : (opening : SessionState) (journal : List Entry) (entry : Entry) (before after : SessionState)
    (old new : List (List ℕ)) (touched : Touched) (boards : ℕ) →
    before ≡ replay opening journal → after ≡ apply before entry → IsValid after.roles → touched ≡ touched_by
    entry.command → boards ≡ boards_of opening.public.movement → boards ≤ most_boards →
    IsNoted opening journal before old → IsAsked after (touched_before after touched boards (length (users_of after)))
    old new → IsNoted opening (journal ++ entry ∷ []) after new
noted_by_touched opening journal entry before after old new touched boards replayed applied valid touches all few kept
    answers =
    noted_more opening journal entry before after old new
    (touched_before after touched boards (length (users_of after))) replayed
    (applied ∙ (ap (λ state. apply state entry) replayed ∙ sym (replayed_more opening journal entry)))
    (subst (Lasts before) (sym applied) (apply_lasts before entry)) valid (omega (arith, all, few)) kept answers
    (λ p b there from to not_asked sees. seen p b there from (omega (arith, all)) not_asked sees)
    (λ p b past. and_left _ _ (le-ltb p (length (users_of after)) past))
  where
    seen : (p b : ℕ) → p < length (users_of after) → 1 ≤ b → b ≤ boards → touched_before after touched boards
        (length (users_of after)) p b ≡ false →
        sees_hands after (user_at after p) b ≡ true → is_exposed opening journal (user_at after p) b ≡ true
    seen p b there from to not_asked sees =
        let user = user_at after p in
        let untouched : is_touched touched user b ≡ false =
        sym (λ i. lt-ltb p (length (users_of after)) there i && ((le-leb 1 b from i && le-leb b boards to i) &&
        is_touched touched user b)) ∙ not_asked in
        let shows = untouched_shows before entry user b from (omega (arith, to, few))
        (ap (λ t. is_touched t user b) (sym touches) ∙ untouched) in
        let seen_there = seen_before before (apply before entry) user b shows (ap (λ state. sees_hands state user b)
        (sym applied) ∙ sees) in
        exposed_now opening journal user b (ap (λ state. sees_hands state user b) (sym replayed) ∙ seen_there)
