-- Who is exposed: the test against its meaning, and one entry more.
use Rattle.std.proofs.Common.{◌≡◌, ℕ, Bool, true, false, List, [], ◌∷◌, ◌++◌, map, refl, sym, ap, ◌∙◌, inl, inr}
use Rattle.std.specs.Prelude.{◌||◌, Option, Some, None, is_none}
use Rattle.std.specs.List.{list_any}
use Rattle.std.specs.Bool.{Decides}
use Rattle.std.proofs.lemmas.Bool.{or_cases, or_left, or_right, false≢true}
use Rattle.std.proofs.lemmas.List.{map-append}
use Rattle.std.proofs.lemmas.List.Folds.{list_any-append}
use Rattle.disclosure_rules.proofs.FirstLemmas.{hands_allowed}
use Rattle.disclosure_rules.specs.declared.fact.Fact.TheVariants.{Hands}
use Rattle.session_commands.specs.declared.entry.Entry.{Entry}
use Rattle.session_state.specs.SessionState.{SessionState, viewer_of}
use Rattle.session_book.specs.Replay.{replay}
use Rattle.session_book.specs.Exposure.{SomeAllowed, Exposed, sees_hands, first_parts, is_exposed}

any_map : {X Y : Type 0} (p : Y → Bool) (f : X → Y) (xs : List X) → list_any p (map f xs) ≡ list_any (λ x. p (f x)) xs
any_map p f [] = refl
any_map p f (x ∷ xs) = ap (λ b. p (f x) || b) (any_map p f xs)

-- a first part that passes a test, and what comes after it
record SplitAt (p : List Entry → Bool) (journal : List Entry) : Type 0 where
  first : List Entry
  later : List Entry
  split : journal ≡ first ++ later
  passes : p first ≡ true

some_part : (p : List Entry → Bool) (journal : List Entry) → list_any p (first_parts journal) ≡ true → SplitAt p journal
some_part p [] some =
    elim (or_cases (p []) false some) [
      | inl here ↦ record { first = []; later = []; split = refl; passes = here }
      | inr none ↦ absurd (false≢true none)
    ]
some_part p (entry ∷ entries) some =
    elim (or_cases (p []) _ some) [
      | inl here ↦ record { first = []; later = entry ∷ entries; split = refl; passes = here }
      | inr later ↦
          let rest = some_part (λ part. p (entry ∷ part)) entries
          (sym (any_map p (λ part. entry ∷ part) (first_parts entries)) ∙ later) in
          record {
            first = entry ∷ rest.first;
            later = rest.later;
            split = ap (λ es. entry ∷ es) rest.split;
            passes =
                rest.passes;
          }
    ]

part_passes : (p : List Entry → Bool) (first later : List Entry) → p first ≡ true →
    list_any p (first_parts (first ++ later)) ≡ true
part_passes p [] [] passes = or_left (p []) false passes
part_passes p [] (entry ∷ entries) passes = or_left (p []) _ passes
part_passes p (entry ∷ first) later passes =
    or_right (p []) _ (any_map p (λ part. entry ∷ part) (first_parts (first ++ later)) ∙ part_passes
    (λ part. p (entry ∷ part)) first later passes)

pub none_is : {A : Type 0} (found : Option A) → is_none found ≡ true → found ≡ None
none_is None none = refl
none_is (Some x) none = absurd (false≢true none)

-- where some secret fact of a board is allowed, its hands are
pub sees_from_allowed : (state : SessionState) (user : List ℕ) (board : ℕ) → SomeAllowed state user board →
    sees_hands state user board ≡ true
sees_from_allowed state user board some = ap is_none (hands_allowed state.public (viewer_of state user) some.fact board
    some.of_board some.allowed)

-- the test says who is exposed
pub exposed_decides : (opening : SessionState) (journal : List Entry) (user : List ℕ) (board : ℕ) →
    Decides (is_exposed opening journal user board) (Exposed opening journal user board)
unfolding is_exposed
exposed_decides opening journal user board = (meaning, test)
  where
    meaning : is_exposed opening journal user board ≡ true → Exposed opening journal user board
    meaning some =
        let part = some_part (λ part. sees_hands (replay opening part) user board) journal some in
        record {
          first = part.first;
          later = part.later;
          split = part.split;
          shown = record { fact = Hands board; of_board = refl; allowed = none_is _ part.passes };
        }

    test : Exposed opening journal user board → is_exposed opening journal user board ≡ true
    test exposed =
        ap (λ entries. list_any (λ part. sees_hands (replay opening part) user board) (first_parts entries))
        exposed.split
        ∙ part_passes (λ part. sees_hands (replay opening part) user board) exposed.first exposed.later
        (sees_from_allowed (replay opening exposed.first) user board exposed.shown)

parts_more : (journal : List Entry) (entry : Entry) → first_parts (journal ++ entry ∷ []) ≡ first_parts journal
    ++ (journal ++ entry ∷ []) ∷ []
parts_more [] entry = refl
parts_more (e ∷ es) entry =
    ap (λ parts. [] ∷ map (λ part. e ∷ part) parts) (parts_more es entry)
    ∙ ap (λ parts. [] ∷ parts) (map-append (λ part. e ∷ part) (first_parts es) ((es ++ entry ∷ []) ∷ []))

pub or_none : (b : Bool) → (b || false) ≡ b
or_none true = refl
or_none false = refl

-- one entry more exposes to what the user sees then
pub exposed_more : (opening : SessionState) (journal : List Entry) (entry : Entry) (user : List ℕ) (board : ℕ) →
    is_exposed opening (journal ++ entry ∷ []) user board ≡ (is_exposed opening journal user board || sees_hands
    (replay opening (journal ++ entry ∷ [])) user board)
unfolding is_exposed
exposed_more opening journal entry user board =
    let seen : List Entry → Bool = λ part. sees_hands (replay opening part) user board in
    ap (list_any seen) (parts_more journal entry)
    ∙ list_any-append seen (first_parts journal) ((journal ++ entry ∷ []) ∷ [])
    ∙ ap (λ b. list_any seen (first_parts journal) || b) (or_none (seen (journal ++ entry ∷ [])))

-- the empty journal exposes to what the user sees at the opening
pub exposed_at_opening : (opening : SessionState) (user : List ℕ) (board : ℕ) → is_exposed opening [] user board ≡
    sees_hands opening user board
unfolding is_exposed replay
exposed_at_opening opening user board = or_none (sees_hands opening user board)

-- who sees the hands now is exposed
pub exposed_now : (opening : SessionState) (journal : List Entry) (user : List ℕ) (board : ℕ) →
    sees_hands (replay opening journal) user board ≡ true → is_exposed opening journal user board ≡ true
exposed_now opening journal user board sees =
    (exposed_decides opening journal user board).1 (record {
      first = journal;
      later = [];
      split = sym (nothing_more journal);
      shown = record { fact = Hands board; of_board = refl; allowed = none_is _ sees };
    })
  where
    nothing_more : (xs : List Entry) → xs ++ [] ≡ xs
    nothing_more [] = refl
    nothing_more (x ∷ xs) = ap (λ ys. x ∷ ys) (nothing_more xs)
