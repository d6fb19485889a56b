-- A journal of one entry more.
use Rattle.std.proofs.Common.{
  zero,
  suc,
  take,
  get_or,
  append-nil,
  ◌≡◌,
  ℕ,
  ◌≤◌,
  ◌<◌,
  List,
  [],
  ◌∷◌,
  ◌++◌,
  length,
  refl,
  sym,
  ap,
  subst,
  append_assoc,
  length-append,
  arith,
}
use Rattle.std.specs.Prelude.{None}
use Rattle.std.proofs.lemmas.List.Sums.{fold-append}
use Rattle.session_commands.specs.declared.entry.Entry.{Entry}
use Rattle.session_state.specs.Apply.{apply}
use Rattle.session_book.specs.Exposure.{spoiler_of}
use Rattle.session_book.specs.Journal.{replay, MayFollow, Follow, IsAccepted, refusal_after}
use Rattle.session_state.specs.Refusal.{most_entries}
use Rattle.session_state.specs.SessionState.{SessionState}
use Rattle.session_commands.specs.declared.actor.Actor.{Actor}
use Rattle.session_commands.specs.declared.command.Command.{Command}
use Rattle.session_state.proofs.RefusalLemmas.{room_left}

-- one entry more does to the state what the entry does
pub replayed_more : (opening : SessionState) (journal : List Entry) (entry : Entry) → replay opening
    (journal ++ entry ∷ []) ≡ apply (replay opening journal) entry
unfolding replay
replayed_more opening journal entry = fold-append apply opening journal (entry ∷ [])

follow_more : (opening : SessionState) (before entries : List Entry) (entry : Entry) → Follow opening before entries →
    MayFollow opening (before ++ entries) entry →
    Follow opening before (entries ++ entry ∷ [])
follow_more opening before [] entry follow may = (
  subst (λ journal. MayFollow opening journal entry) (none before) may,
  tt,
)
  where
    none : (xs : List Entry) → xs ++ [] ≡ xs
    none [] = refl
    none (x ∷ xs) = ap (λ ys. x ∷ ys) (none xs)
follow_more opening before (first ∷ entries) entry follow may = (
  follow.0,
  follow_more opening (before ++ first ∷ []) entries entry follow.1
      (subst (λ journal. MayFollow opening journal entry) (sym (append_assoc before (first ∷ []) entries)) may),
)

-- an entry that may follow keeps the journal accepted
pub accepted_more : (opening : SessionState) (journal : List Entry) (entry : Entry) → IsAccepted opening journal →
    MayFollow opening journal entry → IsAccepted opening (journal ++ entry ∷ [])
accepted_more opening journal entry accepted may = follow_more opening [] journal entry accepted may

room_after : (opening : SessionState) (journal : List Entry) (actor : Actor) (command : Command) → refusal_after opening
    journal actor command ≡ None → length journal < most_entries
unfolding refusal_after
room_after opening journal actor command none = room_left (replay opening journal) (spoiler_of opening journal command)
    actor command (length journal) none

follow_length : (opening : SessionState) (before entries : List Entry) → Follow opening before entries →
    length before ≤ most_entries → length (before ++ entries) ≤ most_entries
follow_length opening before [] follow few = omega (arith, length-append before [])
follow_length opening before (entry ∷ entries) follow few =
    let below = room_after opening before entry.actor entry.command follow.0 in
    subst (λ journal. length journal ≤ most_entries) (append_assoc before (entry ∷ []) entries)
    (follow_length opening (before ++ entry ∷ []) entries follow.1 (omega (arith, length-append before (entry ∷ []))))

follow_first : (opening : SessionState) (before entries : List Entry) (n : ℕ) → Follow opening before entries →
    Follow opening before (take n entries)
follow_first opening before entries zero follow = tt
follow_first opening before [] (suc n) follow = tt
follow_first opening before (entry ∷ entries) (suc n) follow = (
  follow.0,
  follow_first opening (before ++ entry ∷ []) entries n follow.1,
)

-- the first part of an accepted journal is accepted
pub accepted_first : (opening : SessionState) (journal : List Entry) (n : ℕ) → IsAccepted opening journal →
    IsAccepted opening (take n journal)
accepted_first opening journal n accepted = follow_first opening [] journal n accepted

-- an accepted journal is no longer than the limit
pub accepted_length : (opening : SessionState) (journal : List Entry) → IsAccepted opening journal →
    length journal ≤ most_entries
accepted_length opening journal accepted = follow_length opening [] journal accepted (omega arith)

follow_at : (opening : SessionState) (before entries : List Entry) (k : ℕ) (d : Entry) → k < length entries → Follow opening before entries →
    MayFollow opening (before ++ take k entries) (get_or entries k d)
follow_at opening before [] k d low follow = absurd (omega (arith, low))
follow_at opening before (entry ∷ entries) zero d low follow = subst (λ journal. MayFollow opening journal entry) (sym (append-nil before)) follow.0
follow_at opening before (entry ∷ entries) (suc k) d low follow =
    subst (λ journal. MayFollow opening journal (get_or entries k d)) (append_assoc before (entry ∷ []) (take k entries))
    (follow_at opening (before ++ entry ∷ []) entries k d (omega (arith, low)) follow.1)

-- each entry of an accepted journal may follow those before it
pub accepted_at : (opening : SessionState) (journal : List Entry) (k : ℕ) (d : Entry) → k < length journal → IsAccepted opening journal →
    MayFollow opening (take k journal) (get_or journal k d)
accepted_at opening journal k d low accepted = follow_at opening [] journal k d low accepted
