-- The solver's numbers are of the session's own deals.
use Rattle.std.proofs.Common.{◌≡◌, ℕ, Bool, true, false, List, [], ◌∷◌, ◌++◌, length, refl, sym, ◌∙◌, subst}
use Rattle.std.specs.Prelude.{Option, Some, None}
use Rattle.std.specs.List.{fold}
use Rattle.std.specs.Option.{option_or}
use Rattle.movement.specs.Movement.{IsSection}
use Rattle.session_state.specs.Apply.{apply}
use Rattle.session_state.specs.OwnNumbers.{TellsOwn, KeepsOwn}
use Rattle.session_state.specs.Refusal.{first_cause, is_permitted, hindrance_of, refusal_of}
use Rattle.session_state.specs.SessionState.{SessionState}
use Rattle.session_commands.specs.declared.actor.Actor.{Actor}
use Rattle.session_commands.specs.declared.command.Command.{Command}
use Rattle.session_commands.specs.declared.entry.Entry.{Entry}
use Rattle.session_commands.specs.declared.refusal.Refusal.{Refusal}
use Rattle.session_commands.specs.declared.refusal.Refusal.TheVariants.{NotPermitted}
use Rattle.session_state.proofs.OwnNumberLemmas.{told_own, entry_keeps}
use Rattle.session_state.proofs.PartLemmas.{entry_part}
use Rattle.session_state.proofs.RefusalLemmas.{refused_actor, refused_else, last_causes}
use Rattle.session_book.specs.Exposure.{spoiler_of}
use Rattle.session_book.specs.Journal.{replay, MayFollow, IsAccepted, refusal_after}
use Rattle.session_book.proofs.SpoilerLemmas.{follows}

first_none : (cause rest : Option Refusal) → option_or cause rest ≡ None → cause ≡ None
first_none None rest none = refl
first_none (Some cause) rest none = absurd cc

-- what nothing refuses, the state doesn't hinder
free_of_hindrance : (state : SessionState) (spoiler : Option (List ℕ)) (actor : Actor) (command : Command)
    (entries : ℕ) → refusal_of state spoiler actor command entries ≡ None →
    hindrance_of state command ≡ None
free_of_hindrance state spoiler actor command entries none = by_permission (is_permitted state.roles actor command) refl
  where
    by_permission : (b : Bool) → is_permitted state.roles actor command ≡ b → hindrance_of state command ≡ None
    by_permission true allowed =
        first_none (hindrance_of state command) (first_cause (last_causes spoiler command entries))
        (sym (refused_else state spoiler actor command entries allowed) ∙ none)
    by_permission false denied =
        let refused : Some NotPermitted ≡ None = sym (refused_actor state spoiler actor command entries denied)
        ∙ none in
        absurd cc

may_tell : (opening : SessionState) (before : List Entry) (entry : Entry) → MayFollow opening before entry →
    TellsOwn (replay opening before) entry.command
unfolding refusal_after
may_tell opening before entry may =
    told_own (replay opening before) entry.command
    (free_of_hindrance (replay opening before) (spoiler_of opening before entry.command) entry.actor entry.command
    (length before) may)

-- what an accepted journal tells is of its own
pub accepted_own : (opening : SessionState) (before after : List Entry) (entry : Entry) → IsAccepted opening
    (before ++ entry ∷ after) → TellsOwn (replay opening before) entry.command
accepted_own opening before after entry accepted = may_tell opening before entry
    (follows opening [] before entry after accepted)

-- no entry changes a hand
pub deals_kept : (opening : SessionState) (journal : List Entry) → (replay opening journal).deals ≡ opening.deals
unfolding replay
deals_kept opening journal = by_entries opening journal
  where
    by_entries : (state : SessionState) (entries : List Entry) → (fold apply state entries).deals ≡ state.deals
    by_entries state [] = refl
    by_entries state (entry ∷ entries) = by_entries (apply state entry) entries ∙ (entry_part state entry).deals

-- nor what the session tells of itself
pub notices_kept : (opening : SessionState) (journal : List Entry) → (replay opening journal).notices ≡ opening.notices
unfolding replay
notices_kept opening journal = by_entries opening journal
  where
    by_entries : (state : SessionState) (entries : List Entry) → (fold apply state entries).notices ≡ state.notices
    by_entries state [] = refl
    by_entries state (entry ∷ entries) = by_entries (apply state entry) entries ∙ (entry_part state entry).notices

still_own : (state : SessionState) (entries : List Entry) → IsSection state.public.movement → KeepsOwn state →
    KeepsOwn (fold apply state entries)
still_own state [] is_section keeps = keeps
still_own state (entry ∷ entries) is_section keeps =
    still_own (apply state entry) entries (subst IsSection (sym (entry_part state entry).movement) is_section)
    (entry_keeps state entry is_section keeps)

-- what is kept of a session is of its own
pub all_kept : (opening : SessionState) (journal : List Entry) → IsSection opening.public.movement → KeepsOwn opening →
    KeepsOwn (replay opening journal)
unfolding replay
all_kept opening journal is_section keeps = still_own opening journal is_section keeps
