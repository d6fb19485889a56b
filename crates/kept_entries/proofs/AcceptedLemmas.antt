-- What is accepted is read of its texts.
use Rattle.std.proofs.Common.{slice_get, ◌≡◌, ◌≢◌, ◌≤◌, ◌<◌, ◌⊎◌, inl, inr, ℕ, zero, suc, Bool, true, false, Option, Some, None, List, [], ◌∷◌, length, map, get_or, All, refl, sym, ap, subst, ◌∙◌, arith}
use Rattle.std.specs.Prelude.{nat_le}
use Rattle.std.specs.Option.{option_or}
use Rattle.std.proofs.lemmas.Bool.{and_parts}
use Rattle.std.proofs.lemmas.List.{length-map}
use Rattle.table_terms.specs.declared.pair.Pair.{Pair}
use Rattle.movement.specs.Movement.{Section, is_pair_of}
use Rattle.session_commands.specs.declared.actor.Actor.{Actor}
use Rattle.session_commands.specs.declared.actor.Actor.TheVariants.{User, Solver}
use Rattle.session_commands.specs.declared.command.Command.{Command}
use Rattle.session_commands.specs.declared.command.Command.TheVariants as command
use Rattle.session_commands.specs.declared.entry.Entry.{Entry}
use Rattle.session_commands.specs.declared.refusal.Refusal.{Refusal}
use Rattle.session_commands.specs.declared.refusal.Refusal.TheVariants.{NotPermitted}
use Rattle.session_state.specs.Refusal.{first_cause, is_permitted, hindrance_of, refusal_of}
use Rattle.session_state.specs.SessionState.{SessionState}
use Rattle.session_state.proofs.SeatCauseLemmas.{seats_at_a_pair}
use Rattle.session_state.proofs.RefusalLemmas.{refused_actor, refused_else, last_causes}
use Rattle.session_book.specs.Exposure.{spoiler_of}
use Rattle.session_book.specs.Journal.{replay, MayFollow, IsAccepted, refusal_after}
use Rattle.session_book.proofs.JournalLemmas.{accepted_at, accepted_length}
use Rattle.history.specs.Prefixes.{entries_of}
use Rattle.entry_texts.specs.EntryTexts.{texts_of_entry}
use Rattle.entry_texts.specs.Kept.{IsReadable}
use Rattle.journal_store.specs.declared.row_text.RowText.{RowText}
use Rattle.journal_store.specs.Tables.{RowBytes}
use Rattle.journal_store.specs.Kept.{texts_of, most_entry_rows}
use Rattle.kept_entries.specs.KeptRows.{AreCounted, AreKeepable, rows_of}
use Rattle.kept_entries.specs.RowTexts.{AreOf, AreReadable, IsNoEntry, IsReadingWant, row_numbered, WhyNotRead, told_by}
use Rattle.kept_entries.specs.declared.read_fault.RowFault.{RowFault}
use Rattle.kept_entries.specs.declared.read_fault.RowFault.TheVariants.{OutOfMemory, Misnumbered, Unreadable, Unsolved}
use Rattle.kept_entries.proofs.GroupLemmas.{rows_counted}
use Rattle.kept_entries.proofs.ReadLemmas.{are_of, entry_at, at_numbered}

first_none : (cause rest : Option Refusal) → option_or cause rest ≡ None → cause ≡ None
first_none None rest none = refl
first_none (Some cause) rest none = absurd cc

-- what nothing refuses is permitted, and the state doesn't hinder it
record IsFree (state : SessionState) (actor : Actor) (command : Command) : Type 0 where
  permitted : is_permitted state.roles actor command ≡ true
  unhindered : hindrance_of state command ≡ None

free : (state : SessionState) (spoiler : Option (List ℕ)) (actor : Actor) (command : Command) (entries : ℕ)
    → refusal_of state spoiler actor command entries ≡ None → IsFree state actor command
free state spoiler actor command entries none = by_permission (is_permitted state.roles actor command) refl
  where
    by_permission : (b : Bool) → is_permitted state.roles actor command ≡ b → IsFree state actor command
    by_permission true allowed = record {
      permitted = allowed;
      unhindered = first_none (hindrance_of state command) (first_cause (last_causes spoiler command entries))
          (sym (refused_else state spoiler actor command entries allowed) ∙ none);
    }
    by_permission false denied =
        let refused : Some NotPermitted ≡ None = sym (refused_actor state spoiler actor command entries denied)
        ∙ none in
        absurd cc

from_one : (n : ℕ) → nat_le 1 n ≡ true → 1 ≤ n
from_one zero is = absurd cc
from_one (suc n) is = omega arith

-- a pair of the movement has a number from 1
pair_from_one : (section : Section) (pair : Pair) → is_pair_of section pair ≡ true → 1 ≤ pair.number
pair_from_one section pair is =
    from_one pair.number (and_parts _ _ is).0

not_own : false ≡ true → ⊥
not_own is = cc

-- who gives a command may, and nothing hinders it: then its texts are read
free_readable : (state : SessionState) (actor : Actor) (c : Command) → IsFree state actor c → IsReadable actor c
free_readable state actor (command.Solved board table) is = tt
free_readable state actor (command.Analysed cell costs) is = tt
free_readable state (User giver) (command.Seat name pair place) is =
    pair_from_one state.public.movement pair (seats_at_a_pair state name pair place is.unhindered)
free_readable state (User giver) _ is = tt
free_readable state Solver _ is = absurd (not_own is.permitted)

pub entry_readable : (opening : SessionState) (before : List Entry) (entry : Entry) → MayFollow opening before entry
    → IsReadable entry.actor entry.command
unfolding refusal_after
entry_readable opening before entry may =
    free_readable (replay opening before) entry.actor entry.command
    (free (replay opening before) (spoiler_of opening before entry.command) entry.actor entry.command (length before)
    may)

pub journal_readable : (opening : SessionState) (journal : List Entry) → IsAccepted opening journal
    → AreReadable journal
journal_readable opening journal accepted = λ k d low.
    entry_readable opening _ (get_or journal k d) (accepted_at opening journal k d low accepted)

-- the row of a number is that of the entry, which can be accepted
entry_there : (rows : List RowText) (entries : List Entry) (place : ℕ) (row : RowText) → AreOf rows entries
    → AreReadable entries → slice_get rows place ≡ Some row → IsNoEntry row → ⊥
entry_there rows entries place row of readable is none =
    let at = at_numbered rows place row is in
    let it = entry_at rows entries place of at.0 in
    none it.entry it.keepable
    (subst (λ (e : Entry). IsReadable e.actor e.command) (it.at it.entry) (readable place it.entry it.within))
    (ap told_by (sym (at.1 row)) ∙ it.told row)

named_there : (rows : List RowText) (entries : List Entry) (number : ℕ) (row : RowText) → AreOf rows entries
    → AreReadable entries → row_numbered rows number ≡ Some row → IsNoEntry row → ⊥
named_there rows entries zero row of readable is none = cc
named_there rows entries (suc place) row of readable is none = entry_there rows entries place row of readable is none

few_rows : (opening : SessionState) (rows : List RowText) (entries : List Entry) → AreOf rows entries
    → IsAccepted opening entries → length rows ≤ most_entry_rows
few_rows opening rows entries of accepted =
    let lengths : length rows ≡ length entries = sym (length-map rows told_by) ∙ ap length of.texts
    ∙ length-map entries texts_of_entry in
    omega (arith, lengths, accepted_length opening entries accepted)

-- rows of publications whose entries are an accepted journal are refused for want of memory or visits
pub accepted_read : (opening : SessionState) (rows : List RowText) (published : List (List Entry)) (fault : RowFault)
    → AreKeepable published → IsAccepted opening (entries_of published) → map texts_of rows ≡ rows_of published
    → WhyNotRead rows fault → IsReadingWant fault
accepted_read opening rows published OutOfMemory keepable accepted same why = tt
accepted_read opening rows published (Unsolved number) keepable accepted same why = tt
accepted_read opening rows published Misnumbered keepable accepted same why =
    let of = are_of rows published keepable same in
    let few = few_rows opening rows (entries_of published) of accepted in
    elim why [
      | inl many ↦ omega (arith, few, many)
      | inr uncounted ↦ uncounted (subst (AreCounted 0) (sym same) (rows_counted published keepable))
    ]
accepted_read opening rows published (Unreadable number) keepable accepted same why =
    named_there rows (entries_of published) number why.0 (are_of rows published keepable same)
    (journal_readable opening (entries_of published) accepted) why.1 why.2

-- of the rows of such publications none is of another number
pub grouped_want : (texts : List RowBytes) (published : List (List Entry)) (fault : RowFault) → AreKeepable published
    → texts ≡ rows_of published → (fault ≡ OutOfMemory) ⊎ ((fault ≡ Misnumbered) × (¬ AreCounted 0 texts))
    → IsReadingWant fault
grouped_want texts published fault keepable same why = elim why [
  | inl is ↦ subst IsReadingWant (sym is) tt
  | inr is ↦ absurd (is.1 (subst (AreCounted 0) (sym same) (rows_counted published keepable)))
]
