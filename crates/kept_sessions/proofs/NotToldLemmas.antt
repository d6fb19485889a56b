-- Why entries aren't told.
use Rattle.std.proofs.Common.{
  ◌≡◌,
  ◌⊎◌,
  inl,
  inr,
  ◌∙◌,
  refl,
  sym,
  ap,
  subst,
  ℕ,
  ◌+◌,
  ◌<◌,
  true,
  false,
  List,
  [],
  ◌∷◌,
  ◌++◌,
  length,
  take,
  drop,
  get_or,
  append_assoc,
}
use Rattle.std.specs.Prelude.{None, Some, Result, IfErr}
use Rattle.std.proofs.lemmas.Result.{IfErr-weaker}
use Rattle.std.proofs.lemmas.List.{take_more, take-append-drop}
use Rattle.session_state.specs.SessionState.{SessionState}
use Rattle.session_commands.specs.Refusal.{is_out_of_memory}
use Rattle.session_commands.specs.declared.entry.Entry.{Entry}
use Rattle.session_commands.specs.declared.refusal.Refusal.{Refusal}
use Rattle.session_commands.specs.declared.refusal.Refusal.TheVariants as cause_is
use Rattle.session_book.specs.Journal.{IsAccepted, refusal_after}
use Rattle.kept_sessions.specs.Audited.{WhyNotTold}
use Rattle.kept_sessions.specs.declared.source_fault.KeptSessionFault.{KeptSessionFault}
use Rattle.kept_sessions.specs.declared.source_fault.KeptSessionFault.TheVariants.{OutOfMemory, Unread, Unopened, Journal, NoJournal, NotAccepted, CopyExists, CopyUnwritten}

-- why entries aren't told is why more of them aren't
pub not_told_inside : (opening : SessionState) (first later all : List Entry) (fault : KeptSessionFault)
    → all ≡ first ++ later → WhyNotTold opening first fault → WhyNotTold opening all fault
not_told_inside opening first later all OutOfMemory is why = tt
not_told_inside opening first later all (Unread file fault) is why = absurd why
not_told_inside opening first later all (Unopened fault) is why = absurd why
not_told_inside opening first later all (Journal fault) is why = absurd why
not_told_inside opening first later all NoJournal is why = absurd why
not_told_inside opening first later all (NotAccepted number) is why = record {
  entered = why.entered;
  entry = why.entry;
  later = why.later ++ later;
  split =
      is
      ∙ (ap (λ (l : List Entry). l ++ later) why.split
      ∙ append_assoc why.entered (why.entry ∷ why.later) later);
  counted = why.counted;
  accepted = why.accepted;
  refused = why.refused;
}
not_told_inside opening first later all CopyExists is why = absurd why
not_told_inside opening first later all CopyUnwritten is why = absurd why

-- want of memory says nothing of the entries
pub memory_not_told : {T : Type 0} (opening : SessionState) (entries : List Entry) (result : Result T KeptSessionFault)
    → IfErr result (λ fault. fault ≡ OutOfMemory) → IfErr result (WhyNotTold opening entries)
memory_not_told opening entries result memory =
    IfErr-weaker result _ _ (λ fault is. subst (WhyNotTold opening entries) (sym is) tt) memory

-- what is told of an entry that a book refuses behind its journal
pub fault_here : (fault : KeptSessionFault) (cause : Refusal) (opening : SessionState) (journal : List Entry)
    (entry : Entry) (number : ℕ)
    → (fault ≡ OutOfMemory) ⊎ ((fault ≡ NotAccepted number) × (is_out_of_memory cause ≡ false))
    → number ≡ length journal + 1 → IsAccepted opening journal
    → (refusal_after opening journal entry.actor entry.command ≡ Some cause)
    ⊎ ((cause ≡ cause_is.OutOfMemory) × (refusal_after opening journal entry.actor entry.command ≡ None))
    → WhyNotTold opening (journal ++ entry ∷ []) fault
fault_here fault cause opening journal entry number (inl is) counted accepted why =
    subst (WhyNotTold opening (journal ++ entry ∷ [])) (sym is) tt
fault_here fault cause opening journal entry number (inr (is, not)) counted accepted (inl refused) =
    subst (WhyNotTold opening (journal ++ entry ∷ [])) (sym is) (record {
      entered = journal;
      entry = entry;
      later = [];
      split = refl;
      counted = counted;
      accepted = accepted;
      refused = λ none. absurd (cc (none, refused));
    })
fault_here fault cause opening journal entry number (inr (is, not)) counted accepted (inr (memory, none)) =
    let yes : is_out_of_memory cause ≡ true = ap is_out_of_memory memory in
    absurd (cc (yes, not))

-- entries, up to one of them and from there on
pub split_behind : (before entries : List Entry) (i : ℕ) (entry : Entry) → i < length entries
    → entry ≡ get_or entries i entry
    → before ++ entries ≡ ((before ++ take i entries) ++ entry ∷ []) ++ drop (i + 1) entries
split_behind before entries i entry low is =
    let first : take (i + 1) entries ≡ take i entries ++ entry ∷ [] =
    take_more entries i entry low ∙ ap (λ (e : Entry). take i entries ++ e ∷ []) (sym is) in
    ap (λ (l : List Entry). before ++ l)
    (sym (take-append-drop (i + 1) entries) ∙ ap (λ (l : List Entry). l ++ drop (i + 1) entries) first)
    ∙ (sym (append_assoc before (take i entries ++ entry ∷ []) (drop (i + 1) entries))
    ∙ ap (λ (l : List Entry). l ++ drop (i + 1) entries) (sym (append_assoc before (take i entries) (entry ∷ []))))
