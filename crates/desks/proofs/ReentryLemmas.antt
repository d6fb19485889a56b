-- Publications that are entered again.
use Rattle.std.proofs.Common.{
  ◌≡◌,
  ◌⊎◌,
  inl,
  inr,
  ℕ,
  ◌+◌,
  true,
  false,
  take,
  drop,
  get_or,
  ◌<◌,
  List,
  [],
  ◌∷◌,
  ◌++◌,
  length,
  refl,
  ap,
  sym,
  subst,
  ◌∙◌,
  append_assoc,
  append-nil,
  arith,
}
use Rattle.std.specs.Prelude.{None, Some}
use Rattle.std.proofs.lemmas.List.{take_more, take-append-drop}
use Rattle.session_commands.specs.Refusal.{is_out_of_memory}
use Rattle.session_commands.specs.declared.refusal.Refusal.TheVariants as cause_is
use Rattle.session_state.specs.SessionState.{SessionState}
use Rattle.session_commands.specs.declared.entry.Entry.{Entry}
use Rattle.session_commands.specs.declared.refusal.Refusal.{Refusal}
use Rattle.session_book.specs.Journal.{Follow, MayFollow, refusal_after}
use Rattle.history.specs.Prefixes.{entries_of}
use Rattle.displays.specs.Copies.{IsPublished, NoneEmpty}
use Rattle.desks.specs.Reentry.{IsRefusedAfter, IsReentryFault}
use Rattle.desks.specs.declared.reentry.ReentryFault.{ReentryFault}
use Rattle.desks.specs.declared.reentry.ReentryFault.TheVariants.{Refused, Empty, OutOfMemory}

-- of entries that follow a journal, the first follow it, and the others follow those
pub follow_split : (opening : SessionState) (before first later : List Entry) → Follow opening before (first ++ later) →
    Follow opening before first × Follow opening (before ++ first) later
follow_split opening before [] later follow = (
  tt,
  subst (λ (l : List Entry). Follow opening l later) (sym (append-nil before)) follow,
)
follow_split opening before (entry ∷ first) later follow =
    let (some, rest) = follow_split opening (before ++ entry ∷ []) first later follow.1 in (
      (follow.0, some),
      subst (λ (l : List Entry). Follow opening l later) (append_assoc before (entry ∷ []) first) rest,
    )

-- none of entries that follow a journal is refused where it stands
pub none_refused : (opening : SessionState) (before entries : List Entry) (cause : Refusal) (journal : List Entry) →
    IsRefusedAfter opening before entries cause journal → Follow opening before entries → ⊥
none_refused opening before entries cause journal r follow =
    let split = subst (Follow opening before) r.split follow in
    let may : MayFollow opening (before ++ r.entered) r.entry =
    (follow_split opening before r.entered (r.entry ∷ r.later) split).1.0 in
    let here : refusal_after opening journal r.entry.actor r.entry.command ≡ None =
    subst (λ (l : List Entry). MayFollow opening l r.entry) (sym r.joined) may in
    absurd (cc (here, r.refused))

pub entries_of_append : (bs cs : List (List Entry)) → entries_of (bs ++ cs) ≡ entries_of bs ++ entries_of cs
entries_of_append [] cs = refl
entries_of_append (b ∷ bs) cs =
    ap (λ (l : List Entry). b ++ l) (entries_of_append bs cs) ∙ sym (append_assoc b (entries_of bs) (entries_of cs))

has_entry : (bs : List (List Entry)) (b : List Entry) (cs : List (List Entry)) → NoneEmpty (bs ++ b ∷ cs) → 0 < length b
has_entry [] b cs all = all.0
has_entry (c ∷ bs) b cs all = has_entry bs b cs all.1

-- each of some publications has an entry, and follows those before it
pub published_at : (opening : SessionState) (bs : List (List Entry)) (b : List Entry) (cs : List (List Entry)) →
    IsPublished opening (bs ++ b ∷ cs) → (0 < length b) × Follow opening (entries_of bs) b
published_at opening bs b cs p =
    let accepted = subst (Follow opening []) (entries_of_append bs (b ∷ cs)) p.accepted in
    let here = (follow_split opening [] (entries_of bs) (b ++ entries_of cs) accepted).1 in (
      has_entry bs b cs p.none_empty,
      (follow_split opening (entries_of bs) b (entries_of cs) here).0,
    )

-- what is refused among some entries is refused among more of them
pub refused_inside : (opening : SessionState) (before first middle later entries : List Entry) (cause : Refusal)
    (journal : List Entry) → entries ≡ first ++ (middle ++ later) →
    IsRefusedAfter opening (before ++ first) middle cause journal →
    IsRefusedAfter opening before entries cause journal
refused_inside opening before first middle later entries cause journal all r = record {
  entered = first ++ r.entered;
  entry = r.entry;
  later = r.later ++ later;
  split =
      all
      ∙ (ap (λ (l : List Entry). first ++ (l ++ later)) r.split
      ∙ (ap (λ (l : List Entry). first ++ l) (append_assoc r.entered (r.entry ∷ r.later) later)
      ∙ sym (append_assoc first r.entered (r.entry ∷ (r.later ++ later)))));
  joined = r.joined ∙ append_assoc before first r.entered;
  refused = r.refused;
}

pub fault_inside : (fault : ReentryFault) (opening : SessionState) (before first : List Entry) (entry : Entry)
    (later entries journal : List Entry) → entries ≡ first ++ entry ∷ later →
    IsReentryFault fault opening (before ++ first) (entry ∷ []) journal →
    IsReentryFault fault opening before entries journal
fault_inside (Refused cause) opening before first entry later entries journal all r =
    refused_inside opening before first (entry ∷ []) later entries cause journal all r
fault_inside Empty opening before first entry later entries journal all is = absurd (cc is)
fault_inside OutOfMemory opening before first entry later entries journal all _ = tt

-- an entry is refused right after a journal
pub refused_here : (opening : SessionState) (before : List Entry) (entry : Entry) (cause : Refusal)
    (journal : List Entry) → journal ≡ before →
    refusal_after opening before entry.actor entry.command ≡ Some cause →
    IsRefusedAfter opening before (entry ∷ []) cause journal
refused_here opening before entry cause journal same refused = record {
  entered = [];
  entry = entry;
  later = [];
  split = refl;
  joined = same ∙ sym (append-nil before);
  refused = subst (λ (l : List Entry). refusal_after opening l entry.actor entry.command ≡ Some cause) (sym same) refused;
}

-- what a book's refusal of an entry is told as
pub fault_here : (fault : ReentryFault) (cause : Refusal) (opening : SessionState) (before : List Entry) (entry : Entry)
    (journal : List Entry) → (fault ≡ OutOfMemory) ⊎ ((fault ≡ Refused cause) × (is_out_of_memory cause ≡ false)) →
    journal ≡ before →
    (refusal_after opening before entry.actor entry.command ≡ Some cause) ⊎
    ((cause ≡ cause_is.OutOfMemory) × (refusal_after opening before entry.actor entry.command ≡ None)) →
    IsReentryFault fault opening before (entry ∷ []) journal
fault_here fault cause opening before entry journal (inl is) same why =
    subst (λ (f : ReentryFault). IsReentryFault f opening before (entry ∷ []) journal) (sym is) tt
fault_here fault cause opening before entry journal (inr (is, not)) same (inl refused) =
    subst (λ (f : ReentryFault). IsReentryFault f opening before (entry ∷ []) journal) (sym is)
    (refused_here opening before entry cause journal same refused)
fault_here fault cause opening before entry journal (inr (is, not)) same (inr (memory, none)) =
    let yes : is_out_of_memory cause ≡ true = ap is_out_of_memory memory in
    absurd (cc (yes, not))

-- a list, up to one of its items and from there on
pub split_at : {A : Type 0} (xs : List A) (i : ℕ) (x : A) → i < length xs → x ≡ get_or xs i x →
    xs ≡ take i xs ++ x ∷ drop (i + 1) xs
split_at xs i x low is =
    sym (take-append-drop (i + 1) xs)
    ∙ (ap (λ l. l ++ drop (i + 1) xs) (take_more xs i x low)
    ∙ (append_assoc (take i xs) (get_or xs i x ∷ []) (drop (i + 1) xs)
    ∙ ap (λ y. take i xs ++ y ∷ drop (i + 1) xs) (sym is)))

-- entries that follow a journal are entered again, where there are any, but for want of memory
pub only_memory : (fault : ReentryFault) (opening : SessionState) (before entries journal : List Entry) →
    IsReentryFault fault opening before entries journal → 0 < length entries → Follow opening before entries →
    fault ≡ OutOfMemory
only_memory (Refused cause) opening before entries journal r some follow =
    absurd (none_refused opening before entries cause journal r follow)
only_memory Empty opening before entries journal is some follow =
    absurd (omega (arith, some, ap (λ (l : List Entry). length l) is))
only_memory OutOfMemory opening before entries journal _ some follow = refl

-- of publications that are entered again one after another: those that were, the one that isn't, and those behind it
module _ (opening : SessionState) (old all before : List (List Entry)) (b : List Entry) (cs now : List (List Entry))
    (start journal : List Entry) where
  -- where the session may have had them all, the one that isn't has an entry, and follows those before it
  pub may_be_next : all ≡ before ++ b ∷ cs → now ≡ old ++ before → entries_of now ≡ journal →
      IsPublished opening (old ++ all) → (0 < length b) × Follow opening journal b
  may_be_next split shown is p =
      let here : IsPublished opening ((old ++ before) ++ b ∷ cs) =
      subst (IsPublished opening)
      (ap (λ (l : List (List Entry)). old ++ l) split ∙ sym (append_assoc old before (b ∷ cs))) p in
      let next = published_at opening (old ++ before) b cs here in (
        next.0,
        subst (λ (l : List Entry). Follow opening l b)
            (ap (λ (l : List (List Entry)). entries_of l) (sym shown) ∙ is) next.1,
      )

  -- what it is refused for is told of them all
  pub refused_next : (cause : Refusal) (end : List Entry) → all ≡ before ++ b ∷ cs → now ≡ old ++ before →
      entries_of now ≡ journal → entries_of old ≡ start → IsRefusedAfter opening journal b cause end →
      IsRefusedAfter opening start (entries_of all) cause end
  refused_next cause end split shown is starts r =
      let here : journal ≡ start ++ entries_of before =
      sym is ∙ (ap (λ (l : List (List Entry)). entries_of l) shown ∙ (entries_of_append old before
      ∙ ap (λ (l : List Entry). l ++ entries_of before) starts)) in
      refused_inside opening start (entries_of before) b (entries_of cs) (entries_of all) cause end
      (ap (λ (l : List (List Entry)). entries_of l) split ∙ entries_of_append before (b ∷ cs))
      (subst (λ (l : List Entry). IsRefusedAfter opening l b cause end) here r)
