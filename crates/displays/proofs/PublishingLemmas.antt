-- What publications mean, one after another.
use Rattle.std.proofs.Common.{
  ◌≡◌,
  ℕ,
  ◌+◌,
  ◌≤◌,
  ◌<◌,
  List,
  [],
  ◌∷◌,
  ◌++◌,
  length,
  fold,
  refl,
  ap,
  sym,
  subst,
  ◌∙◌,
  arith,
  append_assoc,
  append-nil,
  length-append,
}
use Rattle.std.specs.Prelude.{Bool, true, false, if◌then◌else◌}
use Rattle.std.proofs.lemmas.List.Sums.{fold-append}
use Rattle.logbook.specs.Pages.{Book}
use Rattle.session_commands.specs.declared.entry.Entry.{Entry}
use Rattle.session_book.specs.Journal.{IsAccepted, MayFollow}
use Rattle.session_book.proofs.JournalLemmas.{accepted_length, accepted_more}
use Rattle.history.specs.Prefixes.{prefix_in, entries_of}
use Rattle.published_view.specs.View.{Seen, StandsFor, seen_after}
use Rattle.published_view.proofs.StandingLemmas.{stands_fold}
use Rattle.session_state.specs.SessionState.{SessionState}
use Rattle.session_state.specs.Refusal.{most_entries}
use Rattle.displays.specs.Copies.{Copied, Addition, NoneEmpty, IsPublished, ShowsPublished, with_addition, addition}

pub entries_of_more : (bs : List (List Entry)) (b : List Entry) → entries_of (bs ++ b ∷ []) ≡ entries_of bs ++ b
entries_of_more [] b = append-nil b
entries_of_more (c ∷ bs) b = ap (λ (l : List Entry). c ++ l) (entries_of_more bs b)
    ∙ sym (append_assoc c (entries_of bs) b)

none_empty_more : (bs : List (List Entry)) (b : List Entry) → NoneEmpty bs → 0 < length b → NoneEmpty (bs ++ b ∷ [])
none_empty_more [] b all some = (some, tt)
none_empty_more (c ∷ bs) b all some = (all.0, none_empty_more bs b all.1 some)

pub none_empty_length : (bs : List (List Entry)) → NoneEmpty bs → length bs ≤ length (entries_of bs)
none_empty_length [] all = omega arith
none_empty_length (c ∷ bs) all = let rest = none_empty_length bs all.1 in omega (
  arith,
  length-append c (entries_of bs),
  all.0,
  rest,
)

-- there are no more publications than entries, and no more entries than a journal may have
pub few_publications : (opening : SessionState) (bs : List (List Entry)) → IsPublished opening bs →
    length bs ≤ most_entries
few_publications opening bs p =
    let a = none_empty_length bs p.none_empty in
    let b = accepted_length opening (entries_of bs) p.accepted in
    omega (arith, a, b)

-- an entry that is appended may follow
pub append_accepted : (opening : SessionState) (bs : List (List Entry)) (more : List Entry) (e : Entry) →
    IsAccepted opening (entries_of bs ++ more) → MayFollow opening (entries_of bs ++ more) e → IsAccepted opening
    (entries_of bs ++ (more ++ e ∷ []))
append_accepted opening bs more e a may = subst (IsAccepted opening) (append_assoc (entries_of bs) more (e ∷ []))
    (accepted_more opening (entries_of bs ++ more) e a may)

-- what is pending, once it is published
pub published_more : (opening : SessionState) (bs : List (List Entry)) (more : List Entry) → IsPublished opening bs →
    IsAccepted opening (entries_of bs ++ more) → 0 < length more → IsPublished opening (bs ++ more ∷ [])
published_more opening bs more p a some = record {
  accepted = subst (IsAccepted opening) (sym (entries_of_more bs more)) a;
  none_empty = none_empty_more bs more p.none_empty some;
}

-- the copy after the op of a publication
pub after_op : (x : Copied) (ops : List Addition) (op : Addition) → (fold with_addition x ops).shown ≡ x.shown →
    fold with_addition x (ops ++ op ∷ []) ≡ with_addition x op
after_op x ops op idle = fold-append with_addition x ops (op ∷ [])
    ∙ ap (λ (v : Seen). record { shown = fold seen_after v op.entries; prefix = op.prefix }) idle

pub kept_more : (opening : SessionState) (history : Book) (x : Copied) (ops : List Addition) (more : List Entry) →
    ShowsPublished opening history x → (fold with_addition x ops).shown ≡ x.shown → IsPublished opening
    (x.prefix.publications ++ more ∷ [])
    → ShowsPublished opening history
    (fold with_addition x (ops ++ addition more (prefix_in history (x.prefix.publications ++ more ∷ [])) ∷ []))
kept_more opening history x ops more k idle p = subst (ShowsPublished opening history)
    (sym (after_op x ops (addition more (prefix_in history (x.prefix.publications ++ more ∷ []))) idle)) record {
      stands = subst (λ (l : List Entry). StandsFor opening l (fold seen_after x.shown more))
          (sym (entries_of_more x.prefix.publications more)) (stands_fold opening (entries_of x.prefix.publications) more
          x.shown k.stands);
      published = p;
      history_is = refl;
    }

-- what is pending stays accepted, whether an entry was appended or not
pub append_kept : (opening : SessionState) (bs : List (List Entry)) (more : List Entry) (e : Entry) (items : List Entry)
    (taken : Bool) → IsAccepted opening (entries_of bs ++ more) → MayFollow opening (entries_of bs ++ more) e →
    items ≡ (if taken then more ++ e ∷ [] else more) → IsAccepted opening (entries_of bs ++ items)
append_kept opening bs more e items true a may is = subst (λ (l : List Entry). IsAccepted opening (entries_of bs ++ l))
    (sym is) (append_accepted opening bs more e a may)
append_kept opening bs more e items false a may is = subst (λ (l : List Entry). IsAccepted opening (entries_of bs ++ l))
    (sym is) a

pub entries_of_length : (bs : List (List Entry)) (more : List Entry) → length (entries_of (bs ++ more ∷ [])) ≡ length
    (entries_of bs) + length more
entries_of_length bs more = ap (λ (l : List Entry). length l) (entries_of_more bs more) ∙ length-append (entries_of bs)
    more
