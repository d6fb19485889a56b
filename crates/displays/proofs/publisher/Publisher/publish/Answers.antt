use Rattle.std.proofs.Common.{
  ◌≡◌,
  ◌<◌,
  ◌≤◌,
  ◌+◌,
  ◌++◌,
  ◌∷◌,
  [],
  ℕ,
  length,
  drop,
  fold,
  refl,
  sym,
  ap,
  subst,
  arith,
  length-append,
  append-nil,
}
use Rattle.session_book.specs.Journal.{IsAccepted}
use Rattle.session_book.proofs.JournalLemmas.{accepted_length}
use Rattle.session_state.specs.Refusal.{most_entries}
use Rattle.history.specs.Prefixes.{entries_of}
use Rattle.displays.specs.Copies.{with_addition}
use Rattle.displays.specs.Publishing.{Outgoing}
use Rattle.displays.proofs.PublishingLemmas.{entries_of_length, published_more}
use Rattle.displays.proofs.publisher.Publisher.publish.Goals as goal

pub show_too-requires-clause-published : goal.show_too-requires-clause-published
show_too-requires-clause-published g c =
    let i = c.self.invariant in
    let some : 0 < length c.self.inside.pending.items = subst (λ (l : Outgoing). 0 < length l.pending)
    (sym c.self.view_is) c.requires in
    rw (c.replace-entries.ensures.value) (published_more _ _ _ i.0.published i.3 some)

pub overflow_add-first : goal.overflow_add-first
overflow_add-first g c = let few = accepted_length _ _ c.self.invariant.0.published.accepted in
    omega (arith, c.self.invariant.4, few)

pub overflow_add-self : goal.overflow_add-self
overflow_add-self g c =
    let i = c.self.invariant in
    let bs = c.self.inside.writer.desk.shown.value.prefix.publications in
    let more = c.self.inside.pending.items in
    let few : length (entries_of bs ++ more) ≤ most_entries = accepted_length _ _ i.3 in
    let count : length c.as_slice-count.result.now ≡ length more =
    rw (c.as_slice-count.ensures.value, c.replace-entries.ensures.value) refl in
    omega (arith, i.4, few, count, length-append (entries_of bs) more)

pub of-requires-clause-version : goal.of-requires-clause-version
of-requires-clause-version g c =
    let bs = c.self.inside.writer.desk.shown.value.prefix.publications in
    let more = c.self.inside.pending.items in
    let count : length c.as_slice-count.result.now ≡ length more =
    rw (c.as_slice-count.ensures.value, c.replace-entries.ensures.value) refl in
    let now : c.again.result.publications ≡ bs ++ more ∷ [] = rw (
      c.again.ensures,
      c.prefix.ensures,
      c.published.ensures,
      c.show_too.ensures.publications,
      c.replace-entries.ensures.value,
    ) refl in
    rw now (omega (arith, c.self.invariant.4, count, entries_of_length bs more))

pub invariant_of-self : goal.invariant_of-self
invariant_of-self g c =
    let i = c.self.invariant in
    let bs = c.self.inside.writer.desk.shown.value.prefix.publications in
    let more = c.self.inside.pending.items in
    let w = c.show_too.new.writer in
    let idle : (fold with_addition w.desk.shown.value (drop w.behind w.log.items)).shown ≡ w.desk.shown.value.shown =
    rw (c.show_too.ensures.none) refl in
    let none : c.replace-entries.new.dest.items ≡ [] = rw (c.replace-entries.ensures.after, c.new.ensures.items) refl in
    let accepted : IsAccepted g.N.Server.opening (entries_of w.desk.shown.value.prefix.publications
    ++ c.replace-entries.new.dest.items) =
    rw none (subst (IsAccepted g.N.Server.opening)
    (sym (append-nil (entries_of w.desk.shown.value.prefix.publications)))
    c.show_too.ensures.kept.published.accepted) in
    let count : length c.as_slice-count.result.now ≡ length more =
    rw (c.as_slice-count.ensures.value, c.replace-entries.ensures.value) refl in
    let now : w.desk.shown.value.prefix.publications ≡ bs ++ more ∷ [] =
    rw (c.show_too.ensures.publications, c.replace-entries.ensures.value) refl in
    let version : c.self.inside.version + length c.as_slice-count.result.now ≡ length
    (entries_of w.desk.shown.value.prefix.publications) =
    rw now (omega (arith, i.4, count, entries_of_length bs more)) in
    (c.show_too.ensures.kept, i.1, idle, accepted, version)

pub returns-clause-receipt : goal.returns-clause-receipt
returns-clause-receipt g c =
    let i = c.self.invariant in
    let bs = c.self.inside.writer.desk.shown.value.prefix.publications in
    let more = c.self.inside.pending.items in
    let w = c.show_too.new.writer in
    let first : c.self.inside.version + 1 ≡ length (entries_of c.args.self.now.published) + 1 =
    rw (ap (λ (l : Outgoing). l.published) (sym c.self.view_is)) (ap (λ (n : ℕ). n + 1) i.4) in
    let count : length c.as_slice-count.result.now ≡ length more =
    rw (c.as_slice-count.ensures.value, c.replace-entries.ensures.value) refl in
    let now : w.desk.shown.value.prefix.publications ≡ bs ++ more ∷ [] =
    rw (c.show_too.ensures.publications, c.replace-entries.ensures.value) refl in
    let version : c.self.inside.version + length c.as_slice-count.result.now ≡ length
    (entries_of w.desk.shown.value.prefix.publications) =
    rw now (omega (arith, i.4, count, entries_of_length bs more)) in
    rw (c.of.ensures, c.again.ensures, c.prefix.ensures, c.published.ensures, first, version) refl
