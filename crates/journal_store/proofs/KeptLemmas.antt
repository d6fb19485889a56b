-- What a transaction adds, one row after another.
use Rattle.std.specs.List.{AllByRecursion}
use Rattle.std.proofs.Math.Seq.{take-suc}
use Rattle.std.proofs.lemmas.Str.{IsUtf8-string_bytes}
use Rattle.std.proofs.lemmas.List.Elements.{recursion_from_All}
use Rattle.std.proofs.lemmas.List.{map-append, length-map, length-take-le}
use Rattle.std.proofs.Common.{IsPermutation, true, false, IfErr, suc, ◌<◌, ◌≤◌, take, get_or, ◌≡◌, inl, inr, ℕ, ◌+◌, List, [], ◌∷◌, ◌++◌, length, append-nil, append_assoc, length-append, map, Ok, Err, Result, OnOk, IsTrue, refl, sym, ap, subst, ◌∙◌, arith}
use Rattle.sqlite.specs.Order.{Row}
use Rattle.sqlite.specs.declared.error.Error.{Error}
use Rattle.sqlite.specs.Tree.{Trees}
use Rattle.sqlite.specs.Effect.{Database, IsDatabase}
use Rattle.sqlite.specs.Steps.{FailsToCommit}
use Rattle.sqlite.specs.State.{IsUnchanged, Shows, State, HasCleanDisk, Survives, IsRolledBack}
use Rattle.sqlite.proofs.StateLemmas.{survives_then}
use Rattle.journal_store.specs.Taken.{IsIdle, TakesUp, ReadsKept, LeavesMade, LeavesFirst}
use Rattle.journal_store.specs.Tables.{no_schema, journal_schema, shown_session, shown_entry, entry_rows, RowBytes}
use Rattle.journal_store.specs.Kept.{texts_of, most_entry_rows, AreInOrder, last_publication, AreEntries, AreKept, Keeps, StaysInside, AddsRows, Rests, IsNextPublication, LeavesEither, Adds, Appends}
use Rattle.journal_store.specs.declared.row_text.RowText.{RowText}
use Rattle.journal_store.specs.declared.append_rows.AppendFault.{AppendFault}
use Rattle.journal_store.specs.declared.append_rows.AppendFault.TheVariants.{NotKept, Unsure}

in_order_first : (last : ℕ) (rows more : List RowBytes) → AreInOrder last (rows ++ more) → AreInOrder last rows
in_order_first last [] more are = tt
in_order_first last (it ∷ rows) more are = (are.0, in_order_first it.publication rows more are.1)

-- the first rows of a journal are those of one
fewer : (rows more : List RowBytes) → AreEntries (rows ++ more) → AreEntries rows
fewer rows more are = record {
  in_order = in_order_first 0 rows more are.in_order;
  few = let all = are.few in
      omega (arith, all, length-append rows more);
}

pub in_order_both : (last : ℕ) (rows more : List RowBytes) → AreInOrder last rows
    → AreInOrder (last_publication last rows) more → AreInOrder last (rows ++ more)
in_order_both last [] more one two = two
in_order_both last (it ∷ rows) more one two = (one.0, in_order_both it.publication rows more one.1 two)

-- rows of one publication may stand behind that one and behind the one before it
one_publication : (last publication : ℕ) (rows : List RowText) → 1 ≤ publication → last ≤ publication
    → publication ≤ last + 1
    → AllByRecursion (λ it. it.publication ≡ publication) (map texts_of rows) → AreInOrder last (map texts_of rows)
one_publication last publication [] counted least most are = tt
one_publication last publication (row ∷ rows) counted least most are = (
  record {
    counted = rw are.0 counted;
    not_before = rw are.0 least;
    no_gap = rw are.0 most;
    actor_is_text = IsUtf8-string_bytes row.actor;
    command_is_text = IsUtf8-string_bytes row.command;
  },
  rw are.0 (one_publication publication publication rows counted (omega arith) (omega arith) are.1),
)

-- the next publication may be added to a journal that has room
pub with_next : (before : List RowBytes) (rows : List RowText) (first : ℕ) → AreEntries before → first ≡ 1 + length before
    → first + length rows ≤ most_entry_rows + 1 → IsNextPublication before (map texts_of rows)
    → AreEntries (before ++ map texts_of rows)
with_next before rows first are at room next = record {
  in_order = in_order_both 0 before (map texts_of rows) are.in_order
      (one_publication (last_publication 0 before) (last_publication 0 before + 1) rows (omega arith) (omega arith)
      (omega arith) (recursion_from_All _ (map texts_of rows) next));
  few = omega (arith, at, room, length-append before (map texts_of rows), length-map rows texts_of);
}

pub adds_nothing : (s : State) (first : ℕ) → AddsRows s s first []
adds_nothing s first =
    record {
      inside = λ clean inside. inside;
      keeps = λ session rows clean inside keeps at are. rw (append-nil rows)
          keeps;
    }

pub adds_more : (a b c : State) (first next : ℕ) (one two : List RowBytes) → next ≡ first + length one → StaysInside b c
    → AddsRows a b first one → AddsRows b c next two → AddsRows a c first (one ++ two)
adds_more a b c first next one two at stays p q = record {
  inside = λ clean inside. q.inside clean (p.inside (omega (arith, stays.survives.clean)) inside);
  keeps = λ session rows clean inside keeps from are.
      let all : AreEntries ((rows ++ one) ++ two) = subst AreEntries (sym (append_assoc rows one two)) are in
      let before = p.keeps session rows (omega (arith, stays.survives.clean)) inside keeps from
      (fewer (rows ++ one) two all) in
      rw (← append_assoc rows one two) (q.keeps session (rows ++ one) clean
      (p.inside (omega (arith, stays.survives.clean)) inside) before
      (omega (arith, at, from, length-append rows one)) all);
}

pub stays_on : (a b c : State) → (HasCleanDisk b → IsTrue a.in_transaction → IsTrue b.in_transaction) → StaysInside a b
    → StaysInside b c → StaysInside a c
stays_on a b c inside p q = record {
  was_open = λ clean within is_open.
      let early : HasCleanDisk b = omega (arith, q.survives.clean) in
      p.was_open early within (q.was_open clean (inside early within) is_open);
  committed = λ clean within is_open.
      let early : HasCleanDisk b = omega (arith, q.survives.clean) in
      q.committed clean (inside early within) is_open
      ∙ p.committed early within (q.was_open clean (inside early within) is_open);
  survives = survives_then a b c _ _ (λ _. ⊥) (λ _ db none. none) (λ _ db none. none) p.survives q.survives;
}

pub stays_put : (s : State) → StaysInside s s
stays_put s = record {
  was_open = λ clean within is_open. is_open;
  committed = λ clean within is_open. refl;
  survives = record {
    clean = omega arith;
    shield = λ h. h;
    counts = omega arith;
    limit = refl;
    closes =
        λ clean is_open. inl is_open;
    crash = λ clean db left. inl left;
  };
}

pub added_next : {X : Type 0} (f : X → RowBytes) (a b c : State) (first next at : ℕ) (xs : List X) (x : X) → at < length xs
    → get_or xs at x ≡ x → next ≡ first + at → StaysInside b c
    → AddsRows a b first (map f (take at xs)) → AddsRows b c next (f x ∷ [])
    → AddsRows a c first (map f (take (suc at) xs))
added_next f a b c first next at xs x low is from stays p q =
    subst (AddsRows a c first) (sym (ap (map f) (take-suc xs at x low) ∙ rw is (map-append f (take at xs) (x ∷ []))))
    (adds_more a b c first next _ (f x ∷ []) (from
    ∙ ap (λ n. first + n) (sym (length-map (take at xs) f ∙ length-take-le at xs (omega (arith, low))))) stays p q)

-- an open store leaves its last commit after a crash, and nothing else
abbrev pub IsSettled : State → Type 0
IsSettled s = IsTrue s.is_open → (db : Trees) → s.may_leave db → db ≡ s.committed.trees

abbrev pub begun : State → State
begun s = record s { in_transaction = true }

pub rests_at : (s : State) (session : List Row) (rows : List RowBytes) → IsTrue s.is_open → s.in_transaction ≡ false
    → IsSettled s → (db : Database) → Keeps session rows db → s.now ≡ db → s.committed ≡ db → Rests session rows s
rests_at s session rows is_open alone settled db keeps now committed = record {
  is_open = is_open;
  autocommit = alone;
  now = subst (Keeps session rows) (sym now) keeps;
  committed = subst (Keeps session rows) (sym committed) keeps;
  crash = λ left may. subst (AreKept session rows)
      (sym (settled is_open left may ∙ ap (λ (d : Database). d.trees) committed)) keeps.kept;
}

pub commits : (old mid last : State) (session : List Row) (before added : List RowBytes) (first : ℕ)
    (r : Result (Unit {0}) Error) → HasCleanDisk last → IsSettled last → last.in_transaction ≡ false
    → Rests session before old → first ≡ 1 + length before → StaysInside (begun old) mid
    → AddsRows (begun old) mid first added
    → OnOk r (Shows mid last mid.now mid.now false) → IfErr r (FailsToCommit mid last)
    → Survives mid last (λ db. db ≡ mid.now.trees) → AreEntries (before ++ added) → Adds session before added last r
commits old mid last session before added first (Ok tt) clean settled alone rests at stays adds ok err survives are =
    let keeps = adds.keeps session before (omega (arith, survives.clean)) refl rests.now at are in
    rests_at last session (before ++ added) ok.is_open alone settled mid.now keeps ok.now_is ok.committed_is
commits old mid last session before added first (Err e) clean settled alone rests at stays adds ok err survives are =
    let early : HasCleanDisk mid = omega (arith, survives.clean) in
    let keeps = adds.keeps session before early refl rests.now at are in
    let undone : IsTrue last.is_open → Rests session before last = elim err [
      | inl fails ↦ λ is_open.
          let back = fails.3.undone is_open in
          let same = stays.committed early refl (fails.3.was_open is_open) in
          rests_at last session before is_open alone settled old.committed rests.committed (back.0 ∙ same)
          (back.1 ∙ same)
      | inr late ↦ absurd (let within = adds.inside early refl in let out = late.1 in cc)
    ] in (
      undone,
      λ db may. elim (survives.crash clean db may) [
        | inl earlier ↦ elim (stays.survives.crash early db earlier)
            [ inl first ↦ inl (rests.crash db first) | inr none ↦ absurd none ]
        | inr made ↦ inr (subst (AreKept session (before ++ added)) (sym made) keeps.kept)
      ],
    )

-- the transaction is let go before its end
pub lets_go : (old mid last : State) (session : List Row) (before : List RowBytes) → HasCleanDisk last → IsSettled last
    → last.in_transaction ≡ false → Rests session before old → StaysInside (begun old) mid
    → IsRolledBack mid last → Survives mid last (λ _. ⊥) → (IsTrue last.is_open → Rests session before last)
    × ((db : Trees) → last.may_leave db → AreKept session before db)
lets_go old mid last session before clean settled alone rests stays back survives =
    let early : HasCleanDisk mid = omega (arith, survives.clean) in (
      λ is_open.
          let undone = back.undone is_open in
          let same = stays.committed early refl (back.was_open is_open) in
          rests_at last session before is_open alone settled old.committed rests.committed (undone.0 ∙ same)
          (undone.1 ∙ same),
      λ db may. elim (survives.crash clean db may) [
        | inl earlier ↦ elim (stays.survives.crash early db earlier)
            [ inl first ↦ rests.crash db first | inr none ↦ absurd none ]
        | inr none ↦ absurd none
      ],
    )

pub adds_none : (session : List Row) (before added : List RowBytes) (new : State) (r : Result (Unit {0}) Error) → OnOk r ⊥
    → (IsTrue new.is_open → Rests session before new) × ((db : Trees) → new.may_leave db → AreKept session before db)
    → Adds session before added new r
adds_none session before added new (Ok tt) none h = absurd none
adds_none session before added new (Err e) none h = (h.0, λ db may. inl (h.1 db may))

-- two reads find a journal
pub reads_on : (a b c : State) (session : List Row) (rows : List RowBytes) → IsIdle a → a.now.schema ≡ journal_schema
    → IsUnchanged a b → IsUnchanged b c → IsSettled c
    → IsPermutation (map shown_session (a.now.trees 0)) session
    → IsPermutation (map shown_entry (b.now.trees 1)) (entry_rows 1 rows) → AreEntries rows
    → ReadsKept session rows a c
reads_on a b c session rows idle has one two settled first second are =
    let now : c.now ≡ a.now = two.0.now_is ∙ one.0.now_is in
    let committed : c.committed ≡ a.now = two.0.committed_is ∙ one.0.committed_is ∙ sym idle.same in
    let keeps : Keeps session rows a.now = record {
      schema = has;
      kept = record {
        sound = subst (λ s. IsDatabase (record { schema = s; trees = a.now.trees })) has idle.sound;
        session_is = first;
        entries = subst (λ (d : Database). IsPermutation (map shown_entry (d.trees 1))
            (entry_rows 1 rows)) one.0.now_is second;
        are_entries = are;
      };
    } in
    record {
      rests = rests_at c session rows two.0.is_open (two.0.mode ∙ one.0.mode ∙ idle.autocommit) settled a.now
          keeps now committed;
      kept = keeps;
    }

pub takes_on : (a c : State) (session : List Row) (rows : List RowBytes) → ReadsKept session rows a c
    → TakesUp session rows a c
takes_on a c session rows reads = record { rests = reads.rests; found = inr reads.kept }

-- what is known once it was asked whether the database is still open
pub asked : (a b : State) (session : List Row) (before added : List RowBytes) (fault : AppendFault) → HasCleanDisk b
    → (IsTrue a.is_open → Rests session before a) × LeavesEither session before (before ++ added) a
    → Survives a b (λ _. ⊥) → (fault ≡ NotKept → IsUnchanged a b) → Appends session before added b (Err fault)
asked a b session before added NotKept clean adds survives same =
    let still = (same refl).0 in
    let rests = adds.0 still.was_open in
    record {
      is_open = still.is_open;
      autocommit = still.mode ∙ rests.autocommit;
      now = subst (Keeps session before) (sym still.now_is) rests.now;
      committed = subst (Keeps session before) (sym still.committed_is) rests.committed;
      crash = λ db may. elim (survives.crash clean db may)
          [ inl earlier ↦ rests.crash db earlier | inr none ↦ absurd none ];
    }
asked a b session before added Unsure clean adds survives same =
    λ db may. elim (survives.crash clean db may) [ inl earlier ↦ adds.1 db earlier | inr none ↦ absurd none ]

-- what a crash leaves while the journal is made, in a database that had no table
pub leaves_first : (old new : State) (session : List Row) → IsIdle old → IsSettled old → old.now.schema ≡ no_schema
    → LeavesMade session old new → LeavesFirst session new
leaves_first old new session idle settled none leaves db may = elim (leaves db may) [
  | inl before ↦
      let same : old.now.trees ≡ db =
      ap (λ (d : Database). d.trees) idle.same ∙ sym (settled idle.is_open db before) in
      inl (subst (λ t. IsDatabase (record { schema = no_schema; trees = t })) same
      (subst (λ s. IsDatabase (record { schema = s; trees = old.now.trees })) none idle.sound))
  | inr made ↦ inr made.1
]
