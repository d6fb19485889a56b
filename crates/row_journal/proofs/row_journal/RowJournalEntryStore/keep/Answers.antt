use Rattle.std.proofs.Common.{◌≡◌, ◌⊎◌, Err, true, not, ◌+◌, List, [], ◌∷◌, ◌++◌, map, refl, ap, subst, ◌∙◌, rules, arith}
use Rattle.std.proofs.lemmas.Bool.{not-true}
use Rattle.sqlite.specs.Held.{state}
use Rattle.session_commands.specs.declared.entry.Entry.{Entry}
use Rattle.entry_store.specs.Keeping.{LeavesOneMore, LeavesAsBefore}
use Rattle.journal_store.specs.declared.append_rows.AppendFault.TheVariants.{NotKept, Unsure}
use Rattle.journal_store.specs.Kept.{texts_of, Rests, LeavesEither, Appends}
use Rattle.kept_entries.specs.KeptRows.{row_in, rows_of}
use Rattle.row_journal.specs.Leaving.{RowLedger, LeavesPublications}
use Rattle.row_journal.proofs.KeepLemmas.{next_publication, kept_ok, kept_not, kept_unsure, outcomes_either, outcomes_follow, follows_on, follows_still}
use Rattle.row_journal.proofs.row_journal.RowJournalEntryStore.keep.Goals as goal

pub invariant_of-self : goal.invariant_of-self
invariant_of-self g c =
    let old = state g.S.Store c.self.inside.conn in
    let new = state g.S.Store c.append.new.conn in
    let entries = c.args.entries.now in
    let added = map texts_of c.as_slice.result.now in
    let rows : added ≡ map (row_in (c.self.inside.last + 1)) entries = ap (map texts_of) c.as_slice.ensures.value
    ∙ c.in-Ok.ensures.rows in
    let is_open : not c.self.inside.shut ≡ true = search rules in
    let shut = not-true _ is_open in
    let follows = λ (clean : _).
    let f = c.self.invariant.4 (c.append.ensures.clean clean) shut in
    let stays = g.met.S.Store.stays c.self.inside.conn.store f.rests.is_open in
    let next = next_publication old new c.self.inside.next c.self.inside.last f entries c.requires.some
    c.in-Ok.ensures.keepable stays added rows in
    let now : Rests f.session (rows_of f.published ++ added) new = c.in-Ok-append.ensures.appends f.session
    (rows_of f.published) clean f.rests f.next_row next in
    follows_on old new c.self.inside.next c.self.inside.last f entries c.requires.some c.in-Ok.ensures.keepable stays
    added rows now in (
      c.append.ensures.alone,
      omega (arith, c.self.invariant.1, c.requires.some),
      omega (arith, c.self.invariant.2, c.if-entries-self.false),
      λ clean. outcomes_follow new _ _ (follows clean),
      λ clean _. follows clean,
    )

pub returns-in-Ok-append-clause-kept : goal.returns-in-Ok-append-clause-kept
returns-in-Ok-append-clause-kept g c clean =
    let old = state g.S.Store c.self.inside.conn in
    let new = state g.S.Store c.append.new.conn in
    let entries = c.args.entries.now in
    let added = map texts_of c.as_slice.result.now in
    let rows : added ≡ map (row_in (c.self.inside.last + 1)) entries = ap (map texts_of) c.as_slice.ensures.value
    ∙ c.in-Ok.ensures.rows in
    let is_open : not c.self.inside.shut ≡ true = search rules in
    let f = c.self.invariant.4 (c.append.ensures.clean clean) (not-true _ is_open) in
    let stays = g.met.S.Store.stays c.self.inside.conn.store f.rests.is_open in
    let next = next_publication old new c.self.inside.next c.self.inside.last f entries c.requires.some
    c.in-Ok.ensures.keepable stays added rows in
    let now : Rests f.session (rows_of f.published ++ added) new = c.in-Ok-append.ensures.appends f.session
    (rows_of f.published) clean f.rests f.next_row next in
    let kept = kept_ok old new c.self.inside.next c.self.inside.last f entries c.requires.some c.in-Ok.ensures.keepable
    stays added rows now in
    subst (λ (j : RowLedger _). LeavesOneMore (LeavesPublications (state g.S.Store j.conn)) entries
    (LeavesPublications new)) c.self.view_is kept

pub invariant_of-self-in-Err-NotKept : goal.invariant_of-self-in-Err-NotKept
invariant_of-self-in-Err-NotKept g c =
    let old = state g.S.Store c.self.inside.conn in
    let new = state g.S.Store c.append.new.conn in
    let entries = c.args.entries.now in
    let added = map texts_of c.as_slice.result.now in
    let rows : added ≡ map (row_in (c.self.inside.last + 1)) entries = ap (map texts_of) c.as_slice.ensures.value
    ∙ c.in-Ok.ensures.rows in
    let is_open : not c.self.inside.shut ≡ true = search rules in
    let shut = not-true _ is_open in
    let follows = λ (clean : _).
    let f = c.self.invariant.4 (c.append.ensures.clean clean) shut in
    let stays = g.met.S.Store.stays c.self.inside.conn.store f.rests.is_open in
    let next = next_publication old new c.self.inside.next c.self.inside.last f entries c.requires.some
    c.in-Ok.ensures.keepable stays added rows in
    let is : c.append.result ≡ Err NotKept = cc in
    let now : Rests f.session (rows_of f.published) new =
    subst (Appends f.session (rows_of f.published) added new) is (c.append.ensures.appends f.session
    (rows_of f.published) clean f.rests f.next_row next) in
    follows_still old new c.self.inside.next c.self.inside.last f now in (
      c.append.ensures.alone,
      c.self.invariant.1,
      c.self.invariant.2,
      λ clean. outcomes_follow new _ _ (follows clean),
      λ clean _. follows clean,
    )

pub returns-in-Err-NotKept-clause-fault : goal.returns-in-Err-NotKept-clause-fault
returns-in-Err-NotKept-clause-fault g c = (
  tt,
  λ clean.
      let old = state g.S.Store c.self.inside.conn in
      let new = state g.S.Store c.append.new.conn in
      let entries = c.args.entries.now in
      let added = map texts_of c.as_slice.result.now in
      let rows : added ≡ map (row_in (c.self.inside.last + 1)) entries = ap (map texts_of) c.as_slice.ensures.value
      ∙ c.in-Ok.ensures.rows in
      let is_open : not c.self.inside.shut ≡ true = search rules in
      let f = c.self.invariant.4 (c.append.ensures.clean clean) (not-true _ is_open) in
      let stays = g.met.S.Store.stays c.self.inside.conn.store f.rests.is_open in
      let next = next_publication old new c.self.inside.next c.self.inside.last f entries c.requires.some
      c.in-Ok.ensures.keepable stays added rows in
      let is : c.append.result ≡ Err NotKept = cc in
      let now : Rests f.session (rows_of f.published) new =
      subst (Appends f.session (rows_of f.published) added new) is (c.append.ensures.appends f.session
      (rows_of f.published) clean f.rests f.next_row next) in
      let kept = kept_not old new c.self.inside.next c.self.inside.last f entries c.requires.some
      c.in-Ok.ensures.keepable stays added rows now in
      subst (λ (j : RowLedger _). LeavesAsBefore (LeavesPublications (state g.S.Store j.conn)) (LeavesPublications new)) c.self.view_is kept,
)

pub invariant_of-self-in-Err-Unsure : goal.invariant_of-self-in-Err-Unsure
invariant_of-self-in-Err-Unsure g c =
    let old = state g.S.Store c.self.inside.conn in
    let new = state g.S.Store c.append.new.conn in
    let entries = c.args.entries.now in
    let added = map texts_of c.as_slice.result.now in
    let rows : added ≡ map (row_in (c.self.inside.last + 1)) entries = ap (map texts_of) c.as_slice.ensures.value
    ∙ c.in-Ok.ensures.rows in
    let is_open : not c.self.inside.shut ≡ true = search rules in
    let shut = not-true _ is_open in (
      c.append.ensures.alone,
      c.self.invariant.1,
      c.self.invariant.2,
      λ clean.
          let f = c.self.invariant.4 (c.append.ensures.clean clean) shut in
          let stays = g.met.S.Store.stays c.self.inside.conn.store f.rests.is_open in
          let next = next_publication old new c.self.inside.next c.self.inside.last f entries c.requires.some
          c.in-Ok.ensures.keepable stays added rows in
          let is : c.append.result ≡ Err Unsure = cc in
          let either : LeavesEither f.session (rows_of f.published) (rows_of f.published ++ added) new =
          subst (Appends f.session (rows_of f.published) added new) is (c.append.ensures.appends f.session
          (rows_of f.published) clean f.rests f.next_row next) in
          outcomes_either old new c.self.inside.next c.self.inside.last f entries c.requires.some
          c.in-Ok.ensures.keepable stays added rows either,
      λ clean shut_still. absurd cc,
    )

pub returns-clause-fault : goal.returns-clause-fault
returns-clause-fault g c = (
  tt,
  λ clean.
      let old = state g.S.Store c.self.inside.conn in
      let new = state g.S.Store c.append.new.conn in
      let entries = c.args.entries.now in
      let added = map texts_of c.as_slice.result.now in
      let rows : added ≡ map (row_in (c.self.inside.last + 1)) entries = ap (map texts_of) c.as_slice.ensures.value
      ∙ c.in-Ok.ensures.rows in
      let is_open : not c.self.inside.shut ≡ true = search rules in
      let f = c.self.invariant.4 (c.append.ensures.clean clean) (not-true _ is_open) in
      let stays = g.met.S.Store.stays c.self.inside.conn.store f.rests.is_open in
      let next = next_publication old new c.self.inside.next c.self.inside.last f entries c.requires.some
      c.in-Ok.ensures.keepable stays added rows in
      let is : c.append.result ≡ Err Unsure = cc in
      let either : LeavesEither f.session (rows_of f.published) (rows_of f.published ++ added) new =
      subst (Appends f.session (rows_of f.published) added new) is (c.append.ensures.appends f.session
      (rows_of f.published) clean f.rests f.next_row next) in
      let kept = kept_unsure old new c.self.inside.next c.self.inside.last f entries c.requires.some
      c.in-Ok.ensures.keepable stays added rows either in (
        refl,
        subst (λ (j : RowLedger _). (found : List (List Entry)) → LeavesPublications new found
            → LeavesPublications (state g.S.Store j.conn) found
            ⊎ ((was : List (List Entry)) × LeavesPublications (state g.S.Store j.conn) was
            × (found ≡ was ++ entries ∷ []))) c.self.view_is kept,
      ),
)
