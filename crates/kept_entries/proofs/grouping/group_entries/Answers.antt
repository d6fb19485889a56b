use Rattle.std.proofs.Common.{inr, refl, ◌≡◌, ◌<◌, ◌+◌, [], ◌∷◌, ◌++◌, length, map, rules, sym, ap, subst, ◌∙◌, arith}
use Rattle.std.proofs.lemmas.List.{length-map, map-append}
use Rattle.std.proofs.lemmas.Bool.Decides.{nat_tests}
use Rattle.journal_store.specs.Kept.{texts_of}
use Rattle.kept_entries.specs.Grouping.{BeginsNext}
use Rattle.kept_entries.specs.KeptRows.{lists_in, AreKeepable}
use Rattle.kept_entries.proofs.ReadLemmas.{RowAt, row_at, row_here}
use Rattle.kept_entries.proofs.GroupLemmas.{grouped_none, grouped_begun, grouped_entered, grouped_last, in_turn_none, in_turn_begun, in_turn_entered}
use Rattle.kept_entries.proofs.grouping.group_entries.Goals as goal

pub rows-init : goal.rows-init
rows-init c =
    rw (c.new-published.ensures.items, c.new-last.ensures.items) (
      grouped_none (map texts_of c.args.rows.now),
      λ counted. in_turn_none (map texts_of c.args.rows.now) counted,
    )

pub returns-then-number-len-clause-fault : goal.returns-then-number-len-clause-fault
returns-then-number-len-clause-fault c = inr (
  refl,
  λ counted.
      let texts = map texts_of c.args.rows.now in
      let before = lists_in c.rows.published.items in
      let new = lists_in c.begin_publication.new.published.items in
      let row = c.index-rows-place.result in
      let begins : BeginsNext row.publication before c.rows.last.items new c.begin_publication.new.last.items = rw
      (← c.index-rows-place.is) at c.in-Ok.ensures in
      let low : c.rows.place < length texts = rw (length-map c.args.rows.now texts_of) c.rows-test.true in
      let at = row_here c.args.rows.now c.rows.place row c.rows-test.true c.index-rows-place.is in
      let turn = c.rows.invariant.1 counted in
      let count : length new ≡ length c.begin_publication.new.published.items = length-map
      c.begin_publication.new.published.items _ in
      let number : row.publication ≡ length new + 1 = in_turn_begun texts c.rows.place before c.rows.last.items new
      c.begin_publication.new.last.items (texts_of row) turn low at begins in
      let other : row.publication ≡ c.len.result + 1 → ⊥ = rw (← c.index-rows-place.is) at c.if-number-len.true in
      other (omega (arith, number, count)),
)

pub rows-preserved : goal.rows-preserved
rows-preserved c =
    let texts = map texts_of c.args.rows.now in
    let before = lists_in c.rows.published.items in
    let new = lists_in c.begin_publication.new.published.items in
    let rest = c.begin_publication.new.last.items in
    let row = c.index-rows-place.result in
    let entry = c.index-entries-place.result in
    let it : RowAt c.args.rows.now c.rows.place row entry = row_at c.args.rows.now c.args.entries.now c.rows.place row
    entry c.requires c.rows-test.true (search rules) (search rules) in
    let begins : BeginsNext row.publication before c.rows.last.items new rest = rw
    (← c.index-rows-place.is) at c.in-Ok.ensures in
    let count : length new ≡ length c.begin_publication.new.published.items = length-map
    c.begin_publication.new.published.items _ in
    let same : row.publication ≡ c.len.result + 1 = rw (← c.index-rows-place.is) at c.if-number-len.false in
    let number : row.publication ≡ length new + 1 = omega (arith, count, same) in
    let begun = grouped_begun texts c.rows.place row.publication before c.rows.last.items new rest c.rows.invariant.0
    begins in
    rw c.in-Ok-push.ensures.items (
      grouped_entered texts c.rows.place new rest (texts_of row) entry begun it.within it.at number it.keepable it.is,
      λ counted. in_turn_entered texts c.rows.place before c.rows.last.items new rest (texts_of row) entry
          (c.rows.invariant.1 counted) it.within it.at number,
    )

pub returns-clause-rows : goal.returns-clause-rows
returns-clause-rows c =
    let texts = map texts_of c.args.rows.now in
    let before = lists_in c.rows.published.items in
    let pushed : lists_in c.push-2.new.self.items ≡ before ++ c.rows.last.items ∷ [] =
    ap lists_in c.in-Ok-push-2.ensures.items ∙ map-append _ c.rows.published.items (c.rows.last ∷ []) in
    let some : 0 < length c.rows.last.items = grind (arith, nat_tests, c.is_empty.ensures, c.if-is_empty.false) in
    rw pushed ((grouped_last texts c.rows.place before c.rows.last.items c.rows.invariant.0 (rw
    (length-map c.args.rows.now texts_of) (omega arith)) some).0)

pub returns-clause-keepable : goal.returns-clause-keepable
returns-clause-keepable c =
    let texts = map texts_of c.args.rows.now in
    let before = lists_in c.rows.published.items in
    let pushed : lists_in c.push-2.new.self.items ≡ before ++ c.rows.last.items ∷ [] =
    ap lists_in c.in-Ok-push-2.ensures.items ∙ map-append _ c.rows.published.items (c.rows.last ∷ []) in
    let some : 0 < length c.rows.last.items = grind (arith, nat_tests, c.is_empty.ensures, c.if-is_empty.false) in
    subst AreKeepable (sym pushed) ((grouped_last texts c.rows.place before c.rows.last.items c.rows.invariant.0 (rw
    (length-map c.args.rows.now texts_of) (omega arith)) some).1)
