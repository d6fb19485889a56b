use Rattle.std.proofs.Common.{◌≡◌, ◌+◌, ◌<◌, ◌≤◌, map, length, get_or, rules, arith, add-one, subst, sym, ap, ◌∙◌, ◌∷◌, []}
use Rattle.std.proofs.lemmas.List.{map-append, length-map}
use Rattle.journal_store.specs.Tables.{RowBytes}
use Rattle.journal_store.specs.Kept.{texts_of, MayFollowRow}
use Rattle.journal_store.specs.Reading.{IsRowOf}
use Rattle.journal_store.proofs.ReadingLemmas.{reads_next, follows_next, last_is, at_most, never_reads, as_many}
use Rattle.journal_store.proofs.reading.texts_in.Goals as goal

pub returns-then-shown-gt-MOST_ROWS-clause-other : goal.returns-then-shown-gt-MOST_ROWS-clause-other
returns-then-shown-gt-MOST_ROWS-clause-other c rows are same =
    let many : 60000 < length c.args.shown.now = search rules in
    let few = are.few in
    let count = ap length same ∙ as_many 1 rows in
    omega (arith, many, few, count)

pub text_of-requires : goal.text_of-requires
text_of-requires c =
    let low : c.rows.place < length c.args.shown.now = search rules in
    let few : length c.args.shown.now ≤ 60000 = search rules in
    let most = at_most 0 (map texts_of c.rows.rows.items) c.rows.invariant.2 in
    let last = c.rows.invariant.3 in
    let count = c.rows.invariant.0 in
    omega (arith, low, few, most, last, count, length-map c.rows.rows.items texts_of)

pub returns-in_default-clause-other : goal.returns-in_default-clause-other
returns-in_default-clause-other c rows are same =
    let row = c.index-shown-place.result in
    let low : c.rows.place < length c.args.shown.now = search rules in
    let here : get_or c.args.shown.now c.rows.place row ≡ row = search rules in
    let never : (it : RowBytes) → ¬ IsRowOf (c.rows.place + 1) c.rows.last it row = search rules in
    let read = map texts_of c.rows.rows.items in
    never_reads read rows c.args.shown.now row c.rows.place low here
    (length-map c.rows.rows.items texts_of ∙ c.rows.invariant.0) c.rows.invariant.1
    (λ it is. never it (subst (λ n. IsRowOf (c.rows.place + 1) n it row) (sym c.rows.invariant.3) is)) are same

pub rows-preserved : goal.rows-preserved
rows-preserved c =
    let row = c.index-shown-place.result in
    let text = c.in-Some.text in
    let it = texts_of text in
    let read = map texts_of c.rows.rows.items in
    let low : c.rows.place < length c.args.shown.now = search rules in
    let here : get_or c.args.shown.now c.rows.place row ≡ row = search rules in
    let is : IsRowOf (c.rows.place + 1) c.rows.last it row = search rules in
    let items = c.in_ok-push.ensures.items in
    let more = map-append texts_of c.rows.rows.items (text ∷ []) in
    let count : length read ≡ c.rows.place = length-map c.rows.rows.items texts_of ∙ c.rows.invariant.0 in (
      search rules,
      rw (add-one, items, more) (reads_next read it c.args.shown.now row c.rows.place low here count c.rows.invariant.1
          is.is),
      rw (items, more) (follows_next read it c.rows.invariant.2
          (subst (λ n. MayFollowRow n it) c.rows.invariant.3 is.follows)),
      rw (items, more) (sym (last_is 0 read it)),
    )
