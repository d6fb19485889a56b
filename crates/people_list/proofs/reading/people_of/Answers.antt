use Rattle.std.proofs.Common.{◌≡◌, List, [], ◌∷◌, ◌++◌, ℕ, map, take, true, ap, sym, subst, ◌∙◌, rules}
use Rattle.std.specs.Result.{is_ok}
use Rattle.std.proofs.lemmas.Grind.{take_at_read}
use Rattle.std.proofs.lemmas.List.{map_push}
use Rattle.csv.specs.Records.{Row, fields_of}
use Rattle.people_list.specs.People.{ArePeople}
use Rattle.people_list.proofs.PeopleLemmas.{one_more}
use Rattle.people_list.proofs.reading.people_of.Goals as goal

pub loop-row-preserved : goal.loop-row-preserved
loop-row-preserved c =
    let rows = c.args.rows.now in
    let before = take c.loop-row.row-index rows in
    let columns = fields_of c.args.columns.now in
    let good : is_ok c.push.result ≡ true = search rules in
    let items = rw good at c.push.ensures.items in
    rw (items)
    (subst (λ (read : List (List (List ℕ))). ArePeople columns read (c.loop-row.people.items ++ c.in_ok-person.person ∷ []))
    (sym (ap (map fields_of) (take_at_read rows c.loop-row.row-index c.row-item.result c.loop-row-test.true).1
    ∙ map_push fields_of before _
    ∙ ap (λ (row : Row). map fields_of before ++ fields_of row ∷ []) (sym c.row-item.is)))
    (one_more columns (map fields_of before) c.loop-row.people.items (fields_of c.row-item.result) c.in_ok-person.person
    c.loop-row.invariant c.in_ok-person.ensures))
