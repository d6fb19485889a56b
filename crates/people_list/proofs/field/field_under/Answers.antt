use Rattle.std.proofs.Common.{option_map, ap, sym, ◌∙◌, add-one}
use Rattle.csv.specs.Records.{fields_of}
use Rattle.people_list.proofs.FieldLemmas.{found_here, found_on}
use Rattle.people_list.proofs.field.field_under.Goals as goal

pub returns-in-Some : goal.returns-in-Some
returns-in-Some c =
    let columns = fields_of c.args.columns.now in
    let row = fields_of c.args.row.now in
    sym (found_here columns row c.args.name.now c.loop-place.place c.in-Some.field.now
    (sym c.named_field.ensures ∙ ap (option_map (λ f. f.now)) c.in-Some.is))
    ∙ c.loop-place.invariant

pub loop-place-preserved : goal.loop-place-preserved
loop-place-preserved c =
    let columns = fields_of c.args.columns.now in
    let row = fields_of c.args.row.now in
    rw (add-one)
    (sym (found_on columns row c.args.name.now c.loop-place.place
    (sym c.named_field.ensures ∙ ap (option_map (λ f. f.now)) c.in-None.is))
    ∙ c.loop-place.invariant)
