use Rattle.std.proofs.Common.{codes, Ok, sym, ap, ◌∙◌}
use Rattle.std.proofs.lemmas.Option.{same_Some}
use Rattle.serde_json.specs.Find.{get}
use Rattle.json_fields.specs.Field.{text_at}
use Rattle.command_writing.proofs.WrittenLemmas.{analysed_is}
use Rattle.entry_texts.specs.declared.kept_entry.KeptEntry.TheVariants.{Analysed}
use Rattle.entry_texts.proofs.reading.played_of.Goals as goal

pub returns-in-Some-Some-clause-analysed : goal.returns-in-Some-Some-clause-analysed
returns-in-Some-Some-clause-analysed c cell played is same =
    let its = analysed_is cell played is in
    let cells = same_Some _ _ (sym c.in-Some.is ∙ c.cell_of.ensures cell played its.at same) in
    let deals = same_Some _ _
    (sym c.in-Some-Some.is-0 ∙ c.deal_of.ensures played.deal its.deal (ap (text_at (codes "deal")) same)) in
    let contracts = same_Some _ _
    (sym c.in-Some-Some.is-1 ∙ c.contract_at.ensures played.contract its.contract (ap (get (codes "contract")) same)) in
    λ i. Ok (Analysed c.args.actor (cells i) (deals i) (contracts i) c.args.play)
