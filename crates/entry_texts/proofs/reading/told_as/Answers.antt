use Rattle.std.proofs.Common.{◌≡◌, codes, Some, sym, ap, ◌∙◌}
use Rattle.serde_json.specs.View.{view}
use Rattle.json_fields.specs.Field.{text_at}
use Rattle.entry_texts.proofs.ReadingLemmas.{no_client_solves, no_client_analyses}
use Rattle.entry_texts.proofs.reading.told_as.Goals as goal

pub returns-in-Some-Solved-clause-given : goal.returns-in-Some-Solved-clause-given
returns-in-Some-Solved-clause-given c = λ name command user same.
    let word : text_at (codes "cmd") (view c.args.value.now) ≡ Some (codes "Solved") = sym c.in-Some-Solved.ensures
    ∙ ap Some c.in-Some-Solved.is-Solved in
    absurd (no_client_solves (view c.args.value.now) command word same)

pub returns-in-Some-Analysed-clause-given : goal.returns-in-Some-Analysed-clause-given
returns-in-Some-Analysed-clause-given c = λ name command user same.
    let word : text_at (codes "cmd") (view c.args.value.now) ≡ Some (codes "Analysed") = sym c.in-Some-Analysed.ensures
    ∙ ap Some c.in-Some-Analysed.is-Analysed in
    absurd (no_client_analyses (view c.args.value.now) command word same)
