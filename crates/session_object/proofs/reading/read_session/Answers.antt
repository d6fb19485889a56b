use Rattle.std.proofs.Common.{◌≤◌, length, rules}
use Rattle.session_object.specs.Reading.{most_bytes}
use Rattle.session_object.proofs.ReadingLemmas.{memory_for_json}
use Rattle.session_object.proofs.reading.read_session.Goals as goal

pub returns-in-Ok-clause-memory : goal.returns-in-Ok-clause-memory
returns-in-Ok-clause-memory c =
    let short : length c.args.text.now ≤ most_bytes = search rules in
    memory_for_json c.read_text.result c.args.text.now short c.in-Ok.ensures.cases.1
