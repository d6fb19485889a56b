use Rattle.std.proofs.Common.{rules}
use Rattle.serde_json.specs.View.{view}
use Rattle.session_object.proofs.ReadingLemmas.{object_text, refused_in, read_in}
use Rattle.session_object.proofs.reading.read_text.Goals as goal

pub returns-clause-read : goal.returns-clause-read
returns-clause-read c =
    read_in c.read_object.result _ c.args.text.now (view c.in-Ok.value)
    (object_text c.args.text.now (view c.in-Ok.value) c.requires c.utf8.text c.in-Ok.ensures.ok (search rules))
    c.read_object.ensures.read

pub returns-clause-refused : goal.returns-clause-refused
returns-clause-refused c =
    refused_in c.read_object.result _ c.args.text.now (view c.in-Ok.value)
    (object_text c.args.text.now (view c.in-Ok.value) c.requires c.utf8.text c.in-Ok.ensures.ok (search rules))
    c.read_object.ensures.refused
