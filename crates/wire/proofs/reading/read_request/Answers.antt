use Rattle.std.proofs.Common.{◌≤◌, length, rules}
use Rattle.wire.specs.Dialect.{dialect_of}
use Rattle.wire.specs.Request.{most_message_bytes}
use Rattle.wire.proofs.GrammarLemmas.{said, said_none}
use Rattle.wire.proofs.LineLemmas.{gives_short, few_given, memory_for_text}
use Rattle.wire.proofs.reading.read_request.Goals as goal

pub returns-clause-request : goal.returns-clause-request
returns-clause-request c =
    let short : length c.args.bytes.now ≤ most_message_bytes = search rules in
    said (dialect_of c.args.source c.args.edition) c.args.bytes.now c.read_bytes.result
    (gives_short (dialect_of c.args.source c.args.edition) c.args.bytes.now c.read_bytes.result short c.read_bytes.ensures.meaning)

pub returns-clause-none : goal.returns-clause-none
returns-clause-none c =
    let short : length c.args.bytes.now ≤ most_message_bytes = search rules in
    said_none (dialect_of c.args.source c.args.edition) c.args.bytes.now c.read_bytes.result
    (gives_short (dialect_of c.args.source c.args.edition) c.args.bytes.now c.read_bytes.result short c.read_bytes.ensures.meaning)

pub returns-clause-few : goal.returns-clause-few
returns-clause-few c =
    let short : length c.args.bytes.now ≤ most_message_bytes = search rules in
    few_given (dialect_of c.args.source c.args.edition) c.args.bytes.now c.read_bytes.result
    (gives_short (dialect_of c.args.source c.args.edition) c.args.bytes.now c.read_bytes.result short c.read_bytes.ensures.meaning)

pub returns-clause-memory : goal.returns-clause-memory
returns-clause-memory c =
    let short : length c.args.bytes.now ≤ most_message_bytes = search rules in
    memory_for_text c.read_bytes.result c.args.bytes.now short c.read_bytes.ensures.memory
