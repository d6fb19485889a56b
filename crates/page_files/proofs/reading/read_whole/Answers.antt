use Rattle.std.proofs.Common.{rules, ◌≤◌, length}
use Rattle.page_files.proofs.WholeLemmas.{whole}
use Rattle.page_files.proofs.reading.read_whole.Goals as goal

pub returns-in-Ok-clause-whole : goal.returns-in-Ok-clause-whole
returns-in-Ok-clause-whole g c =
    let short : length c.read_to_end.new.buf.items ≤ c.args.most = search rules in
    whole g.I.Read.remaining c.args.reader c.take.result c.args.most c.new-bytes.result.items c.read_to_end.new.buf.items
    c.take.ensures.limit c.take.ensures.inner c.new-bytes.ensures.items c.in-Ok.ensures.bytes short
