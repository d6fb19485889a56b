use Rattle.std.proofs.Common.{sym}
use Rattle.server_words.proofs.RowLemmas.{maybe_first_in_rows}
use Rattle.server_words.proofs.reading.text_of.Goals as goal

pub returns : goal.returns
returns c = maybe_first_in_rows c.args.given.now c.args.name.now _ (sym c.get_str.ensures)
