use Rattle.entry_texts.proofs.EntryLemmas.{entry_tells}
use Rattle.entry_texts.proofs.laws.texts_tell_the_entry.Goals as goal

pub returns : goal.returns
returns c = entry_tells
