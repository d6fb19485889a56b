use Rattle.std.proofs.Common.{ap, ◌∙◌}
use Rattle.std.specs.Prelude.{encode_utf8}
use Rattle.std.proofs.Output.{has_written_of_eq}
use Rattle.cards.proofs.HandTextLemmas.{encode-rank_letter}
use Rattle.cards.proofs.rank.RankDisplay.fmt.Goals as goal

pub returns-clause-writes : goal.returns-clause-writes
returns-clause-writes g c = λ plain ok.
    has_written_of_eq _ _ _ _ _ (ap encode_utf8 c.letter.ensures ∙ encode-rank_letter _)
    (c.write_char.ensures.writes plain ok)
