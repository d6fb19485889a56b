use Rattle.std.proofs.Common.{ap, ◌∙◌, refl}
use Rattle.std.specs.Prelude.{encode_utf8}
use Rattle.std.proofs.Output.{has_written_of_eq}
use Rattle.std.proofs.lemmas.Grind.{put_two}
use Rattle.cards.proofs.HandTextLemmas.{encode-rank_letter, encode-suit_letter}
use Rattle.cards.proofs.card.CardDisplay.fmt.Goals as goal

pub returns-clause-writes : goal.returns-clause-writes
returns-clause-writes g c = λ plain ok.
    let suit = c.in_ok-write_char.ensures.writes plain refl in
    put_two _ _ _ _ _ _ _
    (has_written_of_eq _ _ _ _ _ (ap encode_utf8 c.letter.ensures ∙ encode-suit_letter _) suit)
    (has_written_of_eq _ _ _ _ _ (ap encode_utf8 c.letter-2.ensures ∙ encode-rank_letter _)
    (c.write_char-2.ensures.writes suit.plain ok))
    refl
