use Rattle.std.proofs.Common.{◌∙◌, ap, sym}
use Rattle.std.proofs.lemmas.Bool.{not-false}
use Rattle.table_terms.specs.Strain.{trump_of}
use Rattle.double_dummy.proofs.SureLemmas.{no_trumps}
use Rattle.double_dummy.proofs.sure.has_trump.Goals as goal

pub returns : goal.returns
returns c lacks card =
    no_trumps (trump_of c.args.position.now.strain) c.in-Some.suit c.args.cards c.of_suit.result
    (ap trump_of (sym c.strain.ensures) ∙ sym c.trump.ensures ∙ c.in-Some.is) c.of_suit.ensures
    (c.is_empty.ensures.0 (not-false _ lacks)) card
