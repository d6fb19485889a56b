use Rattle.std.proofs.Common.{◌∙◌, ap, sym}
use Rattle.std.proofs.lemmas.Bool.{iff_false}
use Rattle.cards.specs.Play.{following}
use Rattle.cards.proofs.PlayLemmas.{following-none, following-some}
use Rattle.cards.proofs.trick.following.Goals as goal

pub returns-then-is_empty : goal.returns-then-is_empty
returns-then-is_empty c =
    sym (following-none _ _ (c.is_empty.ensures.0 c.if-is_empty.true)) ∙ ap (following c.args.hand)
    c.of_suit-held.ensures

pub returns-else-is_empty : goal.returns-else-is_empty
returns-else-is_empty c =
    sym (following-some _ _ (λ none. iff_false c.is_empty.ensures c.if-is_empty.false none))
    ∙ ap (following c.args.hand) c.of_suit-held.ensures
