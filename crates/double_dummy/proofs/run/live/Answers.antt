use Rattle.std.proofs.Common.{◌∙◌, ap, subst}
use Rattle.std.specs.List.{list_any}
use Rattle.std.specs.Ordering.{eq_by_cmp}
use Rattle.cards.specs.Card.{card_cmp}
use Rattle.cards.specs.CardBits.{card_cmp_total}
use Rattle.std.specs.FinSet as set
use Rattle.double_dummy.proofs.LiveLemmas.{all_live}
use Rattle.double_dummy.proofs.run.live.Goals as goal
use Rattle.double_dummy.specs.Search.{HasLive}

pub returns : goal.returns
returns c =
    subst (HasLive c.args.position.now)
    (cc)
    (all_live c.args.position.now c.cards.result (λ x. ap (λ s. set.contains s x) c.cards.ensures
    ∙ set.contains-from_list card_cmp_total _ x
    ∙ ap (list_any (eq_by_cmp card_cmp x)) c.trick.ensures))
