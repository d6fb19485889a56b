use Rattle.std.proofs.Common.{subst}
use Rattle.position_patterns.specs.Remainder.{IsAmong}
use Rattle.position_patterns.proofs.RemainderLemmas.{among_of, among_is_part}
use Rattle.position_patterns.proofs.SetLemmas.{in_common}
use Rattle.position_patterns.proofs.holders.Holders.part.Goals as goal

pub returns-clause-cards : goal.returns-clause-cards
returns-clause-cards c =
    subst (IsAmong _ c.args.cards) c.self.view_is
    (among_of _ _ _ (in_common _ _ _ _ c.difference.ensures c.difference-2.ensures)
    (in_common _ _ _ _ c.difference-3.ensures c.difference-4.ensures)
    (in_common _ _ _ _ c.difference-5.ensures c.difference-6.ensures)
    (in_common _ _ _ _ c.difference-7.ensures c.difference-8.ensures))

pub returns-clause-part : goal.returns-clause-part
returns-clause-part c = among_is_part _ _ c.args.cards (returns-clause-cards c)
