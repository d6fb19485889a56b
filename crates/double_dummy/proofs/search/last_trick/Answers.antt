use Rattle.std.proofs.Common.{◌∙◌, ◌-◌, ap, nat_eq}
use Rattle.table_terms.specs.Place.{left_of, side_of}
use Rattle.cards.specs.Play.{trick_for, winner}
use Rattle.double_dummy.proofs.LastTrickLemmas.{has_only, last_trick_found}
use Rattle.double_dummy.proofs.search.last_trick.Goals as goal

pub returns : goal.returns
returns c =
    let p = c.args.position.now in
    let a = c.in_ok-a.a in
    let b = c.in_ok-b.b in
    let x = c.in_ok-c.c in
    let d = c.in_ok-d.d in
    let first = c.leader-leader.ensures in
    let second = c.left-second.ensures ∙ ap left_of first in
    let third = c.left-third.ensures ∙ ap left_of second in
    let fourth = c.left-fourth.ensures ∙ ap left_of third in
    let won = c.winner-winner.ensures
    ∙ ap (λ leader. winner c.strain.result leader a b x d) first
    ∙ ap (λ strain. winner strain p.leader a b x d) c.strain.ensures in
    last_trick_found p a b x d c.args.target c.decisive_of.result (nat_eq (c.args.target - c.trick_for.result) 0)
    c.requires.start c.hand.ensures.position c.requires.few
    (has_only p.hands _ _ _ a c.hand.ensures.hand first c.in_ok-a.ensures.held c.in_ok-a.ensures.alone)
    (has_only p.hands _ _ _ b c.hand-2.ensures.hand second c.in_ok-b.ensures.held c.in_ok-b.ensures.alone)
    (has_only p.hands _ _ _ x c.hand-3.ensures.hand third c.in_ok-c.ensures.held c.in_ok-c.ensures.alone)
    (has_only p.hands _ _ _ d c.hand-4.ensures.hand fourth c.in_ok-d.ensures.held c.in_ok-d.ensures.alone)
    (λ ownership. c.decisive_of.ensures ownership p.strain
    (c.winner-winner.ensures ∙ ap (λ strain. winner strain c.leader-leader.result a b x d) c.strain.ensures))
    (ap (λ n. nat_eq (c.args.target - n) 0)
    (c.trick_for.ensures.trick ∙ ap trick_for (c.side.ensures ∙ ap side_of won)))
