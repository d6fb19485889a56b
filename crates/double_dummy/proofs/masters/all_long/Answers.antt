use Rattle.cards.specs.Hands.{hand_of}
use Rattle.double_dummy.proofs.RunnerLemmas.{long_both}
use Rattle.double_dummy.proofs.SureLemmas.{among_both}
use Rattle.double_dummy.proofs.masters.all_long.Goals as goal

pub returns-clause-among : goal.returns-clause-among
returns-clause-among c =
    let mine = hand_of c.args.position.now.hands c.args.holder in
    among_both c.union.result c.union-2.result c.union-3.result mine c.union-3.ensures
    (among_both c.long-spades.result c.long-hearts.result c.union.result mine c.union.ensures
    c.long-spades.ensures.among c.long-hearts.ensures.among)
    (among_both c.long-diamonds.result c.long-clubs.result c.union-2.result mine c.union-2.ensures
    c.long-diamonds.ensures.among c.long-clubs.ensures.among)

pub returns-clause-long : goal.returns-clause-long
returns-clause-long c =
    let p = c.args.position.now in
    long_both p c.args.holder c.union.result c.union-2.result c.union-3.result c.args.named c.union-3.ensures
    (long_both p c.args.holder c.long-spades.result c.long-hearts.result c.union.result c.args.named c.union.ensures
    c.long-spades.ensures.long c.long-hearts.ensures.long)
    (long_both p c.args.holder c.long-diamonds.result c.long-clubs.result c.union-2.result c.args.named
    c.union-2.ensures c.long-diamonds.ensures.long c.long-clubs.ensures.long)
