use Rattle.pbn_records.proofs.FourPartsLemmas.{begin_is}
use Rattle.pbn_records.proofs.parts.deal_parts.Goals as goal

pub returns-in_default-first_player-clause-none : goal.returns-in_default-first_player-clause-none
returns-in_default-first_player-clause-none c = λ first own left opposite right has.
    c.in_default-first_player.ensures.none first has.letter own has.names
    (begin_is c.args.tag.now.value.now c.args.tag.now.four c.in-Some.parts first own left opposite right
    c.args.tag.now.parted c.in-Some.is has)
