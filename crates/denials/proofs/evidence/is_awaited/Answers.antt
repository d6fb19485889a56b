use Rattle.denials.proofs.TableLemmas.{not_awaited}
use Rattle.denials.proofs.evidence.is_awaited.Goals as goal

pub returns-in-None : goal.returns-in-None
returns-in-None c = not_awaited c.args.public.now.movement c.args.public.now.live c.args.board c.args.table
    c.in-None.ensures.none
