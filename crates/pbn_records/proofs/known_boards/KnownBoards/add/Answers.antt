use Rattle.std.proofs.Common.{rules, ◌<◌, length}
use Rattle.pbn_records.proofs.InOrderLemmas.{one_read}
use Rattle.pbn_records.proofs.known_boards.KnownBoards.add.Goals as goal

pub invariant_of-self-2 : goal.invariant_of-self-2
invariant_of-self-2 c =
    let within : c.args.number < length c.args.self.now.places = search rules in
    record {
      same = one_read c.args.self.now.in_order c.take.result c.one_more-in_order.result c.args.self.now.places
          c.from.result c.args.number
          c.args.board c.take.ensures.value c.from.ensures within c.args.self.now.same c.one_more-in_order.ensures.more
          c.one_more-in_order.ensures.none;
    }
