use Rattle.std.proofs.Common.{true, refl, ap}
use Rattle.pbn_records.specs.Shown.{as_written}
use Rattle.pbn_records.proofs.StateLemmas.{put_at}
use Rattle.pbn_records.proofs.state.State.put.Goals as goal

pub returns-clause-put : goal.returns-clause-put
returns-clause-put c = λ walk name at is none.
    put_at c.args.self.now
    (record {
      boards = c.args.self.now.boards;
      started = true;
      tags = c.add.new.self;
      before = c.args.self.now.before;
      known = c.args.self.now.known;
    })
    walk c.args.used (record { offset = c.args.tag.offset; name = name; value = c.args.tag.value.now })
    refl refl refl refl (ap as_written c.add.ensures.added) c.add.ensures.others at is none
