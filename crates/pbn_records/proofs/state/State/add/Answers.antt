use Rattle.std.proofs.Common.{true, refl, sym, ◌∙◌}
use Rattle.pbn_records.proofs.StateLemmas.{skip_at, has_it, fault_of_step}
use Rattle.pbn_records.proofs.state.State.add.Goals as goal

pub returns-in_default-clause-added : goal.returns-in_default-clause-added
returns-in_default-clause-added c = λ walk at.
    skip_at c.args.self.now
    (record {
      boards = c.args.self.now.boards;
      started = true;
      tags = c.args.self.now.tags;
      before =
          c.args.self.now.before;
      known = c.args.self.now.known;
    })
    walk (record { offset = c.args.offset; name = c.args.name.now; value = c.args.value.now }) refl refl refl refl refl
    (sym c.in_default.ensures) at

pub returns-in-Err-clause-fault : goal.returns-in-Err-clause-fault
returns-in-Err-clause-fault c = λ walk at.
    fault_of_step c.args.self.now.boards walk (record {
      offset = c.args.offset;
      name = c.args.name.now;
      value =
          c.args.value.now;
    }) c.in-Err.error
    (has_it c.args.self.now walk c.in-Some.used c.args.name.now at (sym c.in-Some.ensures) ∙ sym c.has.ensures
    ∙ c.if-not-has.false)
    (c.in-Err.ensures.fault walk at)
