use Rattle.std.proofs.Common.{false, ap, refl, ◌∙◌, sym}
use Rattle.pbn_records.specs.Shown.{as_read, values_read}
use Rattle.pbn_records.specs.declared.state.State.{State}
use Rattle.pbn_records.proofs.StateLemmas.{values_at, end_at, end_fault, ok_of, err_of}
use Rattle.pbn_records.proofs.state.State.end_game.Goals as goal

pub returns-clause-ended : goal.returns-clause-ended
returns-clause-ended c =
    let old = c.args.self.now in
    let new : State = record {
      boards = c.args.self.now.boards;
      started = false;
      tags = c.end.new.self;
      before = c.end.new.before;
      known = c.add_game.new.known;
    } in
    ok_of c.add_game.result
    (λ known faultless walk at.
    end_at old new walk (values_read c.end.new.before) refl refl c.end.ensures.none (λ used. refl)
    (sym at.started ∙ c.if-not-self.false)
    (values_at old walk (values_read c.end.new.before) at (λ used. ap as_read (c.end.ensures.ended used)))
    known faultless at)
    c.add_game.ensures.known c.add_game.ensures.faultless

pub returns-clause-fault : goal.returns-clause-fault
returns-clause-fault c =
    err_of c.add_game.result
    (λ error faults walk at.
    end_fault c.args.self.now walk (values_read c.end.new.before) error
    (values_at c.args.self.now walk (values_read c.end.new.before) at (λ used. ap as_read (c.end.ensures.ended used)))
    (sym at.started ∙ c.if-not-self.false) (faults walk.done at.known))
    c.add_game.ensures.fault
