use Rattle.std.proofs.Common.{◌∙◌, arith}
use Rattle.session_state.proofs.state.State.rename.Goals as goal

pub invariant_of-self : goal.invariant_of-self
invariant_of-self c =
    let kept = c.self.invariant in
    record {
      cells = kept.cells;
      marks = kept.marks;
      boards = kept.boards;
      tables = kept.tables;
      deals = kept.deals;
      digests = kept.digests;
      digest_room = kept.digest_room;
      names = c.put_at.ensures.len ∙ kept.names;
      name_room = omega (arith, kept.name_room, c.put_at.ensures.room);
      seats = kept.seats;
      users = kept.users;
      seated = kept.seated;
      placed = kept.placed;
      edition = kept.edition;
      live = kept.live;
    }
