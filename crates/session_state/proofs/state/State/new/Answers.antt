use Rattle.std.proofs.Common.{ℕ, List, [], ap, ◌∙◌, arith, length}
use Rattle.std.proofs.lemmas.List.{length-replicate}
use Rattle.movement.specs.Movement.{most_boards}
use Rattle.session_state.proofs.LiveLemmas.{none_live}
use Rattle.session_state.proofs.state.State.new.Goals as goal

pub invariant_of-result : goal.invariant_of-result
invariant_of-result c = record {
  cells = c.in_ok-cells.ensures.len;
  marks = c.requires.marks;
  boards = ap length c.requires.live ∙ length-replicate {A = List ℕ} most_boards [];
  tables = c.in_ok-tables.ensures.len;
  deals = omega (arith, c.args.deals.ok.0, c.requires.deals);
  digests = omega (arith, c.args.digests.ok.0, c.requires.digests);
  digest_room = c.requires.digest_room;
  names = omega (arith, c.args.names.ok.0, c.requires.names);
  name_room = c.requires.name_room;
  seats = c.requires.seats;
  users = c.requires.users;
  seated = c.requires.seated;
  placed = c.requires.placed;
  edition = c.requires.edition;
  live = none_live _ _ c.requires.live c.in_ok-cells.ensures.items;
}

pub returns : goal.returns
returns c =
    λ i. record {
      roles = c.args.roles;
      digests = c.args.digests.items;
      names = c.args.names.items;
      seats = c.args.seats.items;
      public =
          c.args.public;
      cells = c.in_ok-cells.ensures.items i;
      deals = c.args.deals.items;
      tables =
          c.in_ok-tables.ensures.items i;
      notices = c.args.notices;
    }
