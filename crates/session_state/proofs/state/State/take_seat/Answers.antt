use Rattle.std.proofs.Common.{◌≡◌, ◌≤◌, ◌++◌, ◌∷◌, [], None, length, sym, ap, subst, ◌∙◌, arith}
use Rattle.std.proofs.lemmas.List.{length_push}
use Rattle.session_state.specs.Refusal.{hindrance_of}
use Rattle.session_state.specs.Seats.{AreSeated, AreSeatsOf}
use Rattle.session_state.specs.contracts.state.State.{the_view}
use Rattle.session_commands.specs.declared.command.Command.TheVariants as command
use Rattle.session_state.specs.declared.seated.Seated.{Seated}
use Rattle.session_state.proofs.SeatLemmas.{seats_are_few}
use Rattle.session_state.proofs.SeatCauseLemmas.{seats_still_apart, seats_still_placed}
use Rattle.session_state.proofs.state.State.take_seat.Goals as goal

pub put_item-requires : goal.put_item-requires
put_item-requires c =
    let inside = c.self.inside in
    let seat = c.args.seat in
    let seated : Seated = record { name = c.args.name; seat = seat } in
    let unhindered : hindrance_of (the_view inside) (command.Seat c.args.name seat.pair seat.place) ≡ None =
    ap (λ state. hindrance_of state (command.Seat c.args.name seat.pair seat.place)) c.self.view_is ∙ c.requires in
    let are = seats_still_apart (the_view inside) c.args.name seat.pair seat.place unhindered c.self.invariant.seated in
    let few : length (inside.seats.items ++ seated ∷ []) ≤ length inside.roles.accounts =
    seats_are_few inside.roles (inside.seats.items ++ seated ∷ []) are in
    omega (
      arith,
      few,
      length_push inside.seats.items seated,
      c.self.invariant.users,
      c.self.invariant.seats,
      inside.seats.ok.0,
    )

pub invariant_of-self : goal.invariant_of-self
invariant_of-self c =
    let inside = c.self.inside in
    let kept = c.self.invariant in
    let seat = c.args.seat in
    let unhindered : hindrance_of (the_view inside) (command.Seat c.args.name seat.pair seat.place) ≡ None =
    ap (λ state. hindrance_of state (command.Seat c.args.name seat.pair seat.place)) c.self.view_is ∙ c.requires in
    record {
      cells = kept.cells;
      marks = kept.marks;
      boards = kept.boards;
      tables = kept.tables;
      deals = kept.deals;
      digests = kept.digests;
      digest_room = kept.digest_room;
      names = kept.names;
      name_room = kept.name_room;
      seats = omega (arith, kept.seats, c.put_item.ensures.capacity);
      users = kept.users;
      seated =
          subst (AreSeated inside.roles) (sym c.put_item.ensures.items)
          (seats_still_apart (the_view inside) c.args.name seat.pair seat.place unhindered kept.seated);
      placed =
          subst (AreSeatsOf inside.public.movement) (sym c.put_item.ensures.items)
          (seats_still_placed (the_view inside) c.args.name seat.pair seat.place unhindered kept.placed);
      edition = kept.edition;
      live = kept.live;
    }
