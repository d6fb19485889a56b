use Rattle.std.proofs.Common.{◌≡◌, rules, sym, ap, subst, ◌∙◌, arith}
use Rattle.std.specs.Prelude.{not}
use Rattle.std.proofs.lemmas.Fn.{filter_same}
use Rattle.rbac.specs.Account.{same_name}
use Rattle.session_state.specs.Apply.{effect}
use Rattle.session_state.specs.Seats.{without_seat, AreSeated, AreSeatsOf}
use Rattle.session_state.specs.contracts.state.State.{the_view}
use Rattle.session_commands.specs.declared.command.Command.TheVariants as command
use Rattle.session_state.specs.declared.seated.Seated.{Seated}
use Rattle.session_state.proofs.PlacedLemmas.{one_less_placed}
use Rattle.session_state.proofs.SeatLemmas.{one_less_sits}
use Rattle.session_state.proofs.state.State.unseat.Goals as goal

pub invariant_of-self : goal.invariant_of-self
invariant_of-self c =
    let kept = c.self.invariant in
    let seats = c.self.inside.seats.items in
    let left : c.retain.new.self.items ≡ without_seat seats c.args.name =
    filter_same _ (λ (seated : Seated). not (same_name seated.name c.args.name)) _ (λ x b kept called. search rules)
    seats c.retain.new.self.items c.retain.ensures.filtered in
    record {
      cells = kept.cells;
      marks = kept.marks;
      boards = kept.boards;
      tables = kept.tables;
      deals = kept.deals;
      digests = kept.digests;
      digest_room = kept.digest_room;
      names = kept.names;
      name_room = kept.name_room;
      seats = omega (arith, kept.seats, c.retain.ensures.capacity);
      users = kept.users;
      seated = subst (AreSeated c.self.inside.roles) (sym left) (one_less_sits c.self.inside.roles seats c.args.name
          kept.seated);
      placed = subst (AreSeatsOf c.self.inside.public.movement) (sym left)
          (one_less_placed c.self.inside.public.movement seats c.args.name kept.placed);
      edition = kept.edition;
      live = kept.live;
    }

pub returns : goal.returns
returns c =
    let seats = c.self.inside.seats.items in
    let left : c.retain.new.self.items ≡ without_seat seats c.args.name =
    filter_same _ (λ (seated : Seated). not (same_name seated.name c.args.name)) _ (λ x b kept called. search rules)
    seats c.retain.new.self.items c.retain.ensures.filtered in
    (λ i. record (the_view c.self.inside) { seats = left i }) ∙ ap (λ state. effect state (command.Unseat c.args.name))
    c.self.view_is
