use Rattle.std.proofs.Common.{◌≡◌, None, length, sym, ap, subst, ◌∙◌, arith}
use Rattle.rbac.specs.RoleData.{RoleData}
use Rattle.session_state.specs.Apply.{effect}
use Rattle.session_state.specs.Refusal.{hindrance_of}
use Rattle.session_state.specs.Seats.{AreSeated}
use Rattle.session_state.specs.contracts.state.State.{the_view}
use Rattle.session_commands.specs.declared.command.Command.TheVariants.{AddInheritance}
use Rattle.session_state.proofs.AccountCauseLemmas.{pair_is_added}
use Rattle.session_state.proofs.SeatLemmas.{still_seated}
use Rattle.session_state.proofs.state.State.add_inheritance.Goals as goal

pub unreachable-requires : goal.unreachable-requires
unreachable-requires c =
    let unhindered : hindrance_of (the_view c.self.inside) (AddInheritance c.args.senior c.args.junior) ≡ None =
    ap (λ state. hindrance_of state (AddInheritance c.args.senior c.args.junior)) c.self.view_is ∙ c.requires in
    pair_is_added (the_view c.self.inside) c.args.senior c.args.junior unhindered c.in_default.field-0
    c.in_default.ensures.cause.holds

pub invariant_of-self : goal.invariant_of-self
invariant_of-self c =
    let inside = c.self.inside in
    let kept = c.self.invariant in
    let changed = c.in-Ok.ensures.added in
    let as_many = ap (λ (roles : RoleData). length roles.accounts) changed in
    record {
      cells = kept.cells;
      marks = kept.marks;
      boards = kept.boards;
      tables = kept.tables;
      deals = kept.deals;
      digests = kept.digests ∙ sym as_many;
      digest_room = kept.digest_room;
      names = kept.names ∙ sym as_many;
      name_room = kept.name_room;
      seats = kept.seats;
      users = omega (arith, as_many, kept.users);
      seated = subst (λ roles. AreSeated roles inside.seats.items) (sym changed)
          (still_seated _ _ inside.seats.items kept.seated (λ other there. there));
      placed = kept.placed;
      edition = ap (λ (roles : RoleData). roles.edition) changed ∙ kept.edition;
      live = kept.live;
    }

pub returns : goal.returns
returns c =
    let changed = c.in-Ok.ensures.added in
    (λ i. record (the_view c.self.inside) { roles = changed i })
    ∙ ap (λ state. effect state (AddInheritance c.args.senior c.args.junior)) c.self.view_is
