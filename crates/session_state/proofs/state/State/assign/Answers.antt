use Rattle.std.proofs.Common.{◌≡◌, None, length, sym, ap, subst, ◌∙◌, arith}
use Rattle.session_roles.specs.Role.{with_role}
use Rattle.rbac.specs.RoleData.{RoleData, assign_user}
use Rattle.rbac.specs.Refusals.{RefusesAssignment}
use Rattle.session_state.specs.Apply.{effect}
use Rattle.session_state.specs.Refusal.{hindrance_of}
use Rattle.session_state.specs.Seats.{AreSeated}
use Rattle.session_state.specs.contracts.state.State.{the_view}
use Rattle.session_commands.specs.declared.command.Command.TheVariants.{Assign}
use Rattle.rbac.proofs.AccountLemmas.{length_changed}
use Rattle.session_state.proofs.AccountCauseLemmas.{role_is_assigned}
use Rattle.session_state.proofs.SeatLemmas.{seated_changed}
use Rattle.session_state.proofs.state.State.assign.Goals as goal

pub unreachable-requires : goal.unreachable-requires
unreachable-requires c =
    let unhindered : hindrance_of (the_view c.self.inside) (Assign c.args.name c.args.role) ≡ None =
    ap (λ state. hindrance_of state (Assign c.args.name c.args.role)) c.self.view_is ∙ c.requires in
    role_is_assigned (the_view c.self.inside) c.args.name c.args.role unhindered c.in_default.field-0
    (subst (λ name. RefusesAssignment c.self.inside.roles name c.args.role c.in_default.field-0) c.as_str.ensures.text
    c.in_default.ensures.cause.holds)

pub invariant_of-self : goal.invariant_of-self
invariant_of-self c =
    let inside = c.self.inside in
    let kept = c.self.invariant in
    let changed = c.in-Ok.ensures.assigned ∙ ap (λ name. assign_user inside.roles name c.args.role)
    c.as_str.ensures.text in
    let as_many = ap (λ (roles : RoleData). length roles.accounts) changed ∙ length_changed
    (λ set. with_role set c.args.role) c.args.name inside.roles.accounts in
    record {
      cells = kept.cells;
      marks = kept.marks;
      boards = kept.boards;
      tables = kept.tables;
      deals = kept.deals;
      digests = kept.digests ∙ sym as_many;
      digest_room = kept.digest_room;
      names = kept.names ∙ sym as_many;
      name_room = kept.name_room;
      seats = kept.seats;
      users = omega (arith, as_many, kept.users);
      seated = subst (λ roles. AreSeated roles inside.seats.items) (sym changed)
          (seated_changed (λ set. with_role set c.args.role) inside.roles c.args.name inside.seats.items kept.seated);
      placed = kept.placed;
      edition = ap (λ (roles : RoleData). roles.edition) changed ∙ kept.edition;
      live = kept.live;
    }

pub returns : goal.returns
returns c =
    let changed = c.in-Ok.ensures.assigned ∙ ap (λ name. assign_user c.self.inside.roles name c.args.role)
    c.as_str.ensures.text in
    (λ i. record (the_view c.self.inside) { roles = changed i })
    ∙ ap (λ state. effect state (Assign c.args.name c.args.role)) c.self.view_is
