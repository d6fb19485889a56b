use Rattle.std.proofs.Common.{◌≡◌, ◌+◌, ◌<◌, ◌++◌, ◌∷◌, [], None, length, sym, ap, subst, ◌∙◌, arith}
use Rattle.std.proofs.lemmas.List.{length_push}
use Rattle.rbac.specs.Account.{new_account}
use Rattle.rbac.specs.Refusals.{RefusesUser}
use Rattle.rbac.specs.RoleData.{RoleData, add_user}
use Rattle.session_state.specs.Apply.{effect}
use Rattle.session_state.specs.Refusal.{hindrance_of}
use Rattle.session_state.specs.Seats.{AreSeated}
use Rattle.session_state.specs.contracts.state.State.{the_view}
use Rattle.session_commands.specs.declared.command.Command.TheVariants.{AddUser}
use Rattle.rbac.specs.Account.{most_users}
use Rattle.session_state.proofs.AccountCauseLemmas.{room_for_user, user_is_added}
use Rattle.session_state.proofs.SeatLemmas.{seated_added}
use Rattle.session_state.proofs.state.State.add_user.Goals as goal

pub unreachable-requires : goal.unreachable-requires
unreachable-requires c =
    let unhindered : hindrance_of (the_view c.self.inside) (AddUser c.args.name c.args.digest) ≡ None =
    ap (λ state. hindrance_of state (AddUser c.args.name c.args.digest)) c.self.view_is ∙ c.requires in
    user_is_added (the_view c.self.inside) c.args.name c.args.digest unhindered c.in_default.field-0
    (subst (λ name. RefusesUser c.self.inside.roles name c.in_default.field-0) c.as_str.ensures.text
    c.in_default.ensures.cause.holds)

pub put_item-requires : goal.put_item-requires
put_item-requires c =
    let unhindered : hindrance_of (the_view c.self.inside) (AddUser c.args.name c.args.digest) ≡ None =
    ap (λ state. hindrance_of state (AddUser c.args.name c.args.digest)) c.self.view_is ∙ c.requires in
    let room = room_for_user (the_view c.self.inside) c.args.name c.args.digest unhindered in
    omega (arith, room, c.self.invariant.digests, c.self.invariant.digest_room)

pub put_item-requires-2 : goal.put_item-requires-2
put_item-requires-2 c =
    let unhindered : hindrance_of (the_view c.self.inside) (AddUser c.args.name c.args.digest) ≡ None =
    ap (λ state. hindrance_of state (AddUser c.args.name c.args.digest)) c.self.view_is ∙ c.requires in
    let room = room_for_user (the_view c.self.inside) c.args.name c.args.digest unhindered in
    omega (arith, room, c.self.invariant.names, c.self.invariant.name_room)

pub invariant_of-self : goal.invariant_of-self
invariant_of-self c =
    let inside = c.self.inside in
    let kept = c.self.invariant in
    let unhindered : hindrance_of (the_view inside) (AddUser c.args.name c.args.digest) ≡ None =
    ap (λ state. hindrance_of state (AddUser c.args.name c.args.digest)) c.self.view_is ∙ c.requires in
    let room : length inside.roles.accounts < most_users = room_for_user (the_view inside) c.args.name c.args.digest
    unhindered in
    let added = c.in-Ok.ensures.added ∙ ap (add_user c.self.inside.roles) c.as_str.ensures.text in
    let more = ap (λ (roles : RoleData). length roles.accounts) added ∙ length_push inside.roles.accounts
    (new_account c.args.name) in
    record {
      cells = kept.cells;
      marks = kept.marks;
      boards = kept.boards;
      tables = kept.tables;
      deals = kept.deals;
      digests = c.put_item.ensures.len ∙ ap (λ n. n + 1) kept.digests ∙ sym more;
      digest_room = omega (arith, kept.digest_room, c.put_item.ensures.capacity);
      names = c.put_item-2.ensures.len ∙ ap (λ n. n + 1) kept.names ∙ sym more;
      name_room = omega (arith, kept.name_room, c.put_item-2.ensures.capacity);
      seats = kept.seats;
      users = omega (arith, more, room);
      seated = subst (λ roles. AreSeated roles inside.seats.items) (sym added)
          (seated_added inside.roles c.args.name inside.seats.items kept.seated);
      placed = kept.placed;
      edition = ap (λ (roles : RoleData). roles.edition) added ∙ kept.edition;
      live = kept.live;
    }

pub returns : goal.returns
returns c =
    let added = c.in-Ok.ensures.added ∙ ap (add_user c.self.inside.roles) c.as_str.ensures.text in
    let named = c.put_item-2.ensures.items ∙ ap (λ name. c.self.inside.names.items ++ name ∷ []) c.none.ensures in
    (λ i. record (the_view c.self.inside) {
      roles = added i;
      digests = c.put_item.ensures.items i;
      names = named i;
    })
    ∙ ap (λ state. effect state (AddUser c.args.name c.args.digest)) c.self.view_is
