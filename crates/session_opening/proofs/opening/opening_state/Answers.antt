use Rattle.std.proofs.Common.{
  ◌≡◌,
  ℕ,
  ◌≤◌,
  List,
  length,
  map,
  take,
  replicate,
  None,
  sym,
  ap,
  ◌∙◌,
  subst,
  arith,
  length-take-le,
}
use Rattle.std.proofs.lemmas.List.{length-map}
use Rattle.std.specs.Prelude.{IfOk}
use Rattle.movement.specs.Movement.{boards_of, most_boards}
use Rattle.pbn_records.specs.declared.board.Board.{Board}
use Rattle.rbac.specs.RoleData.{RoleData}
use Rattle.disclosure_rules.specs.declared.public.Public.{Public}
use Rattle.session_opening.specs.declared.new_user.NewUser.{NewUser}
use Rattle.session_opening.specs.NewUser.{account_of}
use Rattle.session_opening.specs.Joining.{JoinInTurn}
use Rattle.session_opening.specs.Opening.{opening_roles, opening_seats, opening_of}
use Rattle.session_state.specs.Seats.{AreSeated, AreSeatsOf}
use Rattle.session_state.specs.SessionState.{SessionState, most_cells}
use Rattle.session_commands.specs.declared.cell_state.CellState.TheVariants.{Empty}
use Rattle.session_opening.proofs.OpeningPlacedLemmas.{opening_placed}
use Rattle.session_opening.proofs.OpeningRefusalLemmas.{users_join, users_are_few}
use Rattle.session_opening.proofs.OpeningSeatLemmas.{users_seated}
use Rattle.session_opening.proofs.opening.opening_state.Goals as goal

-- lists that have one item for each of the same are as long
one_each : {X Y Z : Type 0} (f : X → Y) (g : X → Z) (xs : List X) (ys : List Y) (zs : List Z) → ys ≡ map f xs →
    zs ≡ map g xs → length ys ≡ length zs
one_each f g xs ys zs first second = ap length first ∙ length-map xs f ∙ sym (length-map xs g) ∙ sym (ap length second)

so_many : {X Y : Type 0} (f : X → Y) (xs : List X) (n : ℕ) (ys : List Y) → n ≤ length xs → ys ≡ map f (take n xs) →
    n ≤ length ys
so_many f xs n ys within is =
    let long : length ys ≡ n = ap length is ∙ length-map (take n xs) f ∙ length-take-le n xs within in
    omega (arith, long)

pub roles-requires : goal.roles-requires
roles-requires c =
    subst (JoinInTurn c.args.config.now.edition) (sym c.as_slice-users.ensures)
    (users_join c.args.config.now c.requires.allowed)

pub new-requires-clause-seated : goal.new-requires-clause-seated
new-requires-clause-seated c =
    subst (λ roles. AreSeated roles c.in_ok-seats.seats.items) (sym c.in_ok-roles.ensures)
    (subst (AreSeated (opening_roles c.args.config.now.edition c.as_slice-users.result.now))
    (sym c.in_ok-seats.ensures.items)
    (users_seated c.args.config.now.edition c.as_slice-users.result.now
    (subst (JoinInTurn c.args.config.now.edition) (sym c.as_slice-users.ensures)
    (users_join c.args.config.now c.requires.allowed))))

pub new-requires-clause-placed : goal.new-requires-clause-placed
new-requires-clause-placed c =
    let config = c.args.config.now in
    subst (λ (public : Public). AreSeatsOf public.movement c.in_ok-seats.seats.items) (sym c.public.ensures)
    (subst (AreSeatsOf config.movement) (sym c.in_ok-seats.ensures.items)
    (subst (λ users. AreSeatsOf config.movement (opening_seats users)) (sym c.as_slice-users.ensures)
    (opening_placed config c.requires.allowed)))

pub digests-requires : goal.digests-requires
digests-requires c =
    users_are_few c.args.config.now.edition c.as_slice-users.result.now
    (subst (JoinInTurn c.args.config.now.edition) (sym c.as_slice-users.ensures)
    (users_join c.args.config.now c.requires.allowed))

pub names-requires : goal.names-requires
names-requires c =
    users_are_few c.args.config.now.edition c.as_slice-users.result.now
    (subst (JoinInTurn c.args.config.now.edition) (sym c.as_slice-users.ensures)
    (users_join c.args.config.now c.requires.allowed))

pub seats-requires : goal.seats-requires
seats-requires c =
    users_are_few c.args.config.now.edition c.as_slice-users.result.now
    (subst (JoinInTurn c.args.config.now.edition) (sym c.as_slice-users.ensures)
    (users_join c.args.config.now c.requires.allowed))

pub new-requires-clause-deals : goal.new-requires-clause-deals
new-requires-clause-deals c =
    let config = c.args.config.now in
    subst (λ (public : Public). boards_of public.movement ≤ length c.in_ok-deals.deals.items) (sym c.public.ensures)
    (so_many (λ (board : Board). board.deal) config.boards (boards_of config.movement) c.in_ok-deals.deals.items
    c.requires.boards c.in_ok-deals.ensures)

pub new-requires-clause-digests : goal.new-requires-clause-digests
new-requires-clause-digests c =
    one_each (λ (user : NewUser). user.digest) account_of c.as_slice-users.result.now c.in_ok-digests.digests.items
    c.in_ok-roles.roles.accounts
    c.in_ok-digests.ensures.items (ap (λ (roles : RoleData). roles.accounts) c.in_ok-roles.ensures)

pub new-requires-clause-names : goal.new-requires-clause-names
new-requires-clause-names c =
    one_each (λ (user : NewUser). user.shown) account_of c.as_slice-users.result.now c.in_ok-names.names.items
    c.in_ok-roles.roles.accounts
    c.in_ok-names.ensures.items (ap (λ (roles : RoleData). roles.accounts) c.in_ok-roles.ensures)

pub returns : goal.returns
returns c =
    let config = c.args.config.now in
    let users = c.as_slice-users.ensures in
    let opening : record {
      roles = c.in_ok-roles.roles;
      digests = c.in_ok-digests.digests.items;
      names = c.in_ok-names.names.items;
      seats = c.in_ok-seats.seats.items;
      public = c.public.result;
      cells = replicate most_cells Empty;
      deals = c.in_ok-deals.deals.items;
      tables = replicate most_boards None;
      notices = c.in_ok-notices.notices;
    } ≡ opening_of config =
    λ i. record {
      roles = (c.in_ok-roles.ensures ∙ ap (opening_roles config.edition) users) i;
      digests = (c.in_ok-digests.ensures.items ∙ ap (map (λ (user : NewUser). user.digest)) users) i;
      names = (c.in_ok-names.ensures.items ∙ ap (map (λ (user : NewUser). user.shown)) users) i;
      seats = (c.in_ok-seats.ensures.items ∙ ap opening_seats users) i;
      public = c.public.ensures i;
      cells = replicate most_cells Empty;
      deals = c.in_ok-deals.ensures i;
      tables = replicate most_boards None;
      notices = c.in_ok-notices.ensures i;
    } in
    subst (λ (opened : SessionState). IfOk c.new.result (λ state. state ≡ opened)) opening c.new.ensures
