use Rattle.std.proofs.Common.{◌≡◌, ◌<◌, length, sym, ap, ◌∙◌, subst, arith}
use Rattle.std.specs.Prelude.{slice_set}
use Rattle.session_commands.specs.CellState.{has_result, with_costs}
use Rattle.session_state.specs.SessionState.{cell_at, cell_index, with_cell, AreLive}
use Rattle.session_state.specs.contracts.state.State.{the_view}
use Rattle.session_state.proofs.LiveLemmas.{same_live, costs_live}
use Rattle.session_state.proofs.state.State.analyse.Goals as goal

pub returns : goal.returns
returns c =
    let inside = c.self.inside in
    let cell = c.args.cell in
    (λ i. record (the_view inside) {
      cells = slice_set inside.cells.items (c.cell_index-place.ensures.place i)
          (c.with_costs.ensures i);
    })
    ∙ ap (λ known. with_cell (the_view inside) cell (with_costs known c.args.costs)) c.cell-known.ensures.known
    ∙ ap (λ state. with_cell state cell (with_costs (cell_at c.args.self.now cell) c.args.costs)) c.self.view_is

pub invariant_of-self : goal.invariant_of-self
invariant_of-self c =
    let inside = c.self.inside in
    let kept = c.self.invariant in
    let cell = c.args.cell in
    let below : cell_index cell < length inside.cells.items = omega (
      arith,
      inside.cells.ok.0,
      kept.cells,
      c.cell_index-place.ensures.place,
      c.cell_index-place.ensures.below,
    ) in
    let as_before : has_result c.with_costs.result ≡ has_result (cell_at (the_view inside) cell) =
    ap has_result c.with_costs.ensures ∙ costs_live c.cell-known.result c.args.costs
    ∙ ap has_result (c.cell-known.ensures.known ∙ ap (λ state. cell_at state cell) (sym c.self.view_is)) in
    record {
      cells = kept.cells;
      marks = kept.marks;
      tables = kept.tables;
      deals = kept.deals;
      digests = kept.digests;
      digest_room = kept.digest_room;
      names = kept.names;
      name_room = kept.name_room;
      seats = kept.seats;
      users = kept.users;
      seated = kept.seated;
      placed = kept.placed;
      boards = kept.boards;
      edition = kept.edition;
      live =
          subst (λ place. AreLive inside.public.live (slice_set inside.cells.items place c.with_costs.result))
          (sym c.cell_index-place.ensures.place)
          (same_live inside.public.live inside.cells.items cell c.with_costs.result c.requires below kept.boards
          kept.live as_before);
    }
