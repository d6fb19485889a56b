use Rattle.std.proofs.Common.{◌<◌, ◌-◌, length, sym, ap, ◌∙◌, subst, arith, length-set}
use Rattle.std.specs.Prelude.{slice_set}
use Rattle.disclosure_rules.specs.LiveCells.{with_live}
use Rattle.session_state.specs.Apply.{with_result}
use Rattle.session_state.specs.contracts.state.State.{the_view}
use Rattle.session_state.specs.SessionState.{cell_index, AreLive}
use Rattle.session_state.proofs.LiveLemmas.{result_live}
use Rattle.session_state.proofs.state.State.set_result.Goals as goal

pub returns : goal.returns
returns c =
    let inside = c.self.inside in
    (λ i. record (the_view inside) {
      public = record inside.public { live = c.insert.ensures i };
      cells = slice_set inside.cells.items (c.cell_index-place.ensures.place i) c.args.known;
    })
    ∙ ap (λ state. with_result state c.args.cell c.args.known) c.self.view_is

pub invariant_of-self : goal.invariant_of-self
invariant_of-self c =
    let inside = c.self.inside in
    let kept = c.self.invariant in
    let cell = c.args.cell in
    let below : cell_index cell < length inside.cells.items = omega (
      arith,
      inside.cells.ok.0,
      kept.cells,
      c.cell_index-place.ensures.place,
      c.cell_index-place.ensures.below,
    ) in
    record {
      cells = kept.cells;
      marks = kept.marks;
      tables = kept.tables;
      deals = kept.deals;
      digests = kept.digests;
      digest_room = kept.digest_room;
      names = kept.names;
      name_room = kept.name_room;
      seats = kept.seats;
      users = kept.users;
      seated = kept.seated;
      placed = kept.placed;
      boards = ap length c.insert.ensures ∙ length-set inside.public.live (cell.board - 1) _ ∙ kept.boards;
      edition = kept.edition;
      live =
          subst (λ live. AreLive live (slice_set inside.cells.items c.cell_index-place.result c.args.known))
          (sym c.insert.ensures)
          (subst (λ place. AreLive (with_live inside.public.live cell)
          (slice_set inside.cells.items place c.args.known)) (sym c.cell_index-place.ensures.place)
          (result_live inside.public.live inside.cells.items cell c.args.known c.requires.placed below kept.boards
          kept.live c.requires.live));
    }
