use Rattle.std.proofs.Common.{◌<◌, ◌-◌, length, refl, sym, ap, ◌∙◌, subst, arith, length-set}
use Rattle.std.specs.Prelude.{slice_set}
use Rattle.disclosure_rules.specs.LiveCells.{without_live}
use Rattle.session_state.specs.Apply.{without_result}
use Rattle.session_state.specs.contracts.state.State.{the_view}
use Rattle.session_commands.specs.declared.cell_state.CellState.TheVariants.{Empty}
use Rattle.session_state.specs.SessionState.{cell_index, AreLive}
use Rattle.session_state.proofs.LiveLemmas.{cleared_live}
use Rattle.session_state.proofs.state.State.void.Goals as goal

pub returns : goal.returns
returns c =
    let inside = c.self.inside in
    (λ i. record (the_view inside) {
      public = record inside.public { live = c.remove.ensures i };
      cells = slice_set inside.cells.items (c.cell_index-place.ensures.place i) Empty;
    })
    ∙ ap (λ state. without_result state c.args.cell) c.self.view_is

pub invariant_of-self : goal.invariant_of-self
invariant_of-self c =
    let inside = c.self.inside in
    let kept = c.self.invariant in
    let cell = c.args.cell in
    let below : cell_index cell < length inside.cells.items = omega (
      arith,
      inside.cells.ok.0,
      kept.cells,
      c.cell_index-place.ensures.place,
      c.cell_index-place.ensures.below,
    ) in
    record {
      cells = kept.cells;
      marks = kept.marks;
      tables = kept.tables;
      deals = kept.deals;
      digests = kept.digests;
      digest_room = kept.digest_room;
      names = kept.names;
      name_room = kept.name_room;
      seats = kept.seats;
      users = kept.users;
      seated = kept.seated;
      placed = kept.placed;
      boards = ap length c.remove.ensures ∙ length-set inside.public.live (cell.board - 1) _ ∙ kept.boards;
      edition = kept.edition;
      live =
          subst (λ live. AreLive live (slice_set inside.cells.items c.cell_index-place.result Empty))
          (sym c.remove.ensures)
          (subst (λ place. AreLive (without_live inside.public.live cell) (slice_set inside.cells.items place Empty))
          (sym c.cell_index-place.ensures.place)
          (cleared_live inside.public.live inside.cells.items cell Empty c.requires.placed below kept.boards kept.live
          refl));
    }
