use Rattle.std.proofs.Common.{◌≡◌, ◌<◌, false, length, refl, sym, ap, ◌∙◌, subst, arith}
use Rattle.std.specs.Prelude.{slice_set}
use Rattle.session_commands.specs.declared.cell_state.CellState.TheVariants.{Entered}
use Rattle.session_commands.specs.declared.command.Command.TheVariants.{Enter}
use Rattle.session_state.specs.contracts.state.State.{the_view}
use Rattle.session_commands.specs.CellState.{has_result}
use Rattle.session_state.specs.Refusal.{hindrance_of}
use Rattle.session_state.specs.SessionState.{cell_at, cell_index, AreLive}
use Rattle.session_state.proofs.HindranceLemmas.{entry_is_free}
use Rattle.session_state.proofs.LiveLemmas.{entered_live}
use Rattle.session_state.proofs.state.State.enter.Goals as goal

pub invariant_of-self : goal.invariant_of-self
invariant_of-self c =
    let inside = c.self.inside in
    let kept = c.self.invariant in
    let cell = c.args.cell in
    let known = Entered c.args.outcome c.args.play in
    let below : cell_index cell < length inside.cells.items = omega (
      arith,
      inside.cells.ok.0,
      kept.cells,
      c.cell_index-place.ensures.place,
      c.cell_index-place.ensures.below,
    ) in
    let free : has_result (cell_at (the_view inside) cell) ≡ false =
    entry_is_free (the_view inside) cell c.args.outcome c.args.play
    (ap (λ state. hindrance_of state (Enter cell c.args.outcome c.args.play)) c.self.view_is
    ∙ c.requires.unhindered) in
    record {
      cells = kept.cells;
      marks = kept.marks;
      tables = kept.tables;
      deals = kept.deals;
      digests = kept.digests;
      digest_room = kept.digest_room;
      names = kept.names;
      name_room = kept.name_room;
      seats = kept.seats;
      users = kept.users;
      seated = kept.seated;
      placed = kept.placed;
      boards = kept.boards;
      edition = kept.edition;
      live =
          subst (λ place. AreLive inside.public.live (slice_set inside.cells.items place known))
          (sym c.cell_index-place.ensures.place)
          (entered_live inside.public.live inside.cells.items cell known c.requires.placed below kept.boards kept.live
          refl free);
    }
