use Rattle.std.proofs.Common.{◌≡◌}
use Rattle.std.specs.Prelude.{◌&&◌, nat_le, filter}
use Rattle.std.specs.List.{range_with_len}
use Rattle.session_queries.specs.Shown.{shown}
use Rattle.published_view.specs.Listing.{is_listed}
use Rattle.published_view.proofs.listing.listed_from.Given as goal

abbrev pub invariant-loop-before : goal.invariant-loop-before
invariant-loop-before g l =
    l.boards.items
    ≡ filter (λ board. nat_le l.from board && is_listed (g.S.ShownState.seen l.shown_state).public.movement
    (shown (g.S.ShownState.seen l.shown_state) l.viewer) l.filter board) (range_with_len 1 l.before)
