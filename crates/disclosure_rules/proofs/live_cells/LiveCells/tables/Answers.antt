use Rattle.std.proofs.Common.{◌⊎◌, ◌<◌, [], length, sym, ap, ◌∙◌, arith, inl, inr}
use Rattle.std.proofs.lemmas.Bool.{cases_lt}
use Rattle.std.proofs.lemmas.List.{get_or_default}
use Rattle.disclosure_rules.specs.LiveCells.{tables_at}
use Rattle.disclosure_rules.proofs.LiveCellsLemmas.{tables_at_place, tables_at_none}
use Rattle.disclosure_rules.proofs.live_cells.LiveCells.tables.Goals as goal

pub returns-then-board-lt1 : goal.returns-then-board-lt1
returns-then-board-lt1 c =
    let live = c.self.inside.tables in
    let all = c.self.invariant in
    let out : (c.args.board < 1) ⊎ (length live < c.args.board) =
    elim (cases_lt c.args.board 1) [ inl low ↦ inl low | inr from ↦ inr (omega (arith, all)) ] in
    c.new.ensures ∙ sym (tables_at_none live c.args.board out) ∙ ap (λ live. tables_at live c.args.board) c.self.view_is

pub returns : goal.returns
returns c =
    let live = c.self.inside.tables in
    let all = c.self.invariant in
    get_or_default live _ _ [] (omega (arith, all))
    ∙ sym (tables_at_place live c.args.board (omega arith))
    ∙ ap (λ live. tables_at live c.args.board) c.self.view_is
