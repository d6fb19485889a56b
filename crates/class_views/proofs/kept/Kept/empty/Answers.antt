use Rattle.std.proofs.Common.{rules, ◌≡◌, length}
use Rattle.class_views.proofs.KeptLemmas.{nothing_kept}
use Rattle.class_views.proofs.kept.Kept.empty.Goals as goal

pub returns : goal.returns
returns c =
    let classes = c.in_ok-classes.classes.items in
    let rows = c.in_ok-rows.rows.items in
    let each_class : length classes ≡ 36 = search rules in
    let each_board : length rows ≡ c.args.boards = search rules in
    nothing_kept c.args.boards classes rows each_class each_board c.in_ok-classes.ensures.none c.in_ok-rows.ensures.none
    c.in_ok-rows.ensures.small
