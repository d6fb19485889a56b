use Rattle.std.proofs.Common.{rules}
use Rattle.session_check.proofs.TextLemmas.{line_beside}
use Rattle.session_check.proofs.checking.line_in.Goals as goal

pub returns-in-Some : goal.returns-in-Some
returns-in-Some c =
    line_beside _ c.args.text.now c.in-Some.boards.now c.args.offset c.line_at.result c.requires.0 (search rules)
    c.requires.1 c.line_at.ensures
