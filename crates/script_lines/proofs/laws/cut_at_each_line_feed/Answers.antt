use Rattle.script_lines.proofs.LineLemmas.{pieces_unbroken}
use Rattle.script_lines.proofs.laws.cut_at_each_line_feed.Goals as goal

pub returns-clause-unbroken : goal.returns-clause-unbroken
returns-clause-unbroken c text = pieces_unbroken text
