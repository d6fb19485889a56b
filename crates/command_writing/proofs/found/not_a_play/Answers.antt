use Rattle.command_writing.proofs.found.not_a_play.Goals as goal

pub returns : goal.returns
returns c = c.object.ensures _ (c.member.ensures _ _ c.new.ensures c.from.ensures)
