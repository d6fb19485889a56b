use Rattle.pbn_export.proofs.tables.written_tag.Goals as goal

pub returns : goal.returns
returns c = c.finish.ensures _ (c.text.ensures _ (c.part.ensures _ _ c.new.ensures c.tag_line.ensures))
