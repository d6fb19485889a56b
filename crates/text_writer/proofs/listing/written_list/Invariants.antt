use Rattle.std.proofs.Common.{◌≡◌, map, take}
use Rattle.std.specs.List.{concat}
use Rattle.text_writer.proofs.listing.written_list.Given as goal

-- the items so far, one after another
abbrev pub invariant-loop-item : goal.invariant-loop-item
invariant-loop-item g l = l.written.items ≡ concat (map (g.W.Written.text l.known) (take l.item-index l.items))
