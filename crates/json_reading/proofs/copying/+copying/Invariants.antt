use Rattle.std.proofs.Common.{◌≡◌, Some, take}
use Rattle.json.specs.Value.{members_view as borrowed_members}
use Rattle.serde_json.specs.Data.{no_members}
use Rattle.serde_json.specs.Read.{of_members}
use Rattle.serde_json.specs.View.{members_view}
use Rattle.json_reading.proofs.CopyLemmas.{read_each, seen_each}
use Rattle.json_reading.proofs.copying.+copying.Given as goal

abbrev pub invariant-copied_items-loop-item : goal.invariant-copied_items-loop-item
invariant-copied_items-loop-item l = read_each (take l.item-index l.item-items) ≡ seen_each l.copies.items

abbrev pub invariant-copied_members-loop-member : goal.invariant-copied_members-loop-member
invariant-copied_members-loop-member l =
    of_members (borrowed_members (take l.member-index l.member-items)) no_members ≡ Some (members_view l.copies.entries)
