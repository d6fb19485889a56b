use Rattle.std.proofs.Common.{◌≡◌, ◌∙◌, Some, None, take, take_all, string_bytes, sym, ap, arith, rules}
use Rattle.json.specs.Value.{value_view}
use Rattle.serde_json.specs.Data.{no_members, put}
use Rattle.serde_json.specs.Read.{of_json}
use Rattle.serde_json.specs.View.{view, members_view}
use Rattle.serde_json.proofs.Views.{members_view-insert_entry}
use Rattle.json_reading.proofs.CopyLemmas.{read_each, seen_each, item_copied, all_copied, item_refused, member_copied, member_refused}
use Rattle.json_reading.proofs.copying.+copying.Goals as goal

pub copied_items-loop-item-init : goal.copied_items-loop-item-init
copied_items-loop-item-init t c = ap seen_each (sym c.in_ok-copies.ensures.items)

pub copied_items-loop-item-preserved : goal.copied_items-loop-item-preserved
copied_items-loop-item-preserved t c =
    let l = c.loop-item in
    let is : of_json (value_view c.item-item.result) ≡ Some (view c.in-Some.copy) = search rules in
    item_copied c.deref-item-items.result.now l.copies.items l.item-index c.item-item.result c.in-Some.copy
    (omega arith) c.item-item.is l.invariant is
    ∙ ap seen_each (sym c.in_ok-push.ensures.items)

pub copied_items-returns : goal.copied_items-returns
copied_items-returns t c =
    let l = c.loop-item in
    let items = c.deref-item-items.result.now in
    let all : take l.item-index items ≡ items = take_all l.item-index items (omega arith) in
    rw (← c.deref-item-items.ensures.value)
    (all_copied items l.copies.items (ap read_each (sym all) ∙ l.invariant))

pub copied_members-loop-member-preserved : goal.copied_members-loop-member-preserved
copied_members-loop-member-preserved t c =
    let l = c.loop-member in
    let v = c.in-Some.copy in
    let name = c.member-item.result.0.now in
    let is : of_json (value_view c.member-item.result.1) ≡ Some (view v) = search rules in
    let named : string_bytes c.in_ok-key.key ≡ name = search rules in
    let put_last : members_view c.insert.new.self.entries ≡ put name (view v) (members_view l.copies.entries) =
    ap members_view c.in_ok-insert.ensures.entries ∙ members_view-insert_entry l.copies.entries c.in_ok-key.key v
    ∙ ap (λ k. put k (view v) (members_view l.copies.entries)) named in
    member_copied c.deref-member-items.result.now l.member-index c.member-item.result no_members
    (members_view l.copies.entries) (view v) (omega arith) c.member-item.is l.invariant is
    ∙ ap Some (sym put_last)

pub copied_items-returns-in_default : goal.copied_items-returns-in_default
copied_items-returns-in_default t c =
    let none : of_json (value_view c.item-item.result) ≡ None = search rules in
    rw (← c.deref-item-items.ensures.value)
    (item_refused c.deref-item-items.result.now c.loop-item.item-index c.item-item.result (omega arith)
    c.item-item.is none)

pub copied_members-returns-in_default : goal.copied_members-returns-in_default
copied_members-returns-in_default t c =
    let none : of_json (value_view c.member-item.result.1) ≡ None = search rules in
    rw (← c.deref-member-items.ensures.value)
    (member_refused c.deref-member-items.result.now c.loop-member.member-index c.member-item.result no_members
    (omega arith) c.member-item.is none)
