use Rattle.std.proofs.Common.{◌∙◌, rules, ap, sym}
use Rattle.http1.specs.Fields.{elements, has_option}
use Rattle.http1.proofs.FieldsLemmas.{elements_at, elements_whole}
use Rattle.page_answers.proofs.ElementLemmas.{first_or_other, only_one, behind}
use Rattle.page_answers.proofs.codings.has_element.Goals as goal

pub returns-then-is_element : goal.returns-then-is_element
returns-then-is_element c =
    let rest = c.loop-comma.rest.now in
    let at = c.in-Some.comma in
    let split = elements_at rest at (search rules) (search rules) (search rules) in
    let told = first_or_other rest c.args.wanted.now at c.is_element.result split c.is_element.ensures in
    let first = rw c.if-is_element.true at told in
    sym (sym c.loop-comma.invariant ∙ first)

pub loop-comma-preserved : goal.loop-comma-preserved
loop-comma-preserved c =
    let rest = c.loop-comma.rest.now in
    let at = c.in-Some.comma in
    let wanted = c.args.wanted.now in
    let split = elements_at rest at (search rules) (search rules) (search rules) in
    let told = first_or_other rest wanted at c.is_element.result split c.is_element.ensures in
    let other = rw c.if-is_element.false at told in
    ap (λ list. has_option wanted (elements list)) (behind rest at) ∙ sym other ∙ c.loop-comma.invariant

pub returns : goal.returns
returns c =
    let rest = c.loop-comma.rest.now in
    let whole = elements_whole rest (search rules) in
    c.is_element-2.ensures ∙ sym (only_one rest c.args.wanted.now whole) ∙ c.loop-comma.invariant
