use Rattle.std.proofs.Common.{◌≡◌, ◌+◌, option_map, sym, ap, ◌∙◌, arith}
use Rattle.serde_json.specs.View.{view}
use Rattle.session_check.specs.Members.{of_user, user_misread}
use Rattle.session_check.proofs.MemberLemmas.{users_first, users_rest, users_end}
use Rattle.session_check.proofs.misread.users_misread.Goals as goal

pub returns-then-is_some : goal.returns-then-is_some
returns-then-is_some c =
    let value = c.index-list-place.result in
    let place = c.loop-place.place in
    let same : c.of_user-found.result ≡ option_map (of_user (place + 1)) (user_misread c.args.edition (view value)) =
    c.of_user-found.ensures ∙ ap (option_map (of_user (place + 1))) c.user_misread.ensures in
    sym (c.loop-place.invariant
    ∙ users_first c.args.edition c.args.list.now place value c.loop-place-test.true c.index-list-place.is
    c.of_user-found.result same (sym c.is_some.ensures ∙ c.if-is_some.true))

pub loop-place-preserved : goal.loop-place-preserved
loop-place-preserved c =
    let value = c.index-list-place.result in
    let place = c.loop-place.place in
    let same : c.of_user-found.result ≡ option_map (of_user (place + 1)) (user_misread c.args.edition (view value)) =
    c.of_user-found.ensures ∙ ap (option_map (of_user (place + 1))) c.user_misread.ensures in
    c.loop-place.invariant
    ∙ users_rest c.args.edition c.args.list.now place value c.loop-place-test.true c.index-list-place.is
    c.of_user-found.result same (sym c.is_some.ensures ∙ c.if-is_some.false)

pub returns : goal.returns
returns c =
    sym (c.loop-place.invariant
    ∙ users_end c.args.edition c.args.list.now c.loop-place.place (omega (arith, c.loop-place-test.false)))
