use Rattle.std.proofs.Common.{◌++◌, [], ap, sym, ◌∙◌}
use Rattle.std.specs.List.{cons_option}
use Rattle.kept_sessions.specs.Reported.{membership_of}
use Rattle.session_report.proofs.ListLemmas.{filter_map_more}
use Rattle.kept_sessions.proofs.memberships.memberships_of.Goals as goal

pub loop-user-preserved : goal.loop-user-preserved
loop-user-preserved c =
    let users = c.args.users.now in
    let k = c.loop-user.user-index in
    let found = c.membership_of.ensures ∙ ap membership_of c.user-item.is in
    c.in_ok-push_found.ensures.items
    ∙ ((λ i. c.loop-user.invariant i ++ cons_option (found i) [])
    ∙ sym (filter_map_more membership_of users k c.user-item.result c.loop-user-test.true))
