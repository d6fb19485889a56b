use Rattle.std.proofs.Common.{rules, ◌≡◌, suc, ◌++◌, ◌∷◌, [], Some, None, take, vec_len, sym, ap, ◌∙◌}
use Rattle.std.specs.Prelude.{slice_get}
use Rattle.std.specs.Option.{option_map}
use Rattle.rbac.specs.declared.inheritance.Inheritance.{Inheritance}
use Rattle.session_roles.specs.declared.role.Role.{Role}
use Rattle.published_view.proofs.ListLemmas.{pair_more, pairs_end}
use Rattle.published_view.proofs.answers_of_state.pairs_of.Goals as goal

pub loop-senior-preserved : goal.loop-senior-preserved
loop-senior-preserved c =
    let pairs = c.args.state.now.roles.pairs in
    let k = vec_len c.loop-senior.pairs in
    let there : option_map {U = Role × Role} (λ (pair : Inheritance). (pair.senior, pair.junior)) (slice_get pairs k) ≡
    Some (c.in-Some.senior, c.in-Some.junior) = search rules in
    let more : suc k ≡ vec_len c.push.new.self = search rules in
    c.in_ok-push.ensures.items
    ∙ ((λ i. c.loop-senior.invariant i ++ record { senior = c.in-Some.senior; junior = c.in-Some.junior } ∷ [])
    ∙ (sym (pair_more pairs k c.in-Some.senior c.in-Some.junior there) ∙ ap (λ n. take n pairs) more))

pub returns : goal.returns
returns c =
    let pairs = c.args.state.now.roles.pairs in
    let k = vec_len c.loop-senior.pairs in
    let none : option_map {U = Role × Role} (λ (pair : Inheritance). (pair.senior, pair.junior)) (slice_get pairs k) ≡
    None = search rules in
    c.loop-senior.invariant ∙ pairs_end pairs k none
