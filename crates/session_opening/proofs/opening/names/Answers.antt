use Rattle.std.proofs.Common.{◌+◌, ◌++◌, ◌∷◌, [], map, take, sym, ap, ◌∙◌, arith}
use Rattle.std.proofs.lemmas.List.{map_more, take_all}
use Rattle.session_opening.specs.declared.new_user.NewUser.{NewUser}
use Rattle.session_opening.proofs.opening.names.Goals as goal

pub loop-user-preserved : goal.loop-user-preserved
loop-user-preserved c =
    let users = c.args.users.now in
    let place = c.loop-user.user-index in
    let user = c.user-item.result in
    record {
      items = c.put_item.ensures.items
          ∙ ap (λ names. names ++ user.shown ∷ []) c.loop-user.invariant.items
          ∙ ap (λ (user : NewUser). map (λ (user : NewUser). user.shown) (take place users) ++ user.shown ∷ [])
          c.user-item.is
          ∙ sym (map_more (λ (user : NewUser). user.shown) users place user c.loop-user-test.true);
      counted = c.put_item.ensures.len ∙ ap (λ n. n + 1) c.loop-user.invariant.counted;
      room = omega (arith, c.put_item.ensures.capacity, c.loop-user.invariant.room);
    }

pub returns-clause-items : goal.returns-clause-items
returns-clause-items c =
    c.loop-user.invariant.items
    ∙ ap (map (λ (user : NewUser). user.shown)) (take_all c.loop-user.user-index c.args.users.now
    c.loop-user-test.false)
