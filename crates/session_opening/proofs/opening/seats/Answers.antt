use Rattle.std.proofs.Common.{◌++◌, ◌∷◌, [], take, ap, ◌∙◌, arith}
use Rattle.session_opening.specs.Opening.{opening_seats}
use Rattle.session_opening.proofs.OpeningLemmas.{seats_more}
use Rattle.session_opening.proofs.opening.seats.Goals as goal

pub loop-user-preserved : goal.loop-user-preserved
loop-user-preserved c =
    let users = c.args.users.now in
    let place = c.loop-user.user-index in
    let user = c.user-item.result in
    record {
      items = c.sit.ensures.items
          ∙ ap (λ seats. seats ++ opening_seats (user ∷ [])) c.loop-user.invariant.items
          ∙ ap (λ user. opening_seats (take place users) ++ opening_seats (user ∷ [])) c.user-item.is
          ∙ seats_more users place user c.loop-user-test.true;
      counted = omega (arith, c.sit.ensures.len, c.loop-user.invariant.counted);
      room = omega (arith, c.sit.ensures.capacity, c.loop-user.invariant.room);
    }
