use Rattle.std.proofs.Common.{List, [], ◌∷◌, ◌++◌, take, sym, ap, subst, ◌∙◌}
use Rattle.std.proofs.lemmas.Grind.{take_at_read}
use Rattle.preparing.specs.declared.guest.Guest.{Guest}
use Rattle.preparing.specs.Guests.{AreUsersOfGuests}
use Rattle.preparing.proofs.GuestsLemmas.{one_user_more}
use Rattle.preparing.proofs.users.users_of.Goals as goal

pub loop-guest-preserved : goal.loop-guest-preserved
loop-guest-preserved c =
    let guests = c.args.guests.now in
    let before = take c.loop-guest.guest-index guests in
    rw (c.in_ok-push.ensures.items)
    (subst (λ (read : List Guest). AreUsersOfGuests read (c.loop-guest.users.items ++ c.in_ok-user.user ∷ []))
    (sym ((take_at_read guests c.loop-guest.guest-index c.guest-item.result c.loop-guest-test.true).1
    ∙ ap (λ (guest : Guest). before ++ guest ∷ []) (sym c.guest-item.is)))
    (one_user_more before c.loop-guest.users.items c.guest-item.result c.in_ok-user.user c.loop-guest.invariant
    c.in_ok-user.ensures))
