use Rattle.std.proofs.Common.{◌≡◌, ◌<◌, length, true, refl, sym, arith, rules}
use Rattle.std.specs.Result.{is_ok}
use Rattle.preparing.proofs.GuestsLemmas.{guest_there}
use Rattle.preparing.proofs.guest.guests_of.Goals as goal

pub loop-place-preserved : goal.loop-place-preserved
loop-place-preserved c =
    let people = c.args.people.now in
    let tokens = c.args.tokens.now in
    let place = c.loop-place.place in
    let below : place < length people = omega arith in
    let below_tokens : place < length tokens = omega arith in
    let good : is_ok c.push-in-loop-place.result ≡ true = search rules in
    let items = rw good at c.push-in-loop-place.ensures.items in
    rw (items)
    (guest_there people tokens c.loop-place.guests.items place c.index-people-place.result c.index-tokens-place.result _
    below below_tokens (sym c.index-people-place.is) (sym c.index-tokens-place.is) c.loop-place.invariant
    (record { person = refl; token = refl; name = c.in_ok-name.ensures }))
