use Rattle.std.proofs.Common.{sym, ◌∙◌, arith}
use Rattle.std.proofs.lemmas.Bool.{false≢true}
use Rattle.movement.proofs.SoundLemmas.{sound_from, faultless_from}
use Rattle.movement.proofs.sound.first_misplaced.Goals as goal

pub returns-in-Some-clause-unsound : goal.returns-in-Some-clause-unsound
returns-in-Some-clause-unsound c sound =
    let has = c.in-Some.ensures.first.holds in
    let none = faultless_from c.args.limits c.args.rows.now sound c.loop-place.place (omega arith) _ c.in-Some.fault in
    false≢true (sym none ∙ has)

pub returns-clause-sound : goal.returns-clause-sound
returns-clause-sound c =
    sound_from c.args.limits c.args.rows.now (λ k within. c.loop-place.invariant k (omega arith))
