use Rattle.std.proofs.Common.{refl}
use Rattle.session_text.proofs.session.with_rounds.Goals as goal

pub returns : goal.returns
returns c = λ members has.
    c.number-2.ensures _ _
    (c.with_reasons.ensures _ (c.number.ensures _ _ (c.with_movement.ensures members has) refl)) refl
