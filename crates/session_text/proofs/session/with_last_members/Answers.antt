use Rattle.std.proofs.Common.{refl}
use Rattle.session_text.proofs.session.with_last_members.Goals as goal

pub returns : goal.returns
returns c = λ members has.
    c.with_notice.ensures _
    (c.number.ensures _ _ (c.with_number-2.ensures _ (c.with_number.ensures members has)) refl)
