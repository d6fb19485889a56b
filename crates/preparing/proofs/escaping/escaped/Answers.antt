use Rattle.std.proofs.Common.{sym, ap, ◌∙◌, map-id}
use Rattle.std.proofs.lemmas.Iterator.{YieldsList-from_chars}
use Rattle.std.proofs.lemmas.Iterator.Consumers.{YieldsList-end}
use Rattle.preparing.specs.Escaping.{escaped_signs}
use Rattle.preparing.proofs.EscapingLemmas.{one_sign_more}
use Rattle.preparing.proofs.escaping.escaped.Goals as goal

pub loop-sign-preserved : goal.loop-sign-preserved
loop-sign-preserved c =
    rw (c.in_ok-push_escaped.ensures, c.loop-sign.invariant) (sym (one_sign_more c.loop-sign.yielded c.in-Some.sign))

pub returns : goal.returns
returns c =
    let end = YieldsList-end (YieldsList-from_chars c.args.text.now c.utf8.text cc) c.loop-sign.yielded _ c.loop-sign.yielded_by _ _ c.in-None.is c.next.ensures.steps in
    c.loop-sign.invariant ∙ ap escaped_signs (sym (map-id c.loop-sign.yielded) ∙ end.0)
