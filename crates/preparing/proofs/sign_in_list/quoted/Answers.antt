use Rattle.std.proofs.Common.{List, ℕ, ◌++◌, codes, sym, ap, ◌∙◌, map-id, append_assoc, string_bytes, arith}
use Rattle.std.proofs.lemmas.Iterator.{YieldsList-from_chars}
use Rattle.std.proofs.lemmas.Iterator.Consumers.{YieldsList-end}
use Rattle.preparing.specs.SignInList.{quoted_sign, quoted_signs}
use Rattle.preparing.proofs.QuotingLemmas.{one_quoted_more}
use Rattle.preparing.proofs.sign_in_list.quoted.Goals as goal

pub loop-sign-preserved : goal.loop-sign-preserved
loop-sign-preserved c =
    rw (c.in_ok-push_quoted.ensures, c.loop-sign.invariant)
    (append_assoc (codes "\"") (quoted_signs c.loop-sign.yielded) (quoted_sign c.in-Some.sign)
    ∙ ap (λ (signs : List ℕ). codes "\"" ++ signs) (sym (one_quoted_more c.loop-sign.yielded c.in-Some.sign)))

pub returns : goal.returns
returns c =
    let end = YieldsList-end (YieldsList-from_chars c.args.text.now c.utf8.text cc) c.loop-sign.yielded _ c.loop-sign.yielded_by _ _ c.in-None.is c.next.ensures.steps in
    let signs = sym (map-id c.loop-sign.yielded) ∙ end.0 in
    c.in_ok-push.ensures.bytes
    ∙ ap (λ (more : List ℕ). string_bytes c.loop-sign.field ++ more) (c.push.ensures.ascii (omega arith))
    ∙ ap (λ (before : List ℕ). before ++ codes "\"")
    (c.loop-sign.invariant ∙ ap (λ (read : List ℕ). codes "\"" ++ quoted_signs read) signs)
