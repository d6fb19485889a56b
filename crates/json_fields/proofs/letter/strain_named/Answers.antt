use Rattle.std.proofs.Common.{◌≡◌, ap, subst, ◌∙◌, length, get_or, arith, IfSome, IfNone, ◌≢◌}
use Rattle.table_terms.specs.declared.strain.Strain.{Strain}
use Rattle.table_terms.specs.Strain.{strain_letter}
use Rattle.json_fields.proofs.LetterLemmas.{strain_of_letter}
use Rattle.json_fields.proofs.letter.strain_named.Goals as goal

pub returns-in-len1 : goal.returns-in-len1
returns-in-len1 c =
    let text = c.as_bytes.ensures.value in
    let same = c.from.ensures ∙ ap (λ bytes. get_or bytes 0 0) text in
    strain_of_letter c.args.text.now c.from_letter.result (omega (arith, ap length text))
    (subst (λ letter. IfSome c.from_letter.result (λ strain. strain_letter strain ≡ letter)) same
    c.from_letter.ensures.found)
    (subst (λ letter. IfNone c.from_letter.result ((strain : Strain) → strain_letter strain ≢ letter)) same
    c.from_letter.ensures.none)
