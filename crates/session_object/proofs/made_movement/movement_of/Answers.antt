use Rattle.std.proofs.Common.{◌≡◌, IfOk, sym, ap, subst, ◌∙◌}
use Rattle.session_object.specs.declared.asked_movement.AskedMovement.TheVariants.{Rows}
use Rattle.session_object.specs.declared.session_fault.SessionFault.{SessionFault}
use Rattle.session_object.specs.Reading.{section_asked, session_of_parts, RefusesAsked}
use Rattle.session_object.proofs.made_movement.movement_of.Goals as goal

pub returns-in-Rows-clause-section : goal.returns-in-Rows-clause-section
returns-in-Rows-clause-section c =
    subst (λ asked. IfOk c.listed_by.result (λ m. m ≡ section_asked asked (session_of_parts c.args.parts.now)))
    (ap Rows c.as_slice.ensures ∙ sym c.in-Rows.is) c.listed_by.ensures.section

pub returns-in-Rows-clause-allowed : goal.returns-in-Rows-clause-allowed
returns-in-Rows-clause-allowed c =
    subst (λ asked. IfOk c.listed_by.result (λ _. (fault : SessionFault) → ¬ RefusesAsked asked
    (session_of_parts c.args.parts.now) fault))
    (ap Rows c.as_slice.ensures ∙ sym c.in-Rows.is) c.listed_by.ensures.allowed

pub returns-in-Word-clause-section : goal.returns-in-Word-clause-section
returns-in-Word-clause-section c =
    subst (λ asked. IfOk c.named_by.result (λ m. m ≡ section_asked asked (session_of_parts c.args.parts.now)))
    (sym c.in-Word.is) c.named_by.ensures.section

pub returns-in-Word-clause-allowed : goal.returns-in-Word-clause-allowed
returns-in-Word-clause-allowed c =
    subst (λ asked. IfOk c.named_by.result (λ _. (fault : SessionFault) → ¬ RefusesAsked asked
    (session_of_parts c.args.parts.now) fault))
    (sym c.in-Word.is) c.named_by.ensures.allowed

pub returns-in-Nothing-clause-allowed : goal.returns-in-Nothing-clause-allowed
returns-in-Nothing-clause-allowed c =
    subst (λ asked. IfOk c.mitchell_of.result (λ _. (fault : SessionFault) → ¬ RefusesAsked asked
    (session_of_parts c.args.parts.now) fault))
    (sym c.in-Nothing.is) c.mitchell_of.ensures.allowed
