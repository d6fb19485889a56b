use Rattle.std.proofs.Common.{◌∙◌, ap, sym}
use Rattle.table_terms.specs.Place.{left_of}
use Rattle.double_dummy.proofs.TrickLemmas.{differ, known_by, one_on, same_place, three_on, two_on}
use Rattle.double_dummy_laws.specs.Renaming.{knowing}
use Rattle.double_dummy.proofs.trick.decisive_of.Goals as goal

pub returns-then-eq : goal.returns-then-eq
returns-then-eq c ownership strain is =
    let leader = c.args.leader in
    let here = sym (same_place _ _ (sym c.eq.ensures ∙ c.if-eq.true)) ∙ is in
    known_by (knowing ownership c.settled.result) strain leader c.args.a c.args.b c.args.c c.args.d
    (λ _. c.settled.ensures ownership)
    (λ e. absurd (one_on leader (here ∙ e)))
    (λ e. absurd (two_on leader (here ∙ e)))
    (λ e. absurd (three_on leader (here ∙ e)))

pub returns-then-eq-2 : goal.returns-then-eq-2
returns-then-eq-2 c ownership strain is =
    let leader = c.args.leader in
    let here = sym (same_place _ _ (sym c.eq-else-eq.ensures ∙ c.if-eq-2.true) ∙ c.left-second.ensures) ∙ is in
    known_by (knowing ownership c.settled-then-eq-2.result) strain leader c.args.a c.args.b c.args.c c.args.d
    (λ e. absurd (one_on leader (sym e ∙ sym here)))
    (λ _. c.settled-then-eq-2.ensures ownership)
    (λ e. absurd (one_on (left_of leader) (here ∙ e)))
    (λ e. absurd (two_on (left_of leader) (here ∙ e)))

pub returns-then-eq-3 : goal.returns-then-eq-3
returns-then-eq-3 c ownership strain is =
    let leader = c.args.leader in
    let third = c.left-third.ensures ∙ ap left_of c.left-second.ensures in
    let here = sym (same_place _ _ (sym c.eq-else-eq-2.ensures ∙ c.if-eq-3.true) ∙ third) ∙ is in
    known_by (knowing ownership c.settled-then-eq-3.result) strain leader c.args.a c.args.b c.args.c c.args.d
    (λ e. absurd (two_on leader (sym e ∙ sym here)))
    (λ e. absurd (one_on (left_of leader) (sym e ∙ sym here)))
    (λ _. c.settled-then-eq-3.ensures ownership)
    (λ e. absurd (one_on (left_of (left_of leader)) (here ∙ e)))

pub returns-else-eq-3 : goal.returns-else-eq-3
returns-else-eq-3 c ownership strain is =
    let leader = c.args.leader in
    let third = c.left-third.ensures ∙ ap left_of c.left-second.ensures in
    known_by (knowing ownership c.settled-else-eq-3.result) strain leader c.args.a c.args.b c.args.c c.args.d
    (λ e. absurd (differ _ _ (sym c.eq.ensures ∙ c.if-eq.false) (is ∙ e)))
    (λ e. absurd (differ _ _ (sym c.eq-else-eq.ensures ∙ c.if-eq-2.false) (is ∙ e ∙ sym c.left-second.ensures)))
    (λ e. absurd (differ _ _ (sym c.eq-else-eq-2.ensures ∙ c.if-eq-3.false) (is ∙ e ∙ sym third)))
    (λ _. c.settled-else-eq-3.ensures ownership)
