use Rattle.std.proofs.Common.{◌≡◌, ◌-◌, ℕ, List, [], ◌∷◌, length, take, drop, codes, subst, refl}
use Rattle.std.specs.Prelude.{IfOk}
use Rattle.std.specs.List.{concat}
use Rattle.std.proofs.lemmas.List.{take_rest}
use Rattle.usebio_report.specs.UsebioText.{slashed_date}
use Rattle.usebio_report.proofs.usebio_document.slashed_date.Goals as goal

-- the parts of a day the other way round
turned_round : (date : List ℕ) → length date ≡ 10 →
    concat (take (length date - 8) (drop 8 date) ∷ codes "/" ∷ take 2 (drop 5 date) ∷ codes "/" ∷ take 4 date ∷ [])
    ≡ slashed_date date
turned_round date ten = rw (take_rest date 8, ten) refl

pub returns-then-date-eq10 : goal.returns-then-date-eq10
returns-then-date-eq10 c =
    subst (λ (text : List ℕ). IfOk c.finish.result (λ written. written.items ≡ text))
    (turned_round c.args.date.now c.if-date-eq10.true)
    (c.finish.ensures _
    (c.bytes-then-date-eq10-2.ensures _
    (c.text-then-date-eq10.ensures _
    (c.bytes-then-date-eq10.ensures _
    (c.text.ensures _
    (c.bytes.ensures _
    c.new.ensures))))))
