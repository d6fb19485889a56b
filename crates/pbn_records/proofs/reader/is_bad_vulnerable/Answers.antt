use Rattle.std.proofs.Common.{refl, ◌∙◌, sym}
use Rattle.std.proofs.lemmas.Bool.{true≢false}
use Rattle.pbn_records.proofs.EscapeLemmas.{same_open}
use Rattle.pbn_records.proofs.FreeLemmas.{same_vulnerable}
use Rattle.pbn_records.proofs.reader.is_bad_vulnerable.Goals as goal

pub returns-then-is_open : goal.returns-then-is_open
returns-then-is_open c = (
  (λ never. absurd (true≢false (sym never))),
  (λ bad. absurd (true≢false (sym c.if-is_open.true ∙ c.is_open.ensures ∙ sym (same_open c.args.value.now)
      ∙ bad.there))),
)

pub returns-in-Some : goal.returns-in-Some
returns-in-Some c = (
  (λ never. absurd (true≢false (sym never))),
  (λ bad. absurd (bad.none _ ((same_vulnerable _ c.args.value.now).0 c.in-Some.ensures.word))),
)

pub returns-in-None : goal.returns-in-None
returns-in-None c = (
  (λ is. record {
    there = same_open c.args.value.now ∙ sym c.is_open.ensures ∙ c.if-is_open.false;
    none = λ mark is. c.in-None.ensures.none mark ((same_vulnerable mark c.args.value.now).1 is);
  }),
  (λ bad. refl),
)
