-- The rows of the audit, one after another.
use Rattle.std.proofs.Common.{
  ◌≡◌,
  ℕ,
  zero,
  suc,
  ◌+◌,
  ◌-◌,
  ◌<◌,
  ◌≤◌,
  min,
  List,
  [],
  ◌∷◌,
  ◌++◌,
  length,
  get_or,
  take,
  drop,
  refl,
  sym,
  ap,
  ◌∙◌,
  inl,
  inr,
  arith,
  length-drop,
}
use Rattle.std.proofs.lemmas.Bool.{cases_lt}
use Rattle.std.proofs.lemmas.List.{take_more}
use Rattle.session_book.specs.Audit.{audit_row, numbered_from, audit_rows}
use Rattle.session_book.specs.declared.audit.AuditRow.{AuditRow}
use Rattle.session_commands.specs.declared.entry.Entry.{Entry}

count_numbered : (number : ℕ) (entries : List Entry) → length (numbered_from number entries) ≡ length entries
count_numbered number [] = refl
count_numbered number (entry ∷ entries) = ap (λ n. suc n) (count_numbered (number + 1) entries)

row_at : (number : ℕ) (entries : List Entry) (before k place : ℕ) (entry : Entry) (d : AuditRow) → place ≡ before + k →
    place < length entries →
    get_or (drop before (numbered_from number entries)) k d ≡ audit_row (number + place) (get_or entries place entry)
row_at number [] before k place entry d at below = absurd (omega arith)
row_at number (e ∷ es) zero zero zero entry d at below = let same : number ≡ number + 0 = omega arith in λ i. audit_row
    (same i) e
row_at number (e ∷ es) zero zero (suc place) entry d at below = absurd (omega arith)
row_at number (e ∷ es) zero (suc k) zero entry d at below = absurd (omega arith)
row_at number (e ∷ es) zero (suc k) (suc place) entry d at below =
    let same : (number + 1) + place ≡ number + suc place = omega arith in
    row_at (number + 1) es zero k place entry d (omega arith) (omega arith)
    ∙ (λ i. audit_row (same i) (get_or es place entry))
row_at number (e ∷ es) (suc before) k zero entry d at below = absurd (omega arith)
row_at number (e ∷ es) (suc before) k (suc place) entry d at below =
    let same : (number + 1) + place ≡ number + suc place = omega arith in
    row_at (number + 1) es before k place entry d (omega arith) (omega arith)
    ∙ (λ i. audit_row (same i) (get_or es place entry))

-- one row more
pub rows_more : (journal : List Entry) (before k number : ℕ) (entry : Entry) (rows : List AuditRow) →
    before + k < length journal → number ≡ before + k + 1 → entry ≡ get_or journal (before + k) entry →
    rows ≡ take k (drop before (numbered_from 1 journal)) → rows ++ audit_row number entry ∷ [] ≡ take (k + 1)
    (drop before (numbered_from 1 journal))
rows_more journal before k number entry rows below counted here so_far =
    let all = numbered_from 1 journal in
    let row = audit_row number entry in
    let within : k < length (drop before all) = omega (arith, length-drop before all, count_numbered 1 journal, below)
    in
    let same : number ≡ 1 + (before + k) = omega (arith, counted) in
    (λ i. so_far i ++ audit_row (same i) (here i) ∷ [])
    ∙ (λ i. take k (drop before all) ++ sym (row_at 1 journal before k (before + k) entry row refl below) i ∷ [])
    ∙ sym (take_more (drop before all) k row within)

drop_past : (before : ℕ) (xs : List AuditRow) → length xs ≤ before → drop before xs ≡ []
drop_past zero [] past = refl
drop_past zero (x ∷ xs) past = absurd (omega arith)
drop_past (suc before) [] past = refl
drop_past (suc before) (x ∷ xs) past = drop_past before xs (omega arith)

take_past : (n : ℕ) (xs : List AuditRow) → length xs ≤ n → take n xs ≡ xs
take_past zero [] past = refl
take_past zero (x ∷ xs) past = absurd (omega arith)
take_past (suc n) [] past = refl
take_past (suc n) (x ∷ xs) past = ap (λ ys. x ∷ ys) (take_past n xs (omega arith))

-- so many rows are those that were asked for
pub rows_all : (journal : List Entry) (from limit before count : ℕ) → before ≡ min (from - 1) (length journal) →
    count ≡ min limit (length journal - before) →
    take count (drop before (numbered_from 1 journal)) ≡ audit_rows journal from limit
rows_all journal from limit before count starts counted =
    let all = numbered_from 1 journal in
    let total = count_numbered 1 journal in
    elim (cases_lt (length journal) (from - 1)) [
      | inl past ↦
          let none : drop before all ≡ [] = drop_past before all (omega (arith, total)) in
          let none_there : drop (from - 1) all ≡ [] = drop_past (from - 1) all (omega (arith, total)) in
          ap (take count) none ∙ (nothing count ∙ (sym (nothing limit) ∙ ap (take limit) (sym none_there)))
      | inr within ↦
          let at : before ≡ from - 1 = omega arith in
          let left : length (drop before all) ≡ length journal - before = omega (arith, length-drop before all, total)
          in
          elim (cases_lt (length journal - before) limit) [
            | inl more ↦
                let every : count ≡ length journal - before = omega arith in
                take_past count (drop before all) (omega (arith, left, every))
                ∙ (sym (take_past limit (drop before all) (omega (arith, left, more)))
                ∙ ap (λ n. take limit (drop n all)) at)
            | inr enough ↦
                let some : count ≡ limit = omega arith in
                (λ i. take (some i) (drop (at i) all))
          ]
    ]
  where
    nothing : (n : ℕ) → take {A = AuditRow} n [] ≡ []
    nothing zero = refl
    nothing (suc n) = refl
