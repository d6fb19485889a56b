-- Each movement that a word names is full: gone through row by row for each number of tables.
use Rattle.std.proofs.Common.{◌≡◌, ℕ, ◌+◌, ◌-◌, ◌*◌, ◌/◌, ◌%◌, ◌<◌, ◌≤◌, Bool, true, get_or, refl, ◌∙◌, subst, arith}
use Rattle.std.specs.List.{list_all, range_with_len}
use Rattle.std.proofs.lemmas.Bool.Decides.{nat_tests}
use Rattle.std.proofs.lemmas.List.FromFn.{length-range_with_len, get_or-range_with_len}
use Rattle.std.proofs.lemmas.List.Sums.{AllPass-from_list_all}
use Rattle.mitchell.specs.Mitchell.{most_rounds}
use Rattle.movement.specs.Sound.{has_fault}
use Rattle.named_movements.specs.Howell.{howell_sets}
use Rattle.named_movements.specs.Words.{can_have_tables, can_have_rounds, rows_of_word}
use Rattle.named_movements.specs.declared.movement_word.MovementWord.{MovementWord}
use Rattle.named_movements.specs.declared.movement_word.MovementWord.TheVariants.{Mitchell, Howell, ShareAndRelay, Web}
use Rattle.named_movements.proofs.FullLemmas.{is_full, IsFull, full_if, full_part}
use Rattle.named_movements.proofs.SizeLemmas.{sizes}

-- a test that each number of a range passes
pub passes : (test : ℕ → Bool) (first n k : ℕ) → list_all test (range_with_len first n) ≡ true → first ≤ k → k < first + n →
    test k ≡ true
passes test first n k all from below =
    let within : k - first < n = omega arith in
    let here : get_or (range_with_len first n) (k - first) 0 ≡ k =
    get_or-range_with_len first n (k - first) 0 within ∙ omega arith in
    subst (λ (x : ℕ). test x ≡ true) here
    (AllPass-from_list_all test (range_with_len first n) all (k - first) 0
    (omega (arith, length-range_with_len first n)))

-- ---- with all their rounds

mitchells : list_all (λ tables. is_full Mitchell tables (most_rounds tables)) (range_with_len 3 14) ≡ true
unfolding rows_of_word has_fault
mitchells = refl

howells : list_all (λ tables. is_full Howell tables (howell_sets tables)) (range_with_len 3 6) ≡ true
unfolding rows_of_word has_fault
howells = refl

relays : list_all (λ half. is_full ShareAndRelay (2 * half) (2 * half)) (range_with_len 2 7) ≡ true
unfolding rows_of_word has_fault
relays = refl

webs : list_all (λ half. list_all (λ k. is_full Web (2 * half) (2 * k + 1)) (range_with_len 0 half)) (range_with_len 3 6) ≡
    true
unfolding rows_of_word has_fault
webs = refl

-- ---- and with fewer

pub full : (word : MovementWord) (tables rounds : ℕ) → can_have_tables word tables ≡ true →
    can_have_rounds word tables rounds ≡ true → IsFull word tables rounds
full Mitchell tables rounds has_tables has_rounds =
    let size = sizes Mitchell tables rounds has_tables has_rounds in
    let fewer : rounds ≤ most_rounds tables = grind (arith, nat_tests) in
    full_part Mitchell tables rounds (most_rounds tables) (omega (arith, size.from_tables)) fewer (λ k. refl) refl refl
    (full_if Mitchell tables (most_rounds tables)
    (passes (λ n. is_full Mitchell n (most_rounds n)) 3 14 tables mitchells size.from_tables
    (omega (arith, size.to_tables))))
full Howell tables rounds has_tables has_rounds =
    let size = sizes Howell tables rounds has_tables has_rounds in
    let fewer : rounds ≤ howell_sets tables = grind (arith, nat_tests) in
    let few : tables ≤ 8 = grind (arith, nat_tests) in
    full_part Howell tables rounds (howell_sets tables) (omega (arith, size.from_tables)) fewer (λ k. refl) refl refl
    (full_if Howell tables (howell_sets tables)
    (passes (λ n. is_full Howell n (howell_sets n)) 3 6 tables howells size.from_tables (omega arith)))
full ShareAndRelay tables rounds has_tables has_rounds =
    let size = sizes ShareAndRelay tables rounds has_tables has_rounds in
    let fewer : rounds ≤ tables = grind (arith, nat_tests) in
    let even : tables % 2 ≡ 0 = grind (arith, nat_tests) in
    let whole : 2 * (tables / 2) ≡ tables = omega arith in
    full_part ShareAndRelay tables rounds tables (omega (arith, size.from_tables)) fewer (λ k. refl) refl refl
    (full_if ShareAndRelay tables tables
    (subst (λ (n : ℕ). is_full ShareAndRelay n n ≡ true) whole
    (passes (λ half. is_full ShareAndRelay (2 * half) (2 * half)) 2 7 (tables / 2) relays
    (omega (arith, size.from_tables)) (omega (arith, size.to_tables)))))
full Web tables rounds has_tables has_rounds =
    let size = sizes Web tables rounds has_tables has_rounds in
    let fewer : rounds < tables = grind (arith, nat_tests) in
    let enough : 6 ≤ tables = grind (arith, nat_tests) in
    let even : tables % 2 ≡ 0 = grind (arith, nat_tests) in
    let odd : rounds % 2 ≡ 1 = grind (arith, nat_tests) in
    let whole : 2 * (tables / 2) ≡ tables = omega arith in
    let all : 2 * (rounds / 2) + 1 ≡ rounds = omega arith in
    full_if Web tables rounds
    (subst (λ (n : ℕ). is_full Web n rounds ≡ true) whole
    (subst (λ (n : ℕ). is_full Web (2 * (tables / 2)) n ≡ true) all
    (passes (λ k. is_full Web (2 * (tables / 2)) (2 * k + 1)) 0 (tables / 2) (rounds / 2)
    (passes (λ half. list_all (λ k. is_full Web (2 * half) (2 * k + 1)) (range_with_len 0 half)) 3 6 (tables / 2) webs
    (omega arith) (omega (arith, size.to_tables))) (omega arith) (omega arith))))
