-- Rows of publications tell the publications.
use Rattle.std.proofs.Common.{◌≡◌, ◌<◌, ℕ, suc, ◌+◌, List, [], ◌∷◌, ◌++◌, length, map, refl, sym, ap, ◌∙◌, append-nil, append_assoc, arith}
use Rattle.std.specs.List.{AllByRecursion}
use Rattle.std.proofs.lemmas.List.Elements.{recursion_from_All}
use Rattle.session_commands.specs.declared.entry.Entry.{Entry}
use Rattle.entry_texts.specs.EntryTexts.{IsKeepable}
use Rattle.entry_texts.proofs.EntryLemmas.{entry_tells}
use Rattle.journal_store.specs.Tables.{RowBytes}
use Rattle.kept_entries.specs.KeptRows.{row_in, rows_from, rows_of, IsKeptPublication, AreKeepable}

-- what two lists with a first element have in common
pub cons-same : {A : Type 0} (x y : A) (xs ys : List A) → x ∷ xs ≡ y ∷ ys → (x ≡ y) × (xs ≡ ys)
cons-same x y xs ys same = (cc, cc)

pub nil-cons : {A : Type 0} (x : A) (xs : List A) → [] ≡ x ∷ xs → ⊥
nil-cons x xs same = cc

cons-both : {A : Type 0} (x y : A) (xs ys : List A) → x ≡ y → xs ≡ ys → x ∷ xs ≡ y ∷ ys
cons-both x y xs ys head tail = cc

none-some : 0 < 0 → ⊥
none-some none = omega (arith, none)

-- no publication's rows begin with a row of the number before
other_number : (number : ℕ) (published : List (List Entry)) (entry : Entry) (more : List RowBytes)
    → AllByRecursion IsKeptPublication published
    → rows_from (suc number) published ≡ row_in number entry ∷ more → ⊥
other_number number [] entry more kept same = nil-cons (row_in number entry) more same
other_number number ([] ∷ later) entry more kept same = none-some kept.0.some
other_number number ((first ∷ rest) ∷ later) entry more kept same =
    let heads = cons-same (row_in (suc number) first) (row_in number entry)
    (map (row_in (suc number)) rest ++ rows_from (suc (suc number)) later) more same in
    let clash : suc number ≡ number = ap (λ (r : RowBytes). r.publication) heads.0 in
    omega (arith, clash)

same_entry : (number : ℕ) (one other : Entry) → IsKeepable one → IsKeepable other
    → row_in number one ≡ row_in number other → one ≡ other
same_entry number one other here there same =
    entry_tells one other here there (λ i. record { actor = (same i).actor; command = (same i).command })

-- the entries of a publication end where the next number begins
same_entries : (number : ℕ) (here there : List Entry) (later after : List (List Entry)) → AllByRecursion IsKeepable here
    → AllByRecursion IsKeepable there → AllByRecursion IsKeptPublication later → AllByRecursion IsKeptPublication after
    → map (row_in number) here ++ rows_from (suc number) later ≡ map (row_in number) there ++ rows_from
    (suc number) after
    → (here ≡ there) × (rows_from (suc number) later ≡ rows_from (suc number) after)
same_entries number [] [] later after p q r s same = (refl, same)
same_entries number [] (x ∷ there) later after p q r s same = absurd (other_number number later x _ r same)
same_entries number (x ∷ here) [] later after p q r s same = absurd (other_number number after x _ s (sym same))
same_entries number (x ∷ here) (y ∷ there) later after p q r s same =
    let heads = cons-same (row_in number x) (row_in number y) (map (row_in number) here ++ rows_from (suc number) later)
    (map (row_in number) there ++ rows_from (suc number) after) same in
    let more = same_entries number here there later after p.1 q.1 r s heads.1 in
    (cons-both x y here there (same_entry number x y p.0 q.0 heads.0) more.0, more.1)

same_published : (number : ℕ) (one other : List (List Entry)) → AllByRecursion IsKeptPublication one → AllByRecursion IsKeptPublication other
    → rows_from number one ≡ rows_from number other → one ≡ other
same_published number [] [] p q same = refl
same_published number [] ([] ∷ later) p q same = absurd (none-some q.0.some)
same_published number [] ((x ∷ xs) ∷ later) p q same = absurd (nil-cons (row_in number x) _ same)
same_published number ([] ∷ later) other p q same = absurd (none-some p.0.some)
same_published number ((x ∷ xs) ∷ later) [] p q same = absurd (nil-cons (row_in number x) _ (sym same))
same_published number ((x ∷ xs) ∷ later) ([] ∷ after) p q same = absurd (none-some q.0.some)
same_published number ((x ∷ xs) ∷ later) ((y ∷ ys) ∷ after) p q same =
    let both = same_entries number (x ∷ xs) (y ∷ ys) later after (recursion_from_All IsKeepable (x ∷ xs) p.0.keepable)
    (recursion_from_All IsKeepable (y ∷ ys) q.0.keepable) p.1 q.1 same in
    cons-both (x ∷ xs) (y ∷ ys) later after both.0 (same_published (suc number) later after p.1 q.1 both.1)

-- publications that can be kept are told by their rows
pub rows_tell : (one other : List (List Entry)) → AreKeepable one → AreKeepable other → rows_of one ≡ rows_of other
    → one ≡ other
rows_tell one other here there same =
    same_published 1 one other (recursion_from_All IsKeptPublication one here) (recursion_from_All IsKeptPublication other there) same

-- rows of more publications
pub rows_from-append : (number : ℕ) (one more : List (List Entry))
    → rows_from number (one ++ more) ≡ rows_from number one ++ rows_from (number + length one) more
rows_from-append number [] more = ap (λ n. rows_from n more) (omega arith)
rows_from-append number (entries ∷ later) more =
    let again = rows_from-append (suc number) later more in
    let numbers : suc number + length later ≡ number + suc (length later) = omega arith in
    ap (λ rows. map (row_in number) entries ++ rows) (again
    ∙ ap (λ n. rows_from (suc number) later ++ rows_from n more) numbers)
    ∙ sym (append_assoc (map (row_in number) entries) (rows_from (suc number) later) (rows_from (number + suc
    (length later)) more))

pub rows_of-push : (published : List (List Entry)) (entries : List Entry)
    → rows_of (published ++ entries ∷ []) ≡ rows_of published ++ map (row_in (length published + 1)) entries
rows_of-push published entries =
    rows_from-append 1 published (entries ∷ [])
    ∙ ap (λ rows. rows_of published ++ rows) (append-nil (map (row_in (1 + length published)) entries)
    ∙ ap (λ n. map (row_in n) entries) (omega arith))
