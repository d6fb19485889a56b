-- What the reader of entries takes, and what it doesn't.
use Rattle.std.proofs.Math.Seq.{take-suc}
use Rattle.std.proofs.lemmas.List.{take-append-drop}
use Rattle.std.proofs.lemmas.List.Elements.{All-from_recursion, recursion_from_All}
use Rattle.std.proofs.lemmas.List.Sorted.{All-permutation, IsPermutation-sym, IsPermutation-trans, length_permutation}
use Rattle.std.proofs.Common.{◌≡◌, ℕ, suc, ◌+◌, ◌<◌, ◌≤◌, List, [], ◌∷◌, ◌++◌, length, take, drop, get_or, append_assoc, refl, sym, ap, subst, Bool, true, false, MatchBool, IsPermutation, Option, Some, None, IfNone, IsUtf8, ◌∙◌, arith}
use Rattle.sqlite.specs.Order.{Row}
use Rattle.journal_store.specs.Tables.{RowBytes, session_row, entry_row, entry_rows}
use Rattle.journal_store.specs.Kept.{MayFollowRow, AreInOrder, last_publication, AreEntries}
use Rattle.journal_store.specs.Reading.{IsRowOf}
use Rattle.journal_store.proofs.TextLemmas.{shown_last}
use Rattle.journal_store.proofs.KeptLemmas.{in_order_both}
use Rattle.journal_store.proofs.RestartLemmas.{same_texts}

-- one row more has been read
pub reads_next : (read : List RowBytes) (it : RowBytes) (all : List Row) (row : Row) (at : ℕ) → at < length all
    → get_or all at row ≡ row
    → length read ≡ at → take at all ≡ entry_rows 1 read → row ≡ entry_row (at + 1) it
    → take (suc at) all ≡ entry_rows 1 (read ++ it ∷ [])
reads_next read it all row at low is count before here =
    let number : at + 1 ≡ 1 + length read = omega (arith, count) in
    take-suc all at row low ∙ rw (is, before, here, number) (sym (shown_last 1 read it))

pub follows_next : (read : List RowBytes) (it : RowBytes) → AreInOrder 0 read → MayFollowRow (last_publication 0 read) it
    → AreInOrder 0 (read ++ it ∷ [])
follows_next read it are follows = in_order_both 0 read (it ∷ []) are (follows, tt)

pub last_is : (last : ℕ) (read : List RowBytes) (it : RowBytes) → last_publication last (read ++ it ∷ []) ≡ it.publication
last_is last [] it = refl
last_is last (r ∷ read) it = last_is r.publication read it

pub at_most : (last : ℕ) (read : List RowBytes) → AreInOrder last read → last_publication last read ≤ last + length read
at_most last [] are = omega arith
at_most last (it ∷ read) are =
    let first = are.0.no_gap in
    let rest = at_most it.publication read are.1 in
    omega (arith, first, rest)

-- the row behind those that were read is one that may stand there, if all are a journal's
row_behind : (number last : ℕ) (read rows : List RowBytes) (row : Row) (rest : List Row) → AreInOrder last rows
    → entry_rows number read ++ row ∷ rest ≡ entry_rows number rows → (it : RowBytes)
    × IsRowOf (number + length read) (last_publication last read) it row
row_behind number last [] [] row rest are same = absurd cc
row_behind number last [] (it ∷ rows) row rest are same =
    let here : row ≡ entry_row number it = cc in
    let at : number ≡ number + 0 = omega arith in
    (it, record { is = here ∙ ap (λ n. entry_row n it) at; follows = are.0 })
row_behind number last (r ∷ read) [] row rest are same = absurd cc
row_behind number last (r ∷ read) (it ∷ rows) row rest are same =
    let first : entry_row number r ≡ entry_row number it = cc in
    let later : entry_rows (suc number) read ++ row ∷ rest ≡ entry_rows (suc number) rows = cc in
    let texts : r ≡ it = same_texts number number r it first in
    let at : suc number + length read ≡ number + suc (length read) = omega arith in
    let found = row_behind (suc number) it.publication read rows row rest are.1 later in
    (found.0, rw (texts, ← at) found.1)

pub never_reads : (read rows : List RowBytes) (all : List Row) (row : Row) (at : ℕ) → at < length all
    → get_or all at row ≡ row → length read ≡ at
    → take at all ≡ entry_rows 1 read → ((it : RowBytes) → ¬ IsRowOf (at + 1) (last_publication 0 read) it row)
    → AreEntries rows → all ≡ entry_rows 1 rows → ⊥
never_reads read rows all row at low is count before never are same =
    let split : entry_rows 1 read ++ row ∷ drop (suc at) all ≡ entry_rows 1 rows =
    ap (λ l. l ++ row ∷ drop (suc at) all) (sym before)
    ∙ sym (append_assoc (take at all) (row ∷ []) (drop (suc at) all))
    ∙ ap (λ l. l ++ drop (suc at) all) (sym (take-suc all at row low ∙ rw is refl)) ∙ take-append-drop (suc at) all
    ∙ same in
    let found = row_behind 1 0 read rows row (drop (suc at) all) are.in_order split in
    let number : 1 + length read ≡ at + 1 = omega (arith, count) in
    never found.0 (rw number at found.1)

one_of : (row : Row) (rows : List Row) → IsPermutation (row ∷ []) rows → rows ≡ row ∷ []
one_of row [] same = absurd (omega (arith, length_permutation _ _ same))
one_of row (r ∷ []) same =
    ap (λ z. z ∷ []) (recursion_from_All (λ z. z ≡ row) (r ∷ [])
    (All-permutation (λ z. z ≡ row) (row ∷ []) (r ∷ []) same
    (All-from_recursion (λ z. z ≡ row) (row ∷ []) (refl, tt)))).0
one_of row (r ∷ s ∷ rows) same = absurd (omega (arith, length_permutation _ _ same))

-- the table has just this row where the query shows just this row
pub one_row : (all rows : List Row) (row : Row) (found : Bool) → IsPermutation all rows
    → MatchBool found (rows ≡ row ∷ []) (¬ (rows ≡ row ∷ []))
    → MatchBool found (IsPermutation all (row ∷ [])) (¬ IsPermutation all (row ∷ []))
one_row all rows row true same is = subst (IsPermutation all) is same
one_row all rows row false same not = λ one. not
    (one_of row rows (IsPermutation-trans _ _ _ (IsPermutation-sym _ _ one) same))

-- the table has no row of a session's texts alone where the query shows none
pub no_session : {X : Type 0} (all rows : List Row) (found : Option X) → IsPermutation all rows
    → IfNone found ((object boards : List ℕ) → IsUtf8 object → ¬ (rows ≡ session_row object boards ∷ []))
    → IfNone found ((object boards : List ℕ) → IsUtf8 object → ¬ IsPermutation all (session_row object boards ∷ []))
no_session all rows (Some x) same not = tt
no_session all rows None same not =
    λ object boards utf8 one. not object boards utf8
    (one_of (session_row object boards) rows (IsPermutation-trans _ _ _ (IsPermutation-sym _ _ one) same))

pub as_many : (number : ℕ) (rows : List RowBytes) → length (entry_rows number rows) ≡ length rows
as_many number [] = refl
as_many number (it ∷ rows) = ap suc (as_many (suc number) rows)
