-- The lines of an audit, one after another.
use Rattle.std.proofs.Common.{◌≡◌, ◌∙◌, refl, sym, ap, ℕ, ◌+◌, List, [], ◌∷◌, ◌++◌, length, append-nil, append_assoc, arith, ◌<◌, take, drop, get_or, Vec, Global}
use Rattle.std.proofs.lemmas.List.{take_more, take-append-drop, map-append}
use Rattle.history.specs.Prefixes.{entries_of}
use Rattle.kept_entries.specs.KeptRows.{lists_in}
use Rattle.session_commands.specs.declared.entry.Entry.{Entry}
use Rattle.kept_sessions.specs.Audited.{line_of_row, lines_from}

-- the lines of entries and of one more, with the next number
pub lines_from_more : (number : ℕ) (entries : List Entry) (entry : Entry) (next : ℕ) → next ≡ number + length entries
    → lines_from number (entries ++ entry ∷ []) ≡ lines_from number entries ++ line_of_row next entry
unfolding lines_from
lines_from_more number [] entry next is =
    let same : number ≡ next = omega (arith, is) in
    append-nil (line_of_row number entry) ∙ ap (λ (n : ℕ). line_of_row n entry) same
lines_from_more number (first ∷ entries) entry next is =
    let after : next ≡ number + 1 + length entries = omega (arith, is) in
    ap (λ (lines : List ℕ). line_of_row number first ++ lines) (lines_from_more (number + 1) entries entry next after)
    ∙ sym (append_assoc (line_of_row number first) (lines_from (number + 1) entries) (line_of_row next entry))

-- an empty text tells of no entry
pub no_lines : lines_from 1 [] ≡ []
unfolding lines_from
no_lines = refl

-- the entries of publications, of the first of them and of those behind
entries_of_append : (first later : List (List Entry)) → entries_of (first ++ later) ≡ entries_of first ++ entries_of later
entries_of_append [] later = refl
entries_of_append (one ∷ first) later = ap (λ (l : List Entry). one ++ l) (entries_of_append first later)
    ∙ sym (append_assoc one (entries_of first) (entries_of later))

entered_append : (first later : List (Vec Entry Global)) → entries_of (lists_in (first ++ later))
    ≡ entries_of (lists_in first) ++ entries_of (lists_in later)
entered_append first later =
    ap entries_of (map-append (λ (v : Vec Entry Global). v.items) first later)
    ∙ entries_of_append (lists_in first) (lists_in later)

-- the entries of the first publications of a list, and of the next one there
pub entered_more : (publications : List (Vec Entry Global)) (i : ℕ) (one : Vec Entry Global) → i < length publications
    → one ≡ get_or publications i one
    → entries_of (lists_in (take (i + 1) publications)) ≡ entries_of (lists_in (take i publications)) ++ one.items
entered_more publications i one low is =
    let before = entries_of (lists_in (take i publications)) in
    ap (λ (l : List (Vec Entry Global)). entries_of (lists_in l)) (take_more publications i one low)
    ∙ (entered_append (take i publications) (get_or publications i one ∷ [])
    ∙ (ap (λ (v : Vec Entry Global). before ++ (v.items ++ [])) (sym is)
    ∙ ap (λ (l : List Entry). before ++ l) (append-nil one.items)))

-- the same, with those of the publications behind
pub entered_all : (publications : List (Vec Entry Global)) (i : ℕ) (one : Vec Entry Global) → i < length publications
    → one ≡ get_or publications i one
    → entries_of (lists_in publications)
    ≡ (entries_of (lists_in (take i publications)) ++ one.items) ++ entries_of (lists_in (drop (i + 1) publications))
entered_all publications i one low is =
    let behind = entries_of (lists_in (drop (i + 1) publications)) in
    ap (λ (l : List (Vec Entry Global)). entries_of (lists_in l)) (sym (take-append-drop (i + 1) publications))
    ∙ (entered_append (take (i + 1) publications) (drop (i + 1) publications)
    ∙ ap (λ (l : List Entry). l ++ behind) (entered_more publications i one low is))
