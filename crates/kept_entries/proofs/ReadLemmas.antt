-- Which entries rows are of, and what their texts tell.
use Rattle.std.proofs.Common.{◌≡◌, ◌≢◌, ◌<◌, true, slice_get, Option, Some, ℕ, zero, suc, ◌+◌, List, [], ◌∷◌, ◌++◌, length, map, take, get_or, set, All, IfOk, Result, Ok, Err, refl, sym, ap, subst, ◌∙◌, add-one, arith}
use Rattle.std.proofs.Math.Seq.{take-suc, map-set_same}
use Rattle.std.proofs.lemmas.Option.{same_Some}
use Rattle.std.proofs.lemmas.List.{length-map, get_or-map, map-append, map_more}
use Rattle.std.proofs.lemmas.List.Elements.{All-nil, All-append, recursion_from_All}
use Rattle.std.specs.List.{AllByRecursion}
use Rattle.std.specs.Global.{Vec}
use Rattle.session_commands.specs.declared.actor.Actor.{Actor}
use Rattle.session_commands.specs.declared.command.Command.{Command}
use Rattle.session_commands.specs.declared.command.Command.TheVariants as command
use Rattle.session_commands.specs.declared.entry.Entry.{Entry}
use Rattle.entry_texts.specs.EntryTexts.{Texts, texts_of_entry, IsKeepable}
use Rattle.entry_texts.specs.Kept.{IsReadable, kept_command, kept_of}
use Rattle.entry_texts.specs.declared.kept_entry.KeptEntry.{KeptEntry}
use Rattle.entry_texts.specs.declared.kept_entry.KeptEntry.TheVariants.{Given}
use Rattle.journal_store.specs.declared.row_text.RowText.{RowText}
use Rattle.journal_store.specs.Tables as Row
use Rattle.journal_store.specs.Kept.{texts_of}
use Rattle.history.specs.Prefixes.{entries_of}
use Rattle.kept_entries.specs.declared.read_fault.RowFault.{RowFault}
use Rattle.kept_entries.specs.declared.read_fault.RowFault.TheVariants.{OutOfMemory, Misnumbered, Unreadable, Unsolved}
use Rattle.kept_entries.specs.declared.solving.SolvedAt.{SolvedAt}
use Rattle.kept_entries.specs.KeptRows.{row_in, rows_from, rows_of, lists_in, IsKeptPublication, AreKeepable}
use Rattle.session_commands.specs.Command.{is_solvers}
use Rattle.kept_entries.proofs.RowLemmas.{rows_tell, cons-same, nil-cons}
use Rattle.kept_entries.specs.RowTexts.{AreOf, IsToldAt, IsTold, AreTold, IsNoEntry, TellsNumbers, WhyNotRead, WhyRowNotRead, row_numbered, entry_told, told_by}

-- the element at a place, whatever stands for one that isn't there
pub element_at : {A : Type 0} (xs : List A) (place : ℕ) → place < length xs → (x : A) × ((d : A)
    → get_or xs place d ≡ x)
element_at [] place low = absurd (omega (arith, low))
element_at (x ∷ xs) zero low = (x, λ d. refl)
element_at (x ∷ xs) (suc place) low = element_at xs place (omega (arith, low))

-- the entry whose row stands at a place
pub record EntryAt (rows : List RowText) (entries : List Entry) (place : ℕ) : Type 0 where
  pub entry : Entry
  pub at : (d : Entry) → get_or entries place d ≡ entry
  pub within : place < length entries
  pub keepable : IsKeepable entry
  pub told : (d : RowText) → told_by (get_or rows place d) ≡ texts_of_entry entry
  pub next : take (place + 1) entries ≡ take place entries ++ entry ∷ []

pub entry_at : (rows : List RowText) (entries : List Entry) (place : ℕ) → AreOf rows entries → place < length rows
    → EntryAt rows entries place
entry_at rows entries place of low =
    let lengths : length rows ≡ length entries = sym (length-map rows told_by) ∙ ap length of.texts
    ∙ length-map entries texts_of_entry in
    let low' : place < length entries = omega (arith, lengths, low) in
    let it = element_at entries place low' in
    record {
      entry = it.0;
      at = it.1;
      within = low';
      keepable = rw (it.1 it.0) at (of.keepable place it.0 low');
      told = λ d.
          sym (get_or-map told_by rows place d (told_by d) low)
          ∙ ap (λ l. get_or l place (told_by d)) of.texts
          ∙ get_or-map texts_of_entry entries place it.0 (told_by d) low'
          ∙ ap texts_of_entry (it.1 it.0);
      next = rw add-one (take-suc entries place it.0 low' ∙ ap (λ x. take place entries ++ x ∷ []) (it.1 it.0));
    }

pub row_here : (rows : List RowText) (place : ℕ) (row : RowText) → place < length rows → row ≡ get_or rows place row
    → get_or (map texts_of rows) place (texts_of row) ≡ texts_of row
row_here rows place row low here = get_or-map texts_of rows place row (texts_of row) low ∙ ap texts_of (sym here)

-- the row and the entry at a place
pub record RowAt (rows : List RowText) (place : ℕ) (row : RowText) (entry : Entry) : Type 0 where
  pub at : get_or (map texts_of rows) place (texts_of row) ≡ texts_of row
  pub within : place < length (map texts_of rows)
  pub keepable : IsKeepable entry
  pub is : texts_of row ≡ row_in row.publication entry

pub row_at : (rows : List RowText) (entries : List Entry) (place : ℕ) (row : RowText) (entry : Entry)
    → AreOf rows entries
    → place < length rows → row ≡ get_or rows place row → entry ≡ get_or entries place entry
    → RowAt rows place row entry
row_at rows entries place row entry of low here there =
    let found = entry_at rows entries place of low in
    let same : entry ≡ found.entry = there ∙ found.at entry in
    let told : told_by row ≡ texts_of_entry entry = ap told_by here ∙ found.told row ∙ ap texts_of_entry (sym same) in
    record {
      at = row_here rows place row low here;
      within = rw (length-map rows texts_of) low;
      keepable = subst IsKeepable (sym same) found.keepable;
      is = λ i. record { publication = row.publication; actor = (told i).actor; command = (told i).command };
    }

-- ---- why rows aren't read

-- the row at a place has the number behind it
pub numbered_at : {A : Type 0} (xs : List A) (place : ℕ) (x : A) → place < length xs → x ≡ get_or xs place x
    → slice_get xs place ≡ Some x
numbered_at [] place x low is = absurd (omega (arith, low))
numbered_at (y ∷ xs) zero x low is = ap Some (sym is)
numbered_at (y ∷ xs) (suc place) x low is = numbered_at xs place x (omega (arith, low)) is

pub at_numbered : {A : Type 0} (xs : List A) (place : ℕ) (x : A) → slice_get xs place ≡ Some x
    → (place < length xs) × ((d : A) → get_or xs place d ≡ x)
at_numbered [] place x is = absurd (cc)
at_numbered (y ∷ xs) zero x is = (omega arith, λ d. same_Some y x is)
at_numbered (y ∷ xs) (suc place) x is =
    let rest = at_numbered xs place x is in let low = rest.0 in (omega (arith, low), rest.1)

-- what a fault says of a row it says of the rows
pub row_fault : (rows : List RowText) (place number : ℕ) (row : RowText) (fault : RowFault) → place < length rows
    → row ≡ get_or rows place row → number ≡ suc place → WhyRowNotRead row number fault → WhyNotRead rows fault
row_fault rows place number row OutOfMemory low is count why = tt
row_fault rows place number row Misnumbered low is count why = absurd why
row_fault rows place number row (Unreadable named) low is count why =
    (row, ap (row_numbered rows) (why.0 ∙ count) ∙ numbered_at rows place row low is, why.1)
row_fault rows place number row (Unsolved named) low is count why =
    (row, ap (row_numbered rows) (why.0 ∙ count) ∙ numbered_at rows place row low is, why.1)

-- what an entry is read as tells numbers only where its command does
pub numbers_told : (row : RowText) (kept : KeptEntry) → IsTold row kept
    → is_solvers (entry_told kept).command ≡ true → TellsNumbers row
numbers_told row kept told numbers = λ entry keepable readable is.
    ap (λ (e : Entry). is_solvers e.command) (sym (told entry keepable readable is)) ∙ numbers

-- where other texts are written of what was told, the row is no entry's
pub other_texts : (row : RowText) (kept : KeptEntry) (entry : Entry) → IsTold row kept → entry_told kept ≡ entry
    → told_by row ≢ texts_of_entry entry → IsNoEntry row
other_texts row kept entry told is other = λ e keepable readable same.
    other (same ∙ ap texts_of_entry (sym (told e keepable readable same) ∙ is))

-- ---- rows are told

pub told_push : (rows : List RowText) (read : List KeptEntry) (row : RowText) (kept : KeptEntry) → AreTold rows read
    → IsTold row kept → AreTold (rows ++ row ∷ []) (read ++ kept ∷ [])
told_push [] [] row kept told is = (is, tt)
told_push [] (k ∷ read) row kept told is = absurd told
told_push (r ∷ rows) [] row kept told is = absurd told
told_push (r ∷ rows) (k ∷ read) row kept told is = (told.0, told_push rows read row kept told.1 is)

pub told_next : (rows : List RowText) (read : List KeptEntry) (place : ℕ) (row : RowText) (kept : KeptEntry)
    → place < length rows → row ≡ get_or rows place row → AreTold (take place rows) read → IsTold row kept
    → AreTold (take (place + 1) rows) (read ++ kept ∷ [])
told_next rows read place row kept low is told it =
    let next : take (place + 1) rows ≡ take place rows ++ row ∷ [] = rw add-one (take-suc rows place row low
    ∙ ap (λ x. take place rows ++ x ∷ []) (sym is)) in
    subst (λ l. AreTold l (read ++ kept ∷ [])) (sym next) (told_push (take place rows) read row kept told it)

-- the row and what was read at a place
pub told_there : (rows : List RowText) (read : List KeptEntry) (place : ℕ) (row : RowText) (kept : KeptEntry)
    → AreTold rows read → place < length rows → row ≡ get_or rows place row → kept ≡ get_or read place kept
    → IsTold row kept
told_there [] read place row kept told low here there = absurd (omega (arith, low))
told_there (r ∷ rows) [] place row kept told low here there = absurd told
told_there (r ∷ rows) (k ∷ read) zero row kept told low here there =
    subst (λ x. IsTold x kept) (sym here) (subst (IsTold r) (sym there) told.0)
told_there (r ∷ rows) (k ∷ read) (suc place) row kept told low here there =
    told_there rows read place row kept told.1 (omega (arith, low)) here there

-- as long as each place tells what it told
pub told_as_before : (rows : List RowText) (read old : List KeptEntry) → AreTold rows old
    → map entry_told read ≡ map entry_told old → AreTold rows read
told_as_before [] [] old told same = tt
told_as_before [] (k ∷ read) [] told same = absurd (nil-cons (entry_told k) (map entry_told read) (sym same))
told_as_before [] (k ∷ read) (o ∷ old) told same = absurd told
told_as_before (r ∷ rows) read [] told same = absurd told
told_as_before (r ∷ rows) [] (o ∷ old) told same = absurd (nil-cons (entry_told o) (map entry_told old) same)
told_as_before (r ∷ rows) (k ∷ read) (o ∷ old) told same =
    let both = cons-same (entry_told k) (entry_told o) (map entry_told read) (map entry_told old) same in (
      λ entry keepable readable is. both.0 ∙ told.0 entry keepable readable is,
      told_as_before rows read old told.1 both.1,
    )

-- what its texts tell of an entry is the entry
again : (actor : Actor) (it : Command)
    → entry_told (kept_command (record { actor = actor; command = it }) it) ≡ record { actor = actor; command = it }
again actor (command.Solved board table) = refl
again actor (command.Analysed cell costs) = refl
again actor _ = refl

pub told_again : (entry : Entry) → entry_told (kept_of entry) ≡ entry
told_again entry = again entry.actor entry.command

-- what was told at a place is told there as long as each place tells what it told
pub told_still : (read old : List KeptEntry) (it : SolvedAt) → map entry_told read ≡ map entry_told old
    → IsToldAt old it → IsToldAt read it
told_still read old it same told =
    let lengths : length read ≡ length old = sym (length-map read entry_told) ∙ ap length same
    ∙ length-map old entry_told in
    let low : it.place < length read = omega (arith, lengths, told.within) in
    record {
      within = low;
      told = λ d.
          sym (get_or-map entry_told read it.place d (entry_told d) low)
          ∙ ap (λ l. get_or l it.place (entry_told d)) same
          ∙ get_or-map entry_told old it.place d (entry_told d) told.within
          ∙ told.told d;
    }

-- an entry in the place of what tells it
pub told_set : (read old : List KeptEntry) (it : SolvedAt) → map entry_told read ≡ map entry_told old → IsToldAt read it
    → map entry_told (set read it.place (Given it.entry)) ≡ map entry_told old
told_set read old it same told =
    map-set_same entry_told read it.place (Given it.entry) (Given it.entry) (sym (told.told (Given it.entry))) ∙ same

-- ---- rows of publications are those of their entries

plain : Row.RowBytes → Texts
plain it = record { actor = it.actor; command = it.command }

plain_again : (rows : List RowText) → map told_by rows ≡ map plain (map texts_of rows)
unfolding plain
plain_again [] = refl
plain_again (row ∷ rows) = ap (λ l. told_by row ∷ l) (plain_again rows)

plain_in : (number : ℕ) (entries : List Entry) → map plain (map (row_in number) entries) ≡ map texts_of_entry entries
unfolding plain
plain_in number [] = refl
plain_in number (entry ∷ entries) = ap (λ l. texts_of_entry entry ∷ l) (plain_in number entries)

plain_from : (number : ℕ) (published : List (List Entry))
    → map plain (rows_from number published) ≡ map texts_of_entry (entries_of published)
plain_from number [] = refl
plain_from number (entries ∷ later) =
    map-append plain (map (row_in number) entries) (rows_from (suc number) later)
    ∙ ap (λ l. l ++ map plain (rows_from (suc number) later)) (plain_in number entries)
    ∙ ap (λ l. map texts_of_entry entries ++ l) (plain_from (suc number) later)
    ∙ sym (map-append texts_of_entry entries (entries_of later))

keepable_all : (published : List (List Entry)) → AllByRecursion IsKeptPublication published → All IsKeepable (entries_of published)
keepable_all [] kept = All-nil IsKeepable
keepable_all (entries ∷ later) kept = All-append IsKeepable entries (entries_of later) kept.0.keepable
    (keepable_all later kept.1)

pub are_of : (rows : List RowText) (published : List (List Entry)) → AreKeepable published
    → map texts_of rows ≡ rows_of published
    → AreOf rows (entries_of published)
are_of rows published kept same = record {
  keepable = keepable_all published (recursion_from_All IsKeptPublication published kept);
  texts = plain_again rows ∙ ap (map plain) same ∙ plain_from 1 published;
}

-- what is found of rows of publications is the publications
pub found_same : {E : Type 0} (texts : List Row.RowBytes) (published : List (List Entry)) → AreKeepable published
    → texts ≡ rows_of published
    → (r : Result (Vec (Vec Entry)) E) → IfOk r (λ found. texts ≡ rows_of (lists_in found.items))
    → IfOk r (λ found. AreKeepable (lists_in found.items))
    → IfOk r (λ found. lists_in found.items ≡ published)
found_same texts published kept same (Ok found) rows keepable = rows_tell
    (lists_in found.items) published keepable kept (sym rows ∙ same)
found_same texts published kept same (Err fault) rows keepable = tt

-- one element more on each side
pub map_next : {A B C : Type 0} (f : A → C) (g : B → C) (xs : List A) (ys : List B) (place : ℕ) (x : A) (y : B)
    → place < length xs
    → x ≡ get_or xs place x → map f (take place xs) ≡ map g ys → f x ≡ g y
    → map f (take (place + 1) xs) ≡ map g (ys ++ y ∷ [])
map_next f g xs ys place x y low here same is =
    map_more f xs place x low ∙ ap (λ z. map f (take place xs) ++ f z ∷ []) (sym here) ∙ ap (λ l. l ++ f x ∷ []) same
    ∙ ap (λ z. map g ys ++ z ∷ []) is ∙ sym (map-append g ys (y ∷ []))
