-- A page that is read file by file.
use Rattle.std.proofs.Common.{◌≡◌, ℕ, ◌+◌, ◌-◌, ◌≤◌, All, List, [], ◌∷◌, ◌++◌, length, string_bytes, arith}
use Rattle.std.proofs.lemmas.List.{length_push}
use Rattle.std.proofs.lemmas.List.Elements.{All-push}
use Rattle.std.proofs.lemmas.List.Sums.{sum_by_push}
use Rattle.page_files.specs.PageFiles.{IsNameOfFile, page_bytes}
use Rattle.page_files.specs.declared.page_file.PageFile.{PageFile}
use Rattle.page_files.specs.declared.page_reading.TheConstants.{MOST_PAGE_BYTES, MOST_PAGE_FILES}

-- one file more has its name among them
pub names_more : (files : List PageFile) (file : PageFile) → All (λ one. IsNameOfFile (string_bytes one.name)) files
    → IsNameOfFile (string_bytes file.name) → All (λ one. IsNameOfFile (string_bytes one.name)) (files ++ file ∷ [])
names_more files file names named = All-push (λ one. IsNameOfFile (string_bytes one.name)) files file names named

-- it takes its part of what is left
pub room_less : (files : List PageFile) (file : PageFile) (left : ℕ) → page_bytes files + left ≡ MOST_PAGE_BYTES
    → length file.bytes ≤ left → page_bytes (files ++ file ∷ []) + (left - length file.bytes) ≡ MOST_PAGE_BYTES
room_less files file left room fits =
    rw (sum_by_push (λ one. length one.bytes) files file) (omega (arith, room, fits))

-- and is one more
pub count_more : (files : List PageFile) (file : PageFile) → length files + 1 ≤ MOST_PAGE_FILES
    → length (files ++ file ∷ []) ≤ MOST_PAGE_FILES
count_more files file few = rw (length_push files file) few
