-- own: the files of a page, as they were when its folder was read.
use Rattle.std.specs.Prelude.{◌≡◌, ◌⊎◌, ℕ, ◌≤◌, Bool, false, not, ◌&&◌, ◌==◌, List, [], ◌∷◌, ◌++◌, All, codes, length, string_bytes, sum_by, IsTrue}
use Rattle.std.specs.List.{list_any}
use Rattle.std.specs.Str.{bytes_eq}
use Rattle.page_files.specs.declared.page_file.PageFile.{PageFile}
use Rattle.page_files.specs.declared.page_reading.TheConstants.{MOST_PAGE_BYTES, MOST_PAGE_FILES}

-- a name that may stand in a page: one with no slash, and no dot at its beginning, as `.`, `..` and hidden files have
abbrev pub is_plain_name : List ℕ → Bool
is_plain_name [] = false
is_plain_name (first ∷ rest) = not (first == 46) && not (list_any (λ letter. letter == 47) (first ∷ rest))

-- the name of a file in a folder of the page's folder
pub record IsNameBelow (name : List ℕ) : Type 0 where
  pub folder : List ℕ
  pub file : List ℕ
  pub joined : name ≡ folder ++ (codes "/" ++ file)
  pub is_folder : IsTrue (is_plain_name folder)
  pub is_file : IsTrue (is_plain_name file)

-- the name of a file: it stands in the page's folder, or in one below
abbrev pub IsNameOfFile : List ℕ → Type 0
IsNameOfFile name = IsTrue (is_plain_name name) ⊎ IsNameBelow name

-- how many bytes the files have together
abbrev pub page_bytes : List PageFile → ℕ
page_bytes files = sum_by (λ file. length file.bytes) files

-- the file that is answered where none is named
abbrev pub is_index : PageFile → Bool
is_index file = bytes_eq (string_bytes file.name) (codes "index.html")

-- the files of a page
pub record IsPage (files : List PageFile) : Type 0 where
  pub names : All (λ file. IsNameOfFile (string_bytes file.name)) files
  pub few : page_bytes files ≤ MOST_PAGE_BYTES
  pub count : length files ≤ MOST_PAGE_FILES
  pub index : IsTrue (list_any is_index files)
