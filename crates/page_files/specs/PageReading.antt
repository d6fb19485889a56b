-- own: a page whose files are being read.
use Rattle.std.specs.Prelude.{◌≡◌, ℕ, ◌+◌, ◌≤◌, All, length, string_bytes}
use Rattle.page_files.specs.PageFiles.{IsNameOfFile, page_bytes}
use Rattle.page_files.specs.declared.page_reading.PageReading.{PageReading}
use Rattle.page_files.specs.declared.page_reading.TheConstants.{MOST_PAGE_BYTES, MOST_PAGE_FILES}

-- for how many bytes there is still room
abbrev pub room_of : PageReading → ℕ
room_of reading = reading.left

-- what was read may stand in a page, and what is left is the room for the rest
pub record IsReading (reading : PageReading) : Type 0 where
  pub names : All (λ file. IsNameOfFile (string_bytes file.name)) reading.files.items
  pub room : page_bytes reading.files.items + reading.left ≡ MOST_PAGE_BYTES
  pub count : length reading.files.items ≤ MOST_PAGE_FILES
