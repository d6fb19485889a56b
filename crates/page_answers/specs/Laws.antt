-- own: where a path leads.
use Rattle.std.specs.Prelude.{◌≡◌, ◌⊎◌, ℕ, List, [], Some, string_bytes}
use Rattle.std.specs.List.{Contains}
use Rattle.http_uri.specs.Uri.{uri_path}
use Rattle.http.specs.declared.request.Parts.{Parts}
use Rattle.page_files.specs.declared.page_file.PageFile.{PageFile}
use Rattle.page_answers.specs.PageAnswer.{FileAnswer, name_asked, packed_name, not_found_answer, not_allowed_answer}

-- what is sent beside files: nothing, or a text that is the same for each page
abbrev pub IsFixedText : List ℕ → Type 0
IsFixedText body = (body ≡ []) ⊎ ((body ≡ not_found_answer.body) ⊎ (body ≡ not_allowed_answer.body))

-- what is sent for a file: itself, or what stands under its name with `.gz` behind it
abbrev pub IsFormOf : PageFile → PageFile → Type 0
IsFormOf file sent = (sent ≡ file) ⊎ (string_bytes sent.name ≡ packed_name (string_bytes file.name))

-- all bytes of a file whose name is what the request's path asks for, byte for byte, or of its compressed form
pub record IsOfFile (files : List PageFile) (head : Parts) (body : List ℕ) : Type 0 where
  pub file : PageFile
  pub among : Contains files file
  pub named : name_asked (uri_path head.uri) ≡ Some (string_bytes file.name)
  pub sent : PageFile
  pub beside : Contains files sent
  pub form : IsFormOf file sent
  pub whole : body ≡ sent.bytes

-- nothing else is sent
abbrev pub LeadsInside : List PageFile → Parts → FileAnswer → Type 0
LeadsInside files head answer = IsFixedText answer.body ⊎ IsOfFile files head answer.body
