-- What is answered to a request for a file of the page (RFC 9110: GET and HEAD 9.3.1 and 9.3.2, the statuses 15.3.1, 15.4.5, 15.5.5
-- and 15.5.6, the condition 13.1.2, codings 8.4 and 12.5.3, `Vary` 12.5.5). That a path is compared with the files' names as it was
-- sent, and that a file's compressed form stands beside it under its name with `.gz` behind, is this project's own.
use Rattle.std.specs.Prelude.{ℕ, Bool, true, false, ◌||◌, ◌==◌, List, [], ◌∷◌, ◌++◌, map, length, codes, decimal, string_bytes, Option, Some, None, option_and_then, if◌then◌else◌}
use Rattle.std.specs.List.{find, list_any}
use Rattle.std.specs.Str.{bytes_eq}
use Rattle.http1.specs.Fields.{Header, elements, has_option}
use Rattle.http_header.specs.FieldValue.{FieldValue}
use Rattle.http_header.specs.HeaderMap.{get_all}
use Rattle.http_uri.specs.Uri.{uri_path}
use Rattle.http.specs.declared.request.Parts.{Parts}
use Rattle.http_server.specs.declared.response.Response.{Response}
use Rattle.http_server.specs.Response.{IsResponse}
use Rattle.memchr.specs.Find.{matches}
use Rattle.page_files.specs.declared.page_file.PageFile.{PageFile}
use Rattle.page_answers.specs.ContentType.{content_type_of}
use Rattle.page_answers.specs.FileTag.{file_tag}
use Rattle.page_answers.specs.declared.page_answers.PageAnswers.{PageAnswers}
use Rattle.page_answers.specs.Guards.{guards}

-- the files that are handed out
abbrev pub files_of : PageAnswers → List PageFile
files_of page = map (λ tagged. tagged.file) page.files.items

-- the name that a path asks for, as it was sent: what stands behind its slash, and the index where nothing does
abbrev pub name_asked : List ℕ → Option (List ℕ)
name_asked [] = None
name_asked (first ∷ []) = if first == 47 then Some (codes "index.html") else None
name_asked (first ∷ second ∷ rest) = if first == 47 then Some (second ∷ rest) else None

-- the file of this name
abbrev pub file_named : List PageFile → List ℕ → Option PageFile
file_named files name = find (λ file. bytes_eq (string_bytes file.name) name) files

-- the file that a path asks for
abbrev pub file_asked : List PageFile → List ℕ → Option PageFile
file_asked files path = option_and_then (file_named files) (name_asked path)

-- what is answered
pub record FileAnswer : Type 0 where
  pub status : ℕ
  pub fields : List Header
  pub body : List ℕ

-- the name of a file's compressed form
abbrev pub packed_name : List ℕ → List ℕ
packed_name name = name ++ codes ".gz"

-- a list of codings has gzip among them, without a weight
abbrev pub lists_gzip : FieldValue → Bool
lists_gzip value = has_option (codes "gzip") (elements value.bytes)

-- whoever asks understands gzip
abbrev pub accepts_gzip : Parts → Bool
accepts_gzip head = list_any lists_gzip (get_all head.headers (codes "accept-encoding"))

-- the compressed form of the file of a name, if there is one, and whoever asks understands it
abbrev pub packed_for : List PageFile → Parts → List ℕ → Option PageFile
packed_for files head name = if accepts_gzip head then file_named files (packed_name name) else None

-- what is sent may be another for whoever understands other codings; and by what it is known again
abbrev pub tag_fields : PageFile → List Header
tag_fields sent = (codes "vary", codes "accept-encoding") ∷ (codes "etag", file_tag sent.bytes) ∷ []

-- how what is sent was made of the file
abbrev pub coding_fields : Bool → List Header
coding_fields true = (codes "content-encoding", codes "gzip") ∷ []
coding_fields false = []

-- the file of a name, whole: as it is, or compressed
abbrev pub whole_answer : List ℕ → Bool → PageFile → FileAnswer
whole_answer name is_packed sent = record {
  status = 200;
  fields = guards ++ tag_fields sent ++ ((codes "content-type", content_type_of name) ∷ coding_fields is_packed);
  body = sent.bytes;
}

-- that it is still what it was
abbrev pub unchanged_answer : PageFile → FileAnswer
unchanged_answer sent = record {
  status = 304;
  fields = guards ++ tag_fields sent;
  body = [];
}

abbrev pub plain_text : List ℕ
plain_text = codes "text/plain; charset=utf-8"

-- that there is no such file
abbrev pub not_found_answer : FileAnswer
not_found_answer = record {
  status = 404;
  fields = guards ++ ((codes "content-type", plain_text) ∷ []);
  body = codes "There is no such file.";
}

-- that files are read, and nothing else is done to them
abbrev pub not_allowed_answer : FileAnswer
not_allowed_answer = record {
  status = 405;
  fields = guards ++ ((codes "allow", codes "GET, HEAD") ∷ (codes "content-type", plain_text) ∷ []);
  body = codes "Files are read by GET and HEAD alone.";
}

-- there is one
abbrev pub is_any : List ℕ → Bool
is_any [] = false
is_any (first ∷ rest) = true

-- a field's value tells a tag: it is in the list of tags, weak or strong, or stands for any
abbrev pub tells_tag : List ℕ → FieldValue → Bool
tells_tag tag value = bytes_eq value.bytes (codes "*") || is_any (matches value.bytes tag 0)

-- whoever asks tells that he has what is sent
abbrev pub is_held : PageFile → Parts → Bool
is_held sent head = list_any (tells_tag (file_tag sent.bytes)) (get_all head.headers (codes "if-none-match"))

-- what is sent, unless whoever asks has it
abbrev pub sent_answer : Parts → List ℕ → Bool → PageFile → FileAnswer
sent_answer head name is_packed sent = if is_held sent head then unchanged_answer sent else whole_answer name is_packed sent

-- a file, in its compressed form if that was found
abbrev pub form_answer : Parts → PageFile → Option PageFile → FileAnswer
form_answer head file None = sent_answer head (string_bytes file.name) false file
form_answer head file (Some packed) = sent_answer head (string_bytes file.name) true packed

-- the file that was found, in its form, or that there is none
abbrev pub found_answer : List PageFile → Parts → Option PageFile → FileAnswer
found_answer files head None = not_found_answer
found_answer files head (Some file) = form_answer head file (packed_for files head (string_bytes file.name))

-- the answer to GET
abbrev pub get_answer : List PageFile → Parts → FileAnswer
get_answer files head = found_answer files head (file_asked files (uri_path head.uri))

-- how long the body is that GET gets, unless it is empty
abbrev pub length_fields : List ℕ → List Header
length_fields [] = []
length_fields (byte ∷ rest) = (codes "content-length", decimal (length (byte ∷ rest))) ∷ []

-- the answer to HEAD, where this is the one to GET: no body, and how long it would be
abbrev pub without_body : FileAnswer → FileAnswer
without_body answer = record {
  status = answer.status;
  fields = answer.fields ++ length_fields answer.body;
  body = [];
}

-- the answer to HEAD or to GET
abbrev pub given : Bool → FileAnswer → FileAnswer
given is_head answer = if is_head then without_body answer else answer

-- the answer to a request with this head
abbrev pub page_answer : List PageFile → Parts → FileAnswer
page_answer files head =
    if bytes_eq head.method (codes "GET") then given false (get_answer files head)
    else if bytes_eq head.method (codes "HEAD") then given true (get_answer files head)
    else not_allowed_answer

-- a response is that answer
abbrev pub IsAnswer : FileAnswer → Response → Type 0
IsAnswer answer response = IsResponse answer.status answer.fields answer.body response

-- a response says of itself what each does, and nothing else yet
abbrev pub HasGuards : Response → Type 0
HasGuards response = IsResponse 200 guards [] response

-- a response is the answer to a request with this head
abbrev pub IsPageAnswer : List PageFile → Parts → Response → Type 0
IsPageAnswer files head response = IsAnswer (page_answer files head) response
