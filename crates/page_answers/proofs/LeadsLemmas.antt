-- Where a path leads.
use Rattle.std.proofs.Common.{◌≡◌, ℕ, Bool, true, false, cond, List, [], ◌∷◌, Option, Some, None, Contains, string_bytes, bytes_eq, option_and_then, refl, sym, ap, subst, inl, inr}
use Rattle.std.specs.Option.{unwrap_or}
use Rattle.std.proofs.lemmas.List.Elements.{Contains-append_left, Contains-append_right, Contains-push}
use Rattle.std.proofs.lemmas.Slice.Eq.{bytes_eq-Decides}
use Rattle.http_uri.specs.Uri.{uri_path}
use Rattle.http.specs.declared.request.Parts.{Parts}
use Rattle.page_files.specs.declared.page_file.PageFile.{PageFile}
use Rattle.page_answers.specs.PageAnswer.{name_asked, packed_name, file_named, file_asked, accepts_gzip, packed_for, form_answer, found_answer, given, is_held, get_answer, unchanged_answer, whole_answer, not_allowed_answer}
use Rattle.page_answers.specs.Laws.{IsFormOf, LeadsInside}

-- a file is among the files, and has the name
abbrev IsFound : List PageFile → List ℕ → PageFile → Type 0
IsFound files name file = Contains files file × (name ≡ string_bytes file.name)

-- it is the first, or one of the others
is_found_there : (first : PageFile) (files : List PageFile) (name : List ℕ) (file : PageFile) → IsFound files name file
    → IsFound (first ∷ files) name file
is_found_there first files name file found = (Contains-append_right (first ∷ []) files file found.0, found.1)

is_found_step : (first : PageFile) (files : List PageFile) (name : List ℕ) (file : PageFile) (test : Bool)
    → bytes_eq (string_bytes first.name) name ≡ test → cond test (Some first) (file_named files name) ≡ Some file
    → (file_named files name ≡ Some file → IsFound files name file) → IsFound (first ∷ files) name file
is_found_step first files name file false test is later = is_found_there first files name file (later is)
is_found_step first files name file true test is later =
    let P : PageFile → Type 0 = IsFound (first ∷ files) name in
    subst P (ap (λ found. unwrap_or found first) is) (
      Contains-append_left (first ∷ []) files first (Contains-push [] first),
      sym ((bytes_eq-Decides (string_bytes first.name) name).0 test),
    )

-- a file that is found by a name
is_found : (files : List PageFile) (name : List ℕ) (file : PageFile) → file_named files name ≡ Some file
    → IsFound files name file
is_found [] name file is = absurd (cc)
is_found (first ∷ files) name file is =
    is_found_step first files name file (bytes_eq (string_bytes first.name) name) refl is (is_found files name file)

-- a file that is found by what a path asks for
is_asked : (files : List PageFile) (asked : Option (List ℕ)) (file : PageFile)
    → option_and_then (file_named files) asked ≡ Some file → Contains files file × (asked ≡ Some (string_bytes file.name))
is_asked files None file is = absurd (cc)
is_asked files (Some name) file is =
    let found = is_found files name file is in (found.0, ap Some found.1)

-- a compressed form that is found by the name of its file
is_form : (files : List PageFile) (name : List ℕ) (accepts : Bool) (packed : PageFile)
    → cond accepts (file_named files (packed_name name)) None ≡ Some packed → IsFound files (packed_name name) packed
is_form files name false packed is = absurd (cc)
is_form files name true packed is = is_found files (packed_name name) packed is

-- what is sent for a file stays inside
sent_stays : (files : List PageFile) (head : Parts) (file sent : PageFile) (is_packed held : Bool)
    → Contains files file → name_asked (uri_path head.uri) ≡ Some (string_bytes file.name) → Contains files sent
    → IsFormOf file sent
    → LeadsInside files head (cond held (unchanged_answer sent) (whole_answer (string_bytes file.name) is_packed sent))
sent_stays files head file sent is_packed true among named beside form = inl (inl refl)
sent_stays files head file sent is_packed false among named beside form =
    inr (record { file = file; among = among; named = named; sent = sent; beside = beside; form = form; whole = refl })

-- and so does the file in its form
form_stays : (files : List PageFile) (head : Parts) (file : PageFile) (packed : Option PageFile)
    → file_asked files (uri_path head.uri) ≡ Some file → packed_for files head (string_bytes file.name) ≡ packed
    → LeadsInside files head (form_answer head file packed)
form_stays files head file None is none =
    let asked = is_asked files (name_asked (uri_path head.uri)) file is in
    sent_stays files head file file false (is_held file head) asked.0 asked.1 asked.0 (inl refl)
form_stays files head file (Some packed) is found =
    let asked = is_asked files (name_asked (uri_path head.uri)) file is in
    let form = is_form files (string_bytes file.name) (accepts_gzip head) packed found in
    sent_stays files head file packed true (is_held packed head) asked.0 asked.1 form.0 (inr (sym form.1))

-- and so does what is found
found_stays : (files : List PageFile) (head : Parts) (found : Option PageFile)
    → file_asked files (uri_path head.uri) ≡ found → LeadsInside files head (found_answer files head found)
found_stays files head None is = inl (inr (inl refl))
found_stays files head (Some file) is =
    form_stays files head file (packed_for files head (string_bytes file.name)) is refl

-- and so does what is answered, by whatever method it is asked for
pub stays_inside : (files : List PageFile) (head : Parts) (gets heads : Bool)
    → LeadsInside files head
    (cond gets (given false (get_answer files head)) (cond heads (given true (get_answer files head)) not_allowed_answer))
stays_inside files head true heads = found_stays files head (file_asked files (uri_path head.uri)) refl
stays_inside files head false true = inl (inl refl)
stays_inside files head false false = inl (inr (inr refl))

-- what is answered to HEAD has no body
pub no_body : (files : List PageFile) (head : Parts) (gets heads : Bool) → gets ≡ false → heads ≡ true
    → (cond gets (given false (get_answer files head)) (cond heads (given true (get_answer files head)) not_allowed_answer)).body
    ≡ []
no_body files head false true not_get is = refl
no_body files head false false not_get is = absurd (cc)
no_body files head true heads not_get is = absurd (cc)
