-- own: what whoever asks for no session gets.
use Rattle.std.specs.Prelude.{List, [], Option, None, Some}
use Rattle.http.specs.declared.request.Parts.{Parts}
use Rattle.http_server.specs.declared.response.Response.{Response}
use Rattle.http_server.specs.Response.{IsResponse}
use Rattle.page_files.specs.declared.page_file.PageFile.{PageFile}
use Rattle.page_answers.specs.PageAnswer.{IsPageAnswer}

-- the answer from the files of a page, or where there is none, that there is none
abbrev pub IsHandedOut : Option (List PageFile) → Parts → Response → Type 0
IsHandedOut None head response = IsResponse 404 [] [] response
IsHandedOut (Some files) head response = IsPageAnswer files head response
