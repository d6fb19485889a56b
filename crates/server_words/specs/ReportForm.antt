-- The forms in which a report is written, by their words.
use Rattle.std.specs.Prelude.{ℕ, List, codes}
use Rattle.server_words.specs.declared.words.ReportForm.{ReportForm}
use Rattle.server_words.specs.declared.words.ReportForm.TheVariants.{Csv, Html, Pbn, Usebio}

-- the word of a form
abbrev pub form_word : ReportForm → List ℕ
form_word Csv = codes "csv"
form_word Html = codes "html"
form_word Pbn = codes "pbn"
form_word Usebio = codes "usebio"
