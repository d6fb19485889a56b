-- Beginnings of a history of publications.
use Rattle.std.specs.Prelude.{List, [], ◌∷◌, ◌++◌, refl}
use Rattle.std.specs.Coded.{Coded, code_by, coded×, coded_list}
use Rattle.logbook.specs.Pages.{Book, book_coded}
use Rattle.session_commands.specs.declared.entry.Entry.{Entry}
use Rattle.session_commands.specs.contracts.entry.Entry as the_entry

-- which history it is, and the publications with which it begins, each as the list of its entries
pub record Prefix : Type 0 where
  pub history : Book
  pub publications : List (List Entry)

abbrev pub prefix_in : Book → List (List Entry) → Prefix
prefix_in history publications = record { history = history; publications = publications }

-- the entries of all publications, one after another
abbrev pub entries_of : List (List Entry) → List Entry
entries_of [] = []
entries_of (publication ∷ later) = publication ++ entries_of later

-- ---- how these are stored

abbrev pub prefix_code : Coded Prefix
prefix_code =
    code_by (Book × List (List Entry)) (coded× book_coded (coded_list (coded_list the_entry.the_row.coded)))
    (λ r. (r.history, r.publications))
    (λ p. record { history = p.0; publications = p.1 })
    (λ _. refl)
