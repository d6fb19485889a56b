-- What is published, what a copy of the view shows of it, and the rule of the two copies.
use Rattle.std.specs.Prelude.{◌≡◌, ◌<◌, List, [], ◌∷◌, fold, length, refl}
use Rattle.std.specs.Coded.{Coded, code_by, coded×, coded_list}
use Rattle.logbook.specs.Pages.{Book}
use Rattle.session_state.specs.SessionState.{SessionState}
use Rattle.session_commands.specs.declared.entry.Entry.{Entry}
use Rattle.session_commands.specs.contracts.entry.Entry as the_entry
use Rattle.session_book.specs.Journal.{IsAccepted}
use Rattle.history.specs.Prefixes.{Prefix, entries_of, prefix_code}
use Rattle.published_view.specs.View.{Seen, StandsFor, seen_after, seen_code}

-- each publication has an entry
abbrev pub NoneEmpty : List (List Entry) → Type 0
NoneEmpty [] = Unit {0}
NoneEmpty (publication ∷ others) = (0 < length publication) × NoneEmpty others

-- such publications a session may have had: their entries are an accepted journal, and each has an entry
pub record IsPublished (opening : SessionState) (publications : List (List Entry)) : Type 0 where
  pub accepted : IsAccepted opening (entries_of publications)
  pub none_empty : NoneEmpty publications

-- a copy: what its view shows, and the publications for which it stands
pub record Copied : Type 0 where
  pub shown : Seen
  pub prefix : Prefix

abbrev pub copied : Seen → Prefix → Copied
copied shown prefix = record { shown = shown; prefix = prefix }

-- the rule of the copies: the one that is shown stands for publications of that history
pub record ShowsPublished (opening : SessionState) (history : Book) (copy : Copied) : Type 0 where
  pub stands : StandsFor opening (entries_of copy.prefix.publications) copy.shown
  pub published : IsPublished opening copy.prefix.publications
  pub history_is : copy.prefix.history ≡ history

-- what a copy takes in: the entries of one publication, and all publications with it
pub record Addition : Type 0 where
  pub entries : List Entry
  pub prefix : Prefix

abbrev pub addition : List Entry → Prefix → Addition
addition entries prefix = record { entries = entries; prefix = prefix }

abbrev pub with_addition : Copied → Addition → Copied
with_addition copy more = record { shown = fold seen_after copy.shown more.entries; prefix = more.prefix }

-- ---- how these are stored

abbrev pub publications_code : Coded (List (List Entry))
publications_code = coded_list (coded_list the_entry.the_row.coded)

abbrev pub copied_code : Coded Copied
copied_code =
    code_by (Seen × Prefix) (coded× seen_code prefix_code) (λ c. (c.shown, c.prefix))
    (λ p. record { shown = p.0; prefix = p.1 }) (λ _. refl)

abbrev pub addition_code : Coded Addition
addition_code =
    code_by (List Entry × Prefix) (coded× (coded_list the_entry.the_row.coded) prefix_code)
    (λ o. (o.entries, o.prefix)) (λ p. record { entries = p.0; prefix = p.1 }) (λ _. refl)
