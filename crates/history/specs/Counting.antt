-- The rule of the history, and what a step on it tells.
use Rattle.std.specs.Prelude.{ℕ, ◌≡◌, ◌==◌, true, List, [], ◌∷◌, ◌++◌, length, MatchBool}
use Rattle.logbook.specs.Pages.{Cell, Step, View, Book, Named}
use Rattle.session_commands.specs.declared.entry.Entry.{Entry}

-- the first word is the number of publications. A book has two words, of which this one leaves the second at 0
pub record IsCounted (cells : List Cell) (log : List (List Entry)) : Type 0 where
  pub words : cells ≡ (length log, true) ∷ (0, true) ∷ []

-- the first word of a book
abbrev pub head_of : Book → Named
head_of book = record { tracked = true; key = 0; book = book }

-- the publication was added behind all that was known; or the history is longer, and nothing was added
abbrev pub AddsPublication : Step (List Entry) → View (List Entry) ℕ → ℕ → View (List Entry) ℕ → Type 0
AddsPublication step before found after = MatchBool (found == step.old) (after.0 ≡ before.0 ++ step.ask ∷ []) (Unit {0})
