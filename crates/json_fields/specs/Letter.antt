-- Texts of one letter: a place, a strain.
use Rattle.std.specs.Prelude.{ℕ, List, [], ◌∷◌, ◌==◌, Option, None}
use Rattle.std.specs.List.{find}
use Rattle.table_terms.specs.declared.place.Place.{Place}
use Rattle.table_terms.specs.declared.place.Place.TheVariants.{North, East, South, West}
use Rattle.table_terms.specs.declared.strain.Strain.{Strain}
use Rattle.table_terms.specs.declared.strain.Strain.TheVariants as strain
use Rattle.table_terms.specs.Place.{place_letter}
use Rattle.table_terms.specs.Strain.{strain_letter}

-- the place whose letter the text is
abbrev pub place_named : List ℕ → Option Place
place_named [] = None
place_named (letter ∷ []) = find (λ place. place_letter place == letter) (North ∷ East ∷ South ∷ West ∷ [])
place_named (letter ∷ other ∷ rest) = None

-- the strain whose letter the text is
abbrev pub strain_named : List ℕ → Option Strain
strain_named [] = None
strain_named (letter ∷ []) =
    find (λ x. strain_letter x == letter)
    (strain.Spades ∷ strain.Hearts ∷ strain.Diamonds ∷ strain.Clubs ∷ strain.NoTrump ∷ [])
strain_named (letter ∷ other ∷ rest) = None
