-- A letter of a strain, a suit or a place is one byte of text.
use Rattle.std.proofs.Common.{◌≡◌, ◌∷◌, [], refl}
use Rattle.std.specs.Prelude.{encode_utf8}
use Rattle.table_terms.specs.declared.strain.Strain.{Strain}
use Rattle.table_terms.specs.declared.strain.Strain.TheVariants as strain
use Rattle.table_terms.specs.declared.suit.Suit.{Suit}
use Rattle.table_terms.specs.declared.suit.Suit.TheVariants as suit
use Rattle.table_terms.specs.declared.place.Place.{Place}
use Rattle.table_terms.specs.declared.place.Place.TheVariants as place
use Rattle.table_terms.specs.Strain.{strain_letter}
use Rattle.table_terms.specs.Suit.{suit_letter}
use Rattle.table_terms.specs.Place.{place_letter}

pub strain_byte : (which : Strain) → encode_utf8 (strain_letter which) ≡ strain_letter which ∷ []
unfolding lib.Utf8.encode
strain_byte strain.Spades = refl
strain_byte strain.Hearts = refl
strain_byte strain.Diamonds = refl
strain_byte strain.Clubs = refl
strain_byte strain.NoTrump = refl

pub suit_byte : (which : Suit) → encode_utf8 (suit_letter which) ≡ suit_letter which ∷ []
unfolding lib.Utf8.encode
suit_byte suit.Spades = refl
suit_byte suit.Hearts = refl
suit_byte suit.Diamonds = refl
suit_byte suit.Clubs = refl

pub place_byte : (which : Place) → encode_utf8 (place_letter which) ≡ place_letter which ∷ []
unfolding lib.Utf8.encode
place_byte place.North = refl
place_byte place.East = refl
place_byte place.South = refl
place_byte place.West = refl
