-- A letter names the place or the strain that is written so.
use Rattle.std.proofs.Common.{
  ◌≡◌,
  ◌≢◌,
  ℕ,
  List,
  [],
  ◌∷◌,
  ◌==◌,
  length,
  get_or,
  cond,
  Bool,
  true,
  false,
  Option,
  Some,
  None,
  IfSome,
  IfNone,
  refl,
  sym,
  ap,
  subst,
  ◌∙◌,
  arith,
}
use Rattle.std.specs.List.{find}
use Rattle.table_terms.specs.declared.place.Place.{Place}
use Rattle.table_terms.specs.declared.place.Place.TheVariants.{North, East, South, West}
use Rattle.table_terms.specs.declared.strain.Strain.{Strain}
use Rattle.table_terms.specs.declared.strain.Strain.TheVariants as strain
use Rattle.table_terms.specs.Place.{place_letter}
use Rattle.table_terms.specs.Strain.{strain_letter}
use Rattle.std.proofs.lemmas.Option.{same_Some}
use Rattle.json_fields.specs.Letter.{place_named, strain_named}

unequal : (m n : ℕ) → m ≢ n → (m == n) ≡ false
unequal m n h = grind arith

pub find_nothing : {A : Type 0} (p : A → Bool) (xs : List A) → ((x : A) → p x ≡ false) → find p xs ≡ None
find_nothing p [] h = refl
find_nothing p (x ∷ xs) h = rw (h x) (find_nothing p xs h)

pub place_found : (place : Place) → Some place ≡ place_named (place_letter place ∷ [])
place_found North = refl
place_found East = refl
place_found South = refl
place_found West = refl

pub place_of_letter : (text : List ℕ) (read : Option Place) → length text ≡ 1
    → IfSome read (λ place. place_letter place ≡ get_or text 0 0)
    → IfNone read ((place : Place) → place_letter place ≢ get_or text 0 0)
    → read ≡ place_named text
place_of_letter [] read len found none = absurd (omega arith)
place_of_letter (letter ∷ []) (Some place) len found none =
    subst (λ n. Some place ≡ place_named (n ∷ [])) found (place_found place)
place_of_letter (letter ∷ []) None len found none =
    sym (find_nothing _ (North ∷ East ∷ South ∷ West ∷ []) (λ place. unequal (place_letter place) letter (none place)))
place_of_letter (letter ∷ other ∷ rest) read len found none = absurd (omega arith)

pub strain_found : (x : Strain) → Some x ≡ strain_named (strain_letter x ∷ [])
strain_found strain.Spades = refl
strain_found strain.Hearts = refl
strain_found strain.Diamonds = refl
strain_found strain.Clubs = refl
strain_found strain.NoTrump = refl

pub strain_of_letter : (text : List ℕ) (read : Option Strain) → length text ≡ 1
    → IfSome read (λ x. strain_letter x ≡ get_or text 0 0)
    → IfNone read ((x : Strain) → strain_letter x ≢ get_or text 0 0)
    → read ≡ strain_named text
strain_of_letter [] read len found none = absurd (omega arith)
strain_of_letter (letter ∷ []) (Some x) len found none =
    subst (λ n. Some x ≡ strain_named (n ∷ [])) found (strain_found x)
strain_of_letter (letter ∷ []) None len found none =
    sym (find_nothing _ (strain.Spades ∷ strain.Hearts ∷ strain.Diamonds ∷ strain.Clubs ∷ strain.NoTrump ∷ [])
    (λ x. unequal (strain_letter x) letter (none x)))
strain_of_letter (letter ∷ other ∷ rest) read len found none = absurd (omega arith)

-- what is found passes the test
found_step : {A : Type 0} (p : A → Bool) (x found : A) (rest : Option A) (b : Bool) → p x ≡ b
    → cond b (Some x) rest ≡ Some found → (rest ≡ Some found → p found ≡ true) → p found ≡ true
found_step p x found rest true is h later = ap p (sym (same_Some x found h)) ∙ is
found_step p x found rest false is h later = later h

pub found_passes : {A : Type 0} (p : A → Bool) (xs : List A) (found : A) → find p xs ≡ Some found → p found ≡ true
found_passes p [] found h = absurd (cc)
found_passes p (x ∷ xs) found h = found_step p x found (find p xs) (p x) refl h (found_passes p xs found)

equal : (m n : ℕ) → (m == n) ≡ true → m ≡ n
equal m n h = grind arith

pub place_reads : (text : List ℕ) (place : Place) → place_named text ≡ Some place → text ≡ place_letter place ∷ []
place_reads [] place h = absurd (cc)
place_reads (letter ∷ []) place h =
    ap (λ n. n ∷ [])
    (sym (equal (place_letter place) letter (found_passes (λ x. place_letter x == letter)
    (North ∷ East ∷ South ∷ West ∷ []) place h)))
place_reads (letter ∷ other ∷ rest) place h = absurd (cc)

pub strain_reads : (text : List ℕ) (x : Strain) → strain_named text ≡ Some x → text ≡ strain_letter x ∷ []
strain_reads [] x h = absurd (cc)
strain_reads (letter ∷ []) x h =
    ap (λ n. n ∷ [])
    (sym (equal (strain_letter x) letter (found_passes (λ y. strain_letter y == letter)
    (strain.Spades ∷ strain.Hearts ∷ strain.Diamonds ∷ strain.Clubs ∷ strain.NoTrump ∷ []) x h)))
strain_reads (letter ∷ other ∷ rest) x h = absurd (cc)
