-- The law's table, read at each of its sixteen boards.
use Rattle.std.proofs.Common.{◌≡◌, ℕ, ◌+◌, ◌-◌, ◌%◌, Bool, true, false, refl, sym, ◌∙◌, arith}
use Rattle.std.specs.Prelude.{nat_eq, not, ◌&&◌, ◌||◌, List, Contains}
use Rattle.std.specs.List.{list_any}
use Rattle.std.proofs.lemmas.Bool.{
  eqb-true,
  eq-eqb,
  agree_below,
  agree_below_at,
  false≢true,
  true≢false,
  and_from,
  not-true,
}
use Rattle.std.proofs.Math.Nat.{mod-lt}
use Rattle.std.proofs.lemmas.Map.Views.{Contains-from_any, list_any-from_Contains}
use Rattle.std.specs.Cmp.{nat_eq_equiv}
use Rattle.table_terms.specs.declared.place.Place.{Place}
use Rattle.table_terms.specs.declared.place.Place.TheVariants.{North, East, South, West}
use Rattle.table_terms.specs.declared.vulnerability.Vulnerability.{Vulnerability}
use Rattle.table_terms.specs.declared.vulnerability.Vulnerability.TheVariants.{Neither, NorthSouth, EastWest, Both}
use Rattle.table_terms.specs.Law2.{first_like, dealt_by, marked, IsDealer, IsMarked}

-- the boards whose turn is m, and no others, are in the list: a test at each of sixteen
abbrev pub turns_to : (turn : ℕ → ℕ) → List ℕ → ℕ → ℕ → Bool
turns_to turn boards m place = not (nat_eq (turn place) m) || list_any (nat_eq (place + 1)) boards

implied : (a b : Bool) → (not a || b) ≡ true → a ≡ true → b ≡ true
implied true b h e = h
implied false b h e = absurd (false≢true e)

pub in_list : (turn : ℕ → ℕ) (boards : List ℕ) (m : ℕ) → agree_below (turns_to turn boards m) (λ _. true) 16 ≡ true →
    (board : ℕ) → turn ((board - 1) % 16) ≡ m → Contains boards (first_like board)
in_list turn boards m table board is_m =
    let place = (board - 1) % 16 in
    let test = agree_below_at (turns_to turn boards m) (λ _. true) 16 place table (mod-lt (board - 1) (omega arith)) in
    Contains-from_any (λ x y. eqb-true x y) (place + 1) boards (implied _ _ test (eq-eqb _ _ is_m))

-- two lists without a common board among the first sixteen have none at all
apart : (xs ys : List ℕ) →
    agree_below (λ place. not (list_any (nat_eq (place + 1)) xs && list_any (nat_eq (place + 1)) ys)) (λ _. true) 16 ≡
    true → (board : ℕ) → Contains xs (first_like board) → Contains ys (first_like board) → ⊥
apart xs ys table board in_xs in_ys =
    let place = (board - 1) % 16 in
    let test = agree_below_at (λ place. not (list_any (nat_eq (place + 1)) xs && list_any (nat_eq (place + 1)) ys))
    (λ _. true) 16 place table (mod-lt (board - 1) (omega arith)) in
    true≢false (sym (and_from _ _ (list_any-from_Contains nat_eq_equiv (place + 1) xs in_xs)
    (list_any-from_Contains nat_eq_equiv (place + 1) ys in_ys)) ∙ not-true _ test)

-- a board has one dealer
pub one_dealer : (board : ℕ) (place other : Place) → IsDealer board place → IsDealer board other → place ≡ other
one_dealer board North North deals also = refl
one_dealer board North East deals also = absurd (apart (dealt_by North) (dealt_by East) refl board deals also)
one_dealer board North South deals also = absurd (apart (dealt_by North) (dealt_by South) refl board deals also)
one_dealer board North West deals also = absurd (apart (dealt_by North) (dealt_by West) refl board deals also)
one_dealer board East North deals also = absurd (apart (dealt_by East) (dealt_by North) refl board deals also)
one_dealer board East East deals also = refl
one_dealer board East South deals also = absurd (apart (dealt_by East) (dealt_by South) refl board deals also)
one_dealer board East West deals also = absurd (apart (dealt_by East) (dealt_by West) refl board deals also)
one_dealer board South North deals also = absurd (apart (dealt_by South) (dealt_by North) refl board deals also)
one_dealer board South East deals also = absurd (apart (dealt_by South) (dealt_by East) refl board deals also)
one_dealer board South South deals also = refl
one_dealer board South West deals also = absurd (apart (dealt_by South) (dealt_by West) refl board deals also)
one_dealer board West North deals also = absurd (apart (dealt_by West) (dealt_by North) refl board deals also)
one_dealer board West East deals also = absurd (apart (dealt_by West) (dealt_by East) refl board deals also)
one_dealer board West South deals also = absurd (apart (dealt_by West) (dealt_by South) refl board deals also)
one_dealer board West West deals also = refl

-- a board has one marking
pub one_marking : (board : ℕ) (vulnerability other : Vulnerability) → IsMarked board vulnerability →
    IsMarked board other → vulnerability ≡ other
one_marking board Neither Neither has also = refl
one_marking board Neither NorthSouth has also = absurd (apart (marked Neither) (marked NorthSouth) refl board has also)
one_marking board Neither EastWest has also = absurd (apart (marked Neither) (marked EastWest) refl board has also)
one_marking board Neither Both has also = absurd (apart (marked Neither) (marked Both) refl board has also)
one_marking board NorthSouth Neither has also = absurd (apart (marked NorthSouth) (marked Neither) refl board has also)
one_marking board NorthSouth NorthSouth has also = refl
one_marking board NorthSouth EastWest has also = absurd (apart (marked NorthSouth) (marked EastWest) refl board has
    also)
one_marking board NorthSouth Both has also = absurd (apart (marked NorthSouth) (marked Both) refl board has also)
one_marking board EastWest Neither has also = absurd (apart (marked EastWest) (marked Neither) refl board has also)
one_marking board EastWest NorthSouth has also = absurd (apart (marked EastWest) (marked NorthSouth) refl board has
    also)
one_marking board EastWest EastWest has also = refl
one_marking board EastWest Both has also = absurd (apart (marked EastWest) (marked Both) refl board has also)
one_marking board Both Neither has also = absurd (apart (marked Both) (marked Neither) refl board has also)
one_marking board Both NorthSouth has also = absurd (apart (marked Both) (marked NorthSouth) refl board has also)
one_marking board Both EastWest has also = absurd (apart (marked Both) (marked EastWest) refl board has also)
one_marking board Both Both has also = refl
