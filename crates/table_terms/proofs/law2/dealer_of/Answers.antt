use Rattle.std.proofs.Common.{◌≡◌, ℕ, ◌%◌, refl, arith}
use Rattle.table_terms.specs.Law2.{dealt_by}
use Rattle.table_terms.specs.declared.place.Place.TheVariants.{North, East, South, West}
use Rattle.table_terms.proofs.Law2Lemmas.{in_list}
use Rattle.table_terms.proofs.law2.dealer_of.Goals as goal

-- the turn of a board is that of its like among the first sixteen
turn : (n m : ℕ) → n % 4 ≡ m → n % 16 % 4 ≡ m
turn n m is = omega arith

pub returns-in-0 : goal.returns-in-0
returns-in-0 c = in_list (λ n. n % 4) (dealt_by North) 0 refl c.args.board (turn _ _ c.in-0.is)

pub returns-in-1 : goal.returns-in-1
returns-in-1 c = in_list (λ n. n % 4) (dealt_by East) 1 refl c.args.board (turn _ _ c.in-1.is)

pub returns-in-2 : goal.returns-in-2
returns-in-2 c = in_list (λ n. n % 4) (dealt_by South) 2 refl c.args.board (turn _ _ c.in-2.is)

pub returns-in_default : goal.returns-in_default
returns-in_default c = in_list (λ n. n % 4) (dealt_by West) 3 refl c.args.board (turn _ _ (omega arith))
