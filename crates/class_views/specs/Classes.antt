-- Whom the policy treats alike: users of one class, which follows from their roles and their seat alone, are shown the
-- hands of the same boards.
--
-- own: the classes are this project's, and follow from its policy.
use Rattle.std.specs.Prelude.{
  ◌≡◌,
  ℕ,
  Bool,
  true,
  false,
  not,
  ◌&&◌,
  nat_le,
  is_none,
  if◌then◌else◌,
  Option,
  Some,
  None,
  [],
  ◌∷◌,
}
use Rattle.table_terms.specs.declared.pair.Pair.{Pair}
use Rattle.table_terms.specs.declared.place.Place.TheVariants.{North}
use Rattle.session_roles.specs.declared.role.Role.TheVariants.{Member, Spectator, Contestant, Director}
use Rattle.session_roles.specs.declared.role.Role.TheVariants.{Commentator}
use Rattle.movement.specs.declared.cell.Cell.{Cell}
use Rattle.movement.specs.Movement.{most_tables}
use Rattle.disclosure_rules.specs.Fact.{cell_of_fact, is_analysed}
use Rattle.disclosure_rules.specs.Seating.{is_seated_at}
use Rattle.disclosure_rules.specs.declared.fact.Fact.{Fact}
use Rattle.disclosure_rules.specs.declared.fact.Fact.TheVariants.{Hands}
use Rattle.disclosure_rules.specs.declared.public.Public.{Public}
use Rattle.disclosure_rules.specs.declared.seat.Seat.{Seat}
use Rattle.disclosure_rules.specs.declared.viewer.Viewer.{Viewer}
use Rattle.disclosure_rules.specs.Policy.{is_authorized, is_contestant, is_embargoed, comments, first_rule}
use Rattle.class_views.specs.declared.user_class.UserClass.{UserClass}
use Rattle.class_views.specs.declared.user_class.UserClass.TheVariants.{OfPair, Unseated, Spectators, Directors}
use Rattle.class_views.specs.declared.user_class.UserClass.TheVariants.{Commentators}

-- one user of each class
abbrev pub member_of : UserClass → Viewer
member_of (OfPair pair) =
    record { roles = Some (Member ∷ Contestant ∷ []); seat = Some (record { pair = pair; place = North }) }
member_of Unseated = record { roles = Some (Member ∷ Contestant ∷ []); seat = None }
member_of Spectators = record { roles = Some (Member ∷ Spectator ∷ []); seat = None }
member_of Directors = record { roles = Some (Member ∷ Director ∷ []); seat = None }
member_of Commentators = record { roles = Some (Member ∷ Spectator ∷ Commentator ∷ []); seat = None }

-- whether a section can have the pair
abbrev pub is_kept_pair : Pair → Bool
is_kept_pair pair = nat_le 1 pair.number && nat_le pair.number most_tables

-- whether it is one of the classes that there can be
abbrev pub is_kept_class : UserClass → Bool
is_kept_class (OfPair pair) = is_kept_pair pair
is_kept_class Unseated = true
is_kept_class Spectators = true
is_kept_class Directors = true
is_kept_class Commentators = true

-- the class of contestants with this seat, if they sit
abbrev pub class_of_seat : Option Seat → UserClass
class_of_seat None = Unseated
class_of_seat (Some seat) = if is_kept_pair seat.pair then OfPair seat.pair else Unseated

-- the class of a spectator who is neither a director nor a contestant
abbrev pub class_of_spectator : Viewer → UserClass
class_of_spectator viewer = if is_authorized viewer.roles Commentator then Commentators else Spectators

-- the class of a user; a user in none is shown nothing that belongs to a board
abbrev pub class_of : Viewer → Option UserClass
class_of viewer =
    if not (is_authorized viewer.roles Member) then None
    else if is_authorized viewer.roles Director then Some Directors
    else if is_contestant viewer then Some (class_of_seat viewer.seat)
    else if is_authorized viewer.roles Spectator then Some (class_of_spectator viewer)
    else None

-- whether a user is shown the hands of a board
abbrev pub sees_board : Public → Viewer → ℕ → Bool
sees_board public viewer board = is_none (first_rule public viewer (Hands board))

-- whether the users of a class are, if it is one
abbrev pub class_sees : Public → Option UserClass → ℕ → Bool
class_sees public None board = false
class_sees public (Some class) board = sees_board public (member_of class) board

-- the public facts as they would be without an embargo
abbrev pub without_embargo : Public → Public
without_embargo public = record public { embargo = false }

-- whether the users of a class may be shown boards at all: under an embargo directors alone may
abbrev pub is_shown_boards : Public → UserClass → Bool
is_shown_boards public (OfPair pair) = not (is_embargoed public)
is_shown_boards public Unseated = not (is_embargoed public)
is_shown_boards public Spectators = not (is_embargoed public)
is_shown_boards public Directors = true
is_shown_boards public Commentators = not (is_embargoed public)

-- where a fact tells of the double-dummy value of the hands, both contestants comment or neither does
abbrev pub CommentAlike : Public → Viewer → Viewer → Fact → Type 0
CommentAlike public one other asked =
    is_contestant one ≡ true → is_analysed asked ≡ true → comments public one ≡ comments public other

-- where a fact belongs to a table on a board, both users sit there or neither does
abbrev pub IsSeatedAlike : Public → Viewer → Viewer → Fact → Type 0
IsSeatedAlike public one other asked =
    (cell : Cell) → cell_of_fact asked ≡ Some cell → is_seated_at public one cell ≡ is_seated_at public other cell
