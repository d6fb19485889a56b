-- A session of people can be said by an object.
use Rattle.std.proofs.Common.{Bor, ◌≡◌, true, refl, List, [], ◌∷◌, ℕ, Option, Some, None, IfSome, option_map, All, arith}
use Rattle.std.proofs.lemmas.List.Elements.{All-nil, All-cons, All-head, All-tail}
use Rattle.session_roles.specs.declared.role.Role.{Role}
use Rattle.session_roles.specs.declared.role.Role.TheVariants.{Member, Spectator, Contestant, Scorer, Director, Administrator, Commentator}
use Rattle.session_roles.specs.declared.edition.Edition.TheVariants.{Second}
use Rattle.session_roles.specs.Role.{is_role_of}
use Rattle.session_opening.specs.declared.new_user.NewUser.{NewUser}
use Rattle.named_movements.specs.declared.movement_word.MovementWord.{MovementWord}
use Rattle.session_text.specs.Writable.{IsShownOrNone, IsWritableMovement, IsWritableUser}
use Rattle.preparing.specs.declared.guest.Guest.{Guest}
use Rattle.preparing.specs.declared.plan.Plan.{Plan}
use Rattle.preparing.specs.Guests.{AreSmall, AreUsersOfGuests, HasShortNotices, IsSeated, IsWritableWhereSaid}
use Rattle.preparing.specs.Planned.{movement_planned}
use Rattle.user_names.specs.ShownName.{is_shown_or_none}

-- the second edition has each role
pub has_role : (role : Role) → is_role_of Second role ≡ true
has_role Member = refl
has_role Spectator = refl
has_role Contestant = refl
has_role Scorer = refl
has_role Director = refl
has_role Administrator = refl
has_role Commentator = refl

pub has_roles : (roles : List Role) → All (λ (role : Role). is_role_of Second role ≡ true) roles
has_roles roles = λ k d below. has_role _

-- a text that may be shown or is none is so by the other name
pub shown_or_none : (text : List ℕ) → is_shown_or_none text ≡ true → IsShownOrNone text
unfolding is_shown_or_none
shown_or_none [] is = tt
shown_or_none (byte ∷ bytes) is = is

-- the users of guests who are seated
users_writable : (guests : List Guest) (users : List NewUser) → AreUsersOfGuests guests users → All IsSeated guests
    → All (IsWritableUser Second) users
users_writable [] [] are seated = All-nil (IsWritableUser Second)
users_writable [] (u ∷ users) are seated = absurd are
users_writable (g ∷ guests) [] are seated = absurd are
users_writable (g ∷ guests) (u ∷ users) are seated =
    All-cons (IsWritableUser Second) u users (are.0.writable (All-head IsSeated g guests seated))
    (users_writable guests users are.1 (All-tail IsSeated g guests seated))

-- the movement of a plan has no rows
movement_writable : (word : Option MovementWord) → IsWritableMovement (movement_planned word)
movement_writable None = tt
movement_writable (Some word) = tt

-- what holds of a text holds where it is a list of bytes
of_bytes : (text : Option (Bor (List ℕ))) (P : List ℕ → Type 0) → IfSome text (λ t. P t.now) → IfSome (option_map (λ t. t.now) text) P
of_bytes None P is = tt
of_bytes (Some text) P is = is

-- a plan's session with the users of its guests
pub session_writable : (plan : Plan) (guests : List Guest) (users : List NewUser) → HasShortNotices plan
    → AreUsersOfGuests guests users → AreSmall plan → IsWritableWhereSaid plan guests users
session_writable plan guests users short are small said boards = record {
  absent = said.absent;
  budget = said.budget;
  date = of_bytes plan.date _ short.is_date;
  movement = movement_writable plan.movement;
  per_set = small.per_set;
  reasons = All-nil _;
  few_reasons = omega arith;
  rounds = small.rounds;
  shared_by = tt;
  switched = small.switched;
  tables = small.tables;
  title = of_bytes plan.title _ short.is_title;
  users = users_writable guests users are said.seats;
  together = said.together;
}
