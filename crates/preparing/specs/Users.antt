-- The users of a session that is prepared, who are its people.
use Rattle.std.specs.Prelude.{
  ◌≡◌,
  ◌&&◌,
  nat_eq,
  List,
  [],
  ◌∷◌,
  length,
  Option,
  is_some,
  IfSome,
  if◌then◌else◌,
  string_bytes,
}
use Rattle.sha2.specs.Sha256.{sha256}
use Rattle.session_roles.specs.declared.role.Role.{Role}
use Rattle.session_roles.specs.declared.role.Role.TheVariants.{Contestant}
use Rattle.disclosure_rules.specs.declared.seat.Seat.{Seat}
use Rattle.session_opening.specs.declared.new_user.NewUser.{NewUser}
use Rattle.people_list.specs.declared.person.Person.{Person}
use Rattle.sign_ins.specs.declared.sign_in_token.SignInToken.{SignInToken}

-- the roles of somebody for whom these are named: who sits somewhere, and has none, is a contestant
abbrev pub roles_given : List Role → Option Seat → List Role
roles_given named seat = if nat_eq (length named) 0 && is_some seat then Contestant ∷ [] else named

-- the user is this person: signs in by the name that the person wants, where one is wanted, and by this token; has the
-- person's roles, sits where the person does, is shown as the list has it, and has the person's number
pub record IsUserOf (person : Person) (token : SignInToken) (user : NewUser) : Type 0 where
  pub name : IfSome person.sign_in (λ wanted. user.name ≡ wanted)
  pub digest : user.digest.bytes ≡ sha256 (string_bytes token.text)
  pub roles : user.roles ≡ roles_given person.roles person.seat
  pub seat : user.seat ≡ person.seat
  pub shown : user.shown ≡ person.shown
  pub number : user.number ≡ person.number

-- each person is the user in the same place, by the token there: there is one user a person, and no other
abbrev pub AreUsersOf : List Person → List SignInToken → List NewUser → Type 0
AreUsersOf [] tokens [] = Unit {0}
AreUsersOf [] tokens (user ∷ users) = ⊥
AreUsersOf (person ∷ people) [] users = ⊥
AreUsersOf (person ∷ people) (token ∷ tokens) [] = ⊥
AreUsersOf (person ∷ people) (token ∷ tokens) (user ∷ users) =
    IsUserOf person token user × AreUsersOf people tokens users
