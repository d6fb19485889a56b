-- What is written of a session nests four deep at most, and has no number with a point.
use Rattle.std.proofs.Common.{◌≡◌, ◌≤◌, ℕ, false, List, [], ◌∷◌, map, Option, Some, None, option_map, refl, arith}
use Rattle.serde_json.specs.Data.{Data, string, depth, items_depth}
use Rattle.serde_json.specs.View.{items_of}
use Rattle.serde_json.specs.Written.{has_float, items_have_float}
use Rattle.table_terms.specs.declared.pair.Pair.{Pair}
use Rattle.movement.specs.declared.row.Row.{Row}
use Rattle.disclosure_rules.specs.declared.seat.Seat.{Seat}
use Rattle.session_roles.specs.declared.role.Role.{Role}
use Rattle.session_opening.specs.declared.new_user.NewUser.{NewUser}
use Rattle.session_object.specs.declared.asked_movement.AskedMovement.{AskedMovement}
use Rattle.session_object.specs.declared.asked_movement.AskedMovement.TheVariants.{Nothing, Word, Rows}
use Rattle.session_object.specs.Session.{Session}
use Rattle.session_text.specs.SessionData.{
  text_data,
  shown_name_data,
  reasons_data,
  whole_data,
  pair_data,
  named_role,
  seat_pair,
  seat_place,
  user_members,
  user_data,
  row_data,
  asked_movement_data,
  session_members,
  session_data,
}
use Rattle.session_text.proofs.MembersLemmas.{IsShallow, object_shallow, IsWhole, object_whole}

-- ---- how deep it nests

list_shallow : {A : Type 0} (written : A → Data) (most : ℕ) → ((x : A) → depth (written x) ≤ most) → (xs : List A)
    → items_depth (items_of (map written xs)) ≤ most
list_shallow written most each [] = omega arith
list_shallow written most each (x ∷ xs) =
    let first = each x in let rest = list_shallow written most each xs in omega (arith, first, rest)

numbers_shallow : (most : ℕ) (o : Option ℕ) → IsShallow most (option_map whole_data o)
numbers_shallow most None = tt
numbers_shallow most (Some n) = omega arith

pairs_shallow : (most : ℕ) (o : Option Pair) → IsShallow most (option_map pair_data o)
pairs_shallow most None = tt
pairs_shallow most (Some pair) = omega arith

seats_shallow : (most : ℕ) (o : Option Seat) → IsShallow most (seat_pair o) × IsShallow most (seat_place o)
seats_shallow most None = (tt, tt)
seats_shallow most (Some seat) = (omega arith, omega arith)

texts_shallow : (most : ℕ) (o : Option (List ℕ)) → IsShallow most (text_data o)
texts_shallow most None = tt
texts_shallow most (Some bytes) = omega arith

shown_shallow : (most : ℕ) (bytes : List ℕ) → IsShallow most (shown_name_data bytes)
shown_shallow most [] = tt
shown_shallow most (byte ∷ bytes) = omega arith

user_shallow : (user : NewUser) → depth (user_data user) ≤ 2
user_shallow user =
    let roles = list_shallow named_role 0 (λ role. omega arith) user.roles in
    object_shallow 1 (user_members user)
    (omega arith, (omega arith, (texts_shallow 1 user.number, ((seats_shallow 1 user.seat).0, ((seats_shallow 1 user.seat).1, (omega (arith, roles), (shown_shallow 1 user.shown, tt)))))))

movement_shallow : (asked : AskedMovement) → IsShallow 3 (asked_movement_data asked)
movement_shallow Nothing = tt
movement_shallow (Word word) = omega arith
movement_shallow (Rows rows) =
    let few = list_shallow row_data 1 (λ row. omega arith) rows in omega (arith, few)

reasons_shallow : (reasons : List (List ℕ)) → IsShallow 3 (reasons_data reasons)
reasons_shallow [] = tt
reasons_shallow (reason ∷ reasons) =
    let few = list_shallow (λ bytes. string bytes) 0 (λ bytes. omega arith) (reason ∷ reasons) in omega (arith, few)

pub session_shallow : (session : Session) → depth (session_data session) ≤ 4
session_shallow session =
    let users = list_shallow user_data 2 user_shallow session.users in
    object_shallow 3 (session_members session)
    (pairs_shallow 3 session.absent, (omega arith, (texts_shallow 3 session.date, (omega arith, (movement_shallow session.movement, (omega arith, (reasons_shallow session.reasons, (omega arith, (numbers_shallow 3 session.shared_by, (numbers_shallow 3 session.switched, (omega arith, (texts_shallow 3 session.title, (omega (arith, users), tt)))))))))))))

-- ---- its numbers are whole

list_whole : {A : Type 0} (written : A → Data) → ((x : A) → has_float (written x) ≡ false) → (xs : List A)
    → items_have_float (items_of (map written xs)) ≡ false
list_whole written each [] = refl
list_whole written each (x ∷ xs) = rw (each x) (list_whole written each xs)

numbers_whole : (o : Option ℕ) → IsWhole (option_map whole_data o)
numbers_whole None = tt
numbers_whole (Some n) = refl

pairs_whole : (o : Option Pair) → IsWhole (option_map pair_data o)
pairs_whole None = tt
pairs_whole (Some pair) = refl

seats_whole : (o : Option Seat) → IsWhole (seat_pair o) × IsWhole (seat_place o)
seats_whole None = (tt, tt)
seats_whole (Some seat) = (refl, refl)

texts_whole : (o : Option (List ℕ)) → IsWhole (text_data o)
texts_whole None = tt
texts_whole (Some bytes) = refl

shown_whole : (bytes : List ℕ) → IsWhole (shown_name_data bytes)
shown_whole [] = tt
shown_whole (byte ∷ bytes) = refl

user_whole : (user : NewUser) → has_float (user_data user) ≡ false
user_whole user =
    object_whole (user_members user)
    (refl, (refl, (texts_whole user.number, ((seats_whole user.seat).0, ((seats_whole user.seat).1, (list_whole named_role (λ role. refl) user.roles, (shown_whole user.shown, tt)))))))

movement_whole : (asked : AskedMovement) → IsWhole (asked_movement_data asked)
movement_whole Nothing = tt
movement_whole (Word word) = refl
movement_whole (Rows rows) = list_whole row_data (λ row. refl) rows

reasons_whole : (reasons : List (List ℕ)) → IsWhole (reasons_data reasons)
reasons_whole [] = tt
reasons_whole (reason ∷ reasons) = list_whole (λ bytes. string bytes) (λ bytes. refl) (reason ∷ reasons)

pub session_whole : (session : Session) → has_float (session_data session) ≡ false
session_whole session =
    object_whole (session_members session)
    (pairs_whole session.absent, (refl, (texts_whole session.date, (refl, (movement_whole session.movement, (refl, (reasons_whole session.reasons, (refl, (numbers_whole session.shared_by, (numbers_whole session.switched, (refl, (texts_whole session.title, (list_whole user_data user_whole session.users, tt)))))))))))))
