-- The session object that says a session whose boards are given beside it: its members, each by its name.
use Rattle.std.specs.Prelude.{ℕ, List, [], ◌∷◌, map, codes, Option, Some, None, option_map}
use Rattle.hex.specs.Hex.{encode_lower}
use Rattle.serde_json.specs.Data.{Data, string, array, number, unsigned, Items, no_items, item}
use Rattle.serde_json.specs.View.{items_of}
use Rattle.serde_json.specs.Written.{compact_text}
use Rattle.table_terms.specs.declared.pair.Pair.{Pair}
use Rattle.table_terms.specs.Pair.{pair_text}
use Rattle.table_terms.specs.Place.{place_letter}
use Rattle.movement.specs.declared.row.Row.{Row}
use Rattle.named_movements.specs.Words.{text_of_word}
use Rattle.session_roles.specs.Edition.{edition_number}
use Rattle.session_roles.specs.declared.role.Role.{Role}
use Rattle.session_roles.specs.Role.{role_name}
use Rattle.disclosure_rules.specs.declared.seat.Seat.{Seat}
use Rattle.session_opening.specs.declared.new_user.NewUser.{NewUser}
use Rattle.session_object.specs.declared.asked_movement.AskedMovement.{AskedMovement}
use Rattle.session_object.specs.declared.asked_movement.AskedMovement.TheVariants.{Nothing, Word, Rows}
use Rattle.session_object.specs.Session.{Session}
use Rattle.session_text.specs.Members.{object_with}

-- a whole number
abbrev pub whole_data : ℕ → Data
whole_data n = number (unsigned n)

-- a pair, by its text
abbrev pub pair_data : Pair → Data
pair_data pair = string (pair_text pair)

-- a text, where there is one
abbrev pub text_data : Option (List ℕ) → Option Data
text_data text = option_map (λ bytes. string bytes) text

-- a text that isn't empty
abbrev pub shown_name_data : List ℕ → Option Data
shown_name_data [] = None
shown_name_data (byte ∷ bytes) = Some (string (byte ∷ bytes))

-- ---- users

-- a role, by its name
abbrev pub named_role : Role → Data
named_role role = string (role_name role)

-- roles, one after another
abbrev pub roles_data : List Role → Data
roles_data roles = array (items_of (map named_role roles))

-- the pair in which a user sits, and the place there
abbrev pub seat_pair : Option Seat → Option Data
seat_pair seat = option_map (λ s. pair_data s.pair) seat

abbrev pub seat_place : Option Seat → Option Data
seat_place seat = option_map (λ s. string (place_letter s.place ∷ [])) seat

-- the members of a user
abbrev pub user_members : NewUser → List (List ℕ × Option Data)
user_members user =
    (codes "digest", Some (string (encode_lower user.digest.bytes)))
    ∷ (codes "name", Some (string user.name))
    ∷ (codes "number", text_data user.number)
    ∷ (codes "pair", seat_pair user.seat)
    ∷ (codes "place", seat_place user.seat)
    ∷ (codes "roles", Some (roles_data user.roles))
    ∷ (codes "shown", shown_name_data user.shown)
    ∷ []

-- a user
abbrev pub user_data : NewUser → Data
user_data user = object_with (user_members user)

-- ---- the movement

-- a row of a list: its round, its table and its set, and the pairs that sit North-South and East-West
abbrev pub row_data : Row → Data
row_data row =
    array (item (whole_data row.round) (item (whole_data row.table) (item (whole_data row.set)
    (item (pair_data row.north_south) (item (pair_data row.east_west) no_items)))))

-- the movement that is asked for: nothing, a word, or a list of rows
abbrev pub asked_movement_data : AskedMovement → Option Data
asked_movement_data Nothing = None
asked_movement_data (Word word) = Some (string (text_of_word word))
asked_movement_data (Rows rows) = Some (array (items_of (map row_data rows)))

-- ---- sessions

-- what the reasons of rulings mean, where something does
abbrev pub reasons_data : List (List ℕ) → Option Data
reasons_data [] = None
reasons_data (reason ∷ reasons) = Some (array (items_of (map (λ bytes. string bytes) (reason ∷ reasons))))

-- the members of a session
abbrev pub session_members : Session → List (List ℕ × Option Data)
session_members session =
    (codes "absent", option_map pair_data session.absent)
    ∷ (codes "budget", Some (whole_data session.budget))
    ∷ (codes "date", text_data session.date)
    ∷ (codes "edition", Some (whole_data (edition_number session.edition)))
    ∷ (codes "movement", asked_movement_data session.movement)
    ∷ (codes "per_set", Some (whole_data session.per_set))
    ∷ (codes "reasons", reasons_data session.reasons)
    ∷ (codes "rounds", Some (whole_data session.rounds))
    ∷ (codes "shared_by", option_map whole_data session.shared_by)
    ∷ (codes "switched", option_map whole_data session.switched)
    ∷ (codes "tables", Some (whole_data session.tables))
    ∷ (codes "title", text_data session.title)
    ∷ (codes "users", Some (array (items_of (map user_data session.users))))
    ∷ []

-- the object of a session
abbrev pub session_data : Session → Data
session_data session = object_with (session_members session)

-- its text, without spaces
abbrev pub text_of_session : Session → List ℕ
text_of_session session = compact_text (session_data session)
