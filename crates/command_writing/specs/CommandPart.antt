-- The members of a command, by their kinds: what stands in a member, what it is called, what is written of it, and which
-- values there are.
use Rattle.std.specs.Prelude.{◌≡◌, ◌<◌, ℕ, true, List, [], ◌∷◌, codes}
use Rattle.hex.specs.Hex.{encode_lower}
use Rattle.serde_json.specs.Data.{Data, string, Members, put}
use Rattle.user_names.specs.ShownName.{is_shown_or_none}
use Rattle.table_terms.specs.Pair.{pair_text}
use Rattle.table_terms.specs.Place.{place_letter}
use Rattle.cards.specs.Hands.{IsDeal}
use Rattle.cards.specs.HandText.{deal_text}
use Rattle.session_roles.specs.declared.edition.Edition.TheVariants.{Second}
use Rattle.session_roles.specs.Role.{role_name}
use Rattle.solver_results.specs.PlayAnswer.{answer_for_play}
use Rattle.json_fields.specs.Message.{table, board}
use Rattle.json_fields.specs.User.{user_name, new_shown, digest, pair, place}
use Rattle.command_object.specs.Command.{north_south, east_west, reason, role, senior, junior}
use Rattle.command_object.specs.Result.{outcome}
use Rattle.command_object.specs.Play.{play}
use Rattle.command_writing.specs.NumberData.{written_number}
use Rattle.command_writing.specs.ResultData.{written_outcome, written_play}
use Rattle.command_writing.specs.FoundData.{written_tricks, written_answer, contract_data}
use Rattle.command_writing.specs.Values.{IsName, IsWritableDigest, IsContract, IsWritableOutcome, IsWritablePlay}

-- the kinds of members, in the order in which the commands have them; the last four are the solver's alone
pub data Kind : Type 0 where
  Table : Kind
  Board : Kind
  Result : Kind
  Play : Kind
  NorthSouth : Kind
  EastWest : Kind
  Reason : Kind
  Name : Kind
  Pair : Kind
  Place : Kind
  Digest : Kind
  Role : Kind
  Senior : Kind
  Junior : Kind
  Shown : Kind
  Deal : Kind
  Tricks : Kind
  Contract : Kind
  Costs : Kind

-- what is known of a kind: the values that stand in such a member, its name, what is written of a value, and which
-- values there are
pub record WrittenKind : Type 1 where
  pub Value : Type 0
  pub name : List ℕ
  pub write : Value → Data
  pub Is : Value → Type 0

-- every value there is
abbrev pub IsAny : {A : Type 0} → A → Type 0
IsAny x = Unit {0}

-- a kind of this name, of which this is written
abbrev pub written_as : {A : Type 0} → List ℕ → (A → Data) → (A → Type 0) → WrittenKind
written_as {A} name write Is = record { Value = A; name = name; write = write; Is = Is }

-- a member of this name in which a small number stands
abbrev pub written_small : List ℕ → WrittenKind
written_small name = written_as name written_number (λ number. number < 256)

-- a member of this name in which a role stands
abbrev pub written_role : List ℕ → WrittenKind
written_role name = written_as name (λ x. string (role_name x)) IsAny

-- each kind
abbrev pub written_kind : Kind → WrittenKind
written_kind Table = written_small table.name
written_kind Board = written_small board.name
written_kind Result = written_as outcome.name written_outcome IsWritableOutcome
written_kind Play = written_as play.name written_play IsWritablePlay
written_kind NorthSouth = written_small north_south.name
written_kind EastWest = written_small east_west.name
written_kind Reason = written_small reason.name
written_kind Name = written_as user_name.name string IsName
written_kind Pair = written_as pair.name (λ its. string (pair_text its)) (λ its. its.number < 256)
written_kind Place = written_as place.name (λ its. string (place_letter its ∷ [])) IsAny
written_kind Digest = written_as digest.name (λ its. string (encode_lower its.bytes)) IsWritableDigest
written_kind Role = written_role (role Second).name
written_kind Senior = written_role (senior Second).name
written_kind Junior = written_role (junior Second).name
written_kind Shown = written_as new_shown.name string (λ shown. is_shown_or_none shown ≡ true)
written_kind Deal = written_as (codes "deal") (λ deal. string (deal_text deal)) IsDeal
written_kind Tricks = written_as (codes "tricks") written_tricks IsAny
written_kind Contract = written_as (codes "contract") contract_data IsContract
written_kind Costs = written_as (codes "costs") (λ played. written_answer (answer_for_play played)) IsAny

-- a member with what stands in it
pub record CommandPart : Type 0 where
  pub kind : Kind
  pub value : (written_kind kind).Value

-- a member of this kind says this, as in `Board says 3`
infix 80 ◌says◌
abbrev pub ◌says◌ : (kind : Kind) → (written_kind kind).Value → CommandPart
kind says value = record { kind = kind; value = value }

-- its name
abbrev pub part_name : CommandPart → List ℕ
part_name part = (written_kind part.kind).name

-- what is written of it
abbrev pub part_data : CommandPart → Data
part_data part = (written_kind part.kind).write part.value

-- its value is one that there is
abbrev pub IsThere : CommandPart → Type 0
IsThere part = (written_kind part.kind).Is part.value

-- and so of each of these
abbrev pub AreThere : List CommandPart → Type 0
AreThere [] = Unit {0}
AreThere (part ∷ parts) = IsThere part × AreThere parts

-- members with these put among them, in the order of their names
abbrev pub with_parts : List CommandPart → Members → Members
with_parts [] members = members
with_parts (part ∷ parts) members = put (part_name part) (part_data part) (with_parts parts members)
