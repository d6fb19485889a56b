-- Where a message comes from, and whose it is: in a script the member `as` says the user; a connection knows its user,
-- and nothing may say one.
use Rattle.std.specs.Prelude.{◌≡◌, ℕ, List, Option, Some, None, option_map}
use Rattle.serde_json.specs.Data.{Data}
use Rattle.json_fields.specs.Form.{Member}
use Rattle.json_fields.specs.Message.{user}
use Rattle.wire.specs.declared.source.Source.{Source}
use Rattle.wire.specs.declared.source.Source.TheVariants.{Script, Connection}

-- the user that is said, which on a connection is none
abbrev pub said_in : Source → Option Data → Option (Option (List ℕ))
said_in Script o = option_map Some (user.value o)
said_in Connection None = Some None
said_in Connection (Some d) = None

-- what stands there says this user, or on a connection nothing stands there
abbrev pub IsSaidIn : Source → Option Data → Option (List ℕ) → Type 0
IsSaidIn Script o None = ⊥
IsSaidIn Script o (Some name) = user.Is o name
IsSaidIn Connection o said = (o ≡ None) × (said ≡ None)

-- the member that says whose a message is
abbrev pub said_user : Source → Member (Option (List ℕ))
said_user source = record { name = user.name; value = said_in source; Is = IsSaidIn source }
