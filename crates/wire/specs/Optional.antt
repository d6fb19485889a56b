-- Members that may be left out.
use Rattle.std.specs.Prelude.{◌≡◌, Option, Some, None}
use Rattle.serde_json.specs.Data.{Data}
use Rattle.json_fields.specs.Form.{Member}

-- what is read of what stands there, and this value where nothing does
abbrev pub read_or : {A : Type 0} → A → (Option Data → Option A) → Option Data → Option A
read_or default read None = Some default
read_or default read (Some d) = read (Some d)

-- what stands there is the value, or nothing does and it is this one
abbrev pub IsOr : {A : Type 0} → A → (Option Data → A → Type 0) → Option Data → A → Type 0
IsOr default Is None x = x ≡ default
IsOr default Is (Some d) x = Is (Some d) x

-- a member that has this value where it is left out
abbrev pub optional : {A : Type 0} → A → Member A → Member A
optional default m = record { name = m.name; value = read_or default m.value; Is = IsOr default m.Is }
