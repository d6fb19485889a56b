use Rattle.std.proofs.Common.{◌≡◌, map, drop}
use Rattle.std.specs.List.{list_any}
use Rattle.std.specs.Str.{bytes_eq}
use Rattle.json_fields.proofs.field.is_listed.Given as goal

-- the name is among all exactly if it is among those that are left
abbrev pub invariant-loop-other : goal.invariant-loop-other
invariant-loop-other l =
    list_any (λ other. bytes_eq other l.name) (map (λ other. other.now) (drop l.other-index l.listed)) ≡ list_any
    (λ other. bytes_eq other l.name) (map (λ other. other.now) l.listed)
