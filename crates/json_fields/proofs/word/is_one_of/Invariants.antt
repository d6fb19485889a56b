use Rattle.std.proofs.Common.{◌≡◌, map, drop}
use Rattle.std.specs.List.{list_any}
use Rattle.std.specs.Str.{bytes_eq}
use Rattle.json_fields.proofs.word.is_one_of.Given as goal

-- the word is one of all exactly if it is one of those that are left
abbrev pub invariant-loop-other : goal.invariant-loop-other
invariant-loop-other l =
    list_any (λ other. bytes_eq l.word other) (map (λ other. other.now) (drop l.other-index l.words)) ≡ list_any
    (λ other. bytes_eq l.word other) (map (λ other. other.now) l.words)
