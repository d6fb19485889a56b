-- A line behind the end of one that was cut off.
use Rattle.std.proofs.Common.{◌≡◌, ◌∙◌, ℕ, List, [], ◌∷◌, ◌++◌, ap}
use Rattle.std.specs.Prelude.{Option}
use Rattle.std.specs.Io.KnownBytes.{Appends}
use Rattle.std.proofs.KnownBytes.{Appends-trans}
use Rattle.std.proofs.lemmas.List.{append_assoc}
use Rattle.script_lines.specs.Writing.{WritesPart}

-- both are whole
pub whole_behind : (before ended after : Option (List ℕ)) (line : List ℕ)
    → Appends before ended (10 ∷ []) → Appends ended after line → Appends before after (10 ∷ line)
whole_behind before ended after line first rest = Appends-trans before ended after (10 ∷ []) line first rest

-- the line is cut off again
pub part_behind : (before ended after : Option (List ℕ)) (line : List ℕ)
    → Appends before ended (10 ∷ []) → WritesPart ended after line → WritesPart before after (10 ∷ line)
part_behind before ended after line first rest = record {
  part = 10 ∷ rest.part;
  missing = rest.missing;
  split = ap (λ (bytes : List ℕ). 10 ∷ bytes) rest.split;
  appended = Appends-trans before ended after (10 ∷ []) rest.part first rest.appended;
}

-- the end isn't written
pub part_at_once : (before after : Option (List ℕ)) (line : List ℕ)
    → WritesPart before after (10 ∷ []) → WritesPart before after (10 ∷ line)
part_at_once before after line first = record {
  part = first.part;
  missing = first.missing ++ line;
  split = ap (λ (bytes : List ℕ). bytes ++ line) first.split ∙ append_assoc first.part first.missing line;
  appended = first.appended;
}
