-- The editions of the policy. What the first one knows, the second one knows too.
use Rattle.std.specs.Prelude.{ℕ, Bool, true, false, nat_eq}
use Rattle.session_roles.specs.declared.edition.Edition.{Edition}
use Rattle.session_roles.specs.declared.edition.Edition.TheVariants.{First, Second}

-- an edition's number
abbrev pub edition_number : Edition → ℕ
edition_number First = 1
edition_number Second = 2

-- whether it is the second edition
abbrev pub is_second : Edition → Bool
is_second First = false
is_second Second = true

-- whether an edition has what came with another: the first has only its own, the second has all
abbrev pub has_what_came_with : Edition → Edition → Bool
has_what_came_with edition First = true
has_what_came_with edition Second = is_second edition

-- whether two editions are one
abbrev pub same_edition : Edition → Edition → Bool
same_edition a b = nat_eq (edition_number a) (edition_number b)
