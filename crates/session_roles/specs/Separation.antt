-- The sets of the static separation of duty of INCITS 359-2012.
use Rattle.std.specs.Prelude.{ℕ, Bool, ◌&&◌, List, [], ◌∷◌, codes}
use Rattle.session_roles.specs.declared.role.Role.{Role}
use Rattle.session_roles.specs.declared.role.Role.TheVariants.{
  Contestant,
  Scorer,
  Director,
  Administrator,
  Commentator,
}
use Rattle.session_roles.specs.declared.separation_set.SeparationSet.{SeparationSet}
use Rattle.session_roles.specs.declared.separation_set.SeparationSet.TheVariants.{S1, S2, S3, S4}
use Rattle.session_roles.specs.Role.{has}

-- the sets, in their order
abbrev pub separation_sets : List SeparationSet
separation_sets = S1 ∷ S2 ∷ S3 ∷ S4 ∷ []

-- a set's place among them, counted from 0
abbrev pub set_number : SeparationSet → ℕ
set_number S1 = 0
set_number S2 = 1
set_number S3 = 2
set_number S4 = 3

-- the two roles that a set keeps apart
abbrev pub apart : SeparationSet → Role × Role
apart S1 = (Director, Contestant)
apart S2 = (Scorer, Contestant)
apart S3 = (Administrator, Contestant)
apart S4 = (Commentator, Contestant)

abbrev pub set_name : SeparationSet → List ℕ
set_name S1 = codes "S1"
set_name S2 = codes "S2"
set_name S3 = codes "S3"
set_name S4 = codes "S4"

-- whether both roles of a set are among these
abbrev pub has_both : List Role → SeparationSet → Bool
has_both among set = has among (apart set).0 && has among (apart set).1
