-- The sets of roles of one user of each class.
use Rattle.std.proofs.Common.{◌≡◌, refl}
use Rattle.std.specs.Prelude.{[], ◌∷◌}
use Rattle.session_roles.specs.Role.{roles_that, with_role}
use Rattle.session_roles.specs.declared.role.Role.TheVariants.{Member, Spectator, Contestant, Director, Commentator}

pub member_and_contestant : with_role (with_role [] Member) Contestant ≡ Member ∷ Contestant ∷ []
unfolding roles_that
member_and_contestant = refl

pub member_and_spectator : with_role (with_role [] Member) Spectator ≡ Member ∷ Spectator ∷ []
unfolding roles_that
member_and_spectator = refl

pub member_and_director : with_role (with_role [] Member) Director ≡ Member ∷ Director ∷ []
unfolding roles_that
member_and_director = refl

pub member_spectator_and_commentator : with_role (with_role (with_role [] Member) Spectator) Commentator ≡
    Member ∷ Spectator ∷ Commentator ∷ []
unfolding roles_that
member_spectator_and_commentator = refl
