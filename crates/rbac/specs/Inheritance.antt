-- The role hierarchy (hierarchical RBAC of INCITS 359-2012): which roles a role inherits, by the pairs that were added.
use Rattle.std.specs.Prelude.{◌≡◌, ℕ, zero, suc, Bool, ◌||◌, ◌&&◌, not, List, [], ◌∷◌, ◌++◌, map, filter, Contains}
use Rattle.std.specs.List.{flat_map}
use Rattle.session_roles.specs.declared.edition.Edition.{Edition}
use Rattle.session_roles.specs.declared.role.Role.{Role}
use Rattle.session_roles.specs.declared.role.Role.TheVariants.{Member}
use Rattle.rbac.specs.declared.inheritance.Inheritance.{Inheritance}
use Rattle.rbac.specs.declared.roles.TheConstants.Roles.{MOST_PAIRS}
use Rattle.session_roles.specs.Role.{is_role_of, roles, same_role}
use Rattle.session_roles.specs.RoleRow.{role_row}

-- the pair in which the senior inherits the junior
abbrev pub pair_of : Role → Role → Inheritance
pair_of senior junior = record { senior = senior; junior = junior }

-- a chain of so many pairs leads down from the senior to the junior
abbrev pub Chain : List Inheritance → ℕ → Role → Role → Type 0
Chain pairs zero senior junior = senior ≡ junior
Chain pairs (suc n) senior junior =
    (middle : Role) × Contains pairs (pair_of senior middle) × Chain pairs n middle junior

-- a chain of zero or more pairs leads down from the senior to the junior
abbrev pub Reaches : List Inheritance → Role → Role → Type 0
Reaches pairs senior junior = (n : ℕ) × Chain pairs n senior junior

-- no role inherits itself by a chain of one or more pairs
abbrev pub IsAcyclic : List Inheritance → Type 0
IsAcyclic pairs = (role : Role) (n : ℕ) → ¬ Chain pairs (suc n) role role

-- how many pairs there are at most: each role over each
abbrev pub most_pairs : ℕ
most_pairs = MOST_PAIRS

-- the pairs that the rows of an edition's roles tell, in the order of the senior roles
abbrev pub told_pairs : Edition → List Inheritance
told_pairs edition =
    flat_map (λ senior. map (pair_of senior) (role_row senior).juniors) (filter (is_role_of edition) roles)

-- whether the junior role is Member
abbrev pub is_over_members : Inheritance → Bool
is_over_members pair = same_role pair.junior Member

-- the pairs of a new session, in their order: those over members, and then the others
unfoldable pub opening_pairs : Edition → List Inheritance
opening_pairs edition =
    filter is_over_members (told_pairs edition) ++ filter (λ pair. not (is_over_members pair)) (told_pairs edition)

-- whether two pairs are one
abbrev pub same_inheritance : Inheritance → Inheritance → Bool
same_inheritance a b = same_role a.senior b.senior && same_role a.junior b.junior

-- the pairs without one of them
abbrev pub without_pair : List Inheritance → Inheritance → List Inheritance
without_pair pairs pair = filter (λ other. not (same_inheritance other pair)) pairs

-- whether a chain leads down, pair by pair: it does without the first pair, or down to that pair and on from it
unfoldable pub reaches : List Inheritance → Role → Role → Bool
reaches [] senior junior = same_role senior junior
reaches (pair ∷ pairs) senior junior =
    reaches pairs senior junior || (reaches pairs senior pair.senior && reaches pairs pair.junior junior)
