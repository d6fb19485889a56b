-- Roles by their names, one after another.
use Rattle.std.proofs.Common.{ℕ, List, [], ◌∷◌, ◌++◌, refl, sym, subst}
use Rattle.std.specs.Char.{is_not_whitespace}
use Rattle.std.specs.Str.{NoCharPasses}
use Rattle.session_roles.specs.declared.role.Role.{Role}
use Rattle.session_roles.specs.Role.{role_name}
use Rattle.people_list.specs.Roles.{BeginsWithWord, NamesRoles, BeginsWithRoles}

-- one name more
pub one_name_more : (text : List ℕ) (roles : List Role) (left : List ℕ) (role : Role) (rest : List ℕ)
    → BeginsWithRoles text roles left → BeginsWithWord left (role_name role) rest → BeginsWithRoles text (roles ++ role ∷ []) rest
one_name_more text [] left role rest named begins =
    (rest, subst (λ (t : List ℕ). BeginsWithWord t (role_name role) rest) (sym named) begins, refl)
one_name_more text (first ∷ roles) left role rest named begins =
    (named.0, named.1, one_name_more named.0 roles left role rest named.2 begins)

-- and no more
pub all_named : (text : List ℕ) (roles : List Role) (left : List ℕ) → BeginsWithRoles text roles left
    → NoCharPasses is_not_whitespace left → NamesRoles text roles
all_named text [] left named blank = subst (λ (t : List ℕ). NoCharPasses is_not_whitespace t) (sym named) blank
all_named text (role ∷ roles) left named blank = (named.0, named.1, all_named named.0 roles left named.2 blank)
