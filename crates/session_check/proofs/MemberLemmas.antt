-- Which members of an object are read.
use Rattle.std.proofs.Common.{
  ◌≡◌,
  ◌<◌,
  ◌≤◌,
  ◌+◌,
  ℕ,
  true,
  false,
  ◌&&◌,
  List,
  [],
  ◌∷◌,
  length,
  drop,
  get_or,
  Option,
  Some,
  None,
  is_some,
  option_map,
  refl,
  sym,
  ap,
  ◌∙◌,
}
use Rattle.std.specs.List.{list_all}
use Rattle.std.specs.Option.{option_or}
use Rattle.std.proofs.lemmas.List.{drop_more, drop_all}
use Rattle.serde_json.specs.Data.{Data}
use Rattle.serde_json.specs.View.{view, items_view}
use Rattle.serde_json.specs.declared.value.Value.{Value}
use Rattle.session_roles.specs.declared.edition.Edition.{Edition}
use Rattle.json_fields.specs.Form.{each, first_then}
use Rattle.session_check.specs.Members.{of_user, user_misread, users_misread}
use Rattle.session_check.specs.declared.member.MemberAt.{MemberAt}

both_there : {A : Type 0} (first : Option A) (rest : Option (List A)) →
    is_some (first_then first rest) ≡ (is_some first && is_some rest)
both_there None None = refl
both_there None (Some xs) = refl
both_there (Some x) None = refl
both_there (Some x) (Some xs) = refl

-- a list is read where each element is
pub each_is_read : {A : Type 0} (read : Data → Option A) (values : List Value) →
    is_some (each read (items_view values)) ≡ list_all (λ value. is_some (read (view value))) values
each_is_read read [] = refl
each_is_read read (value ∷ values) =
    both_there (read (view value)) (each read (items_view values))
    ∙ ap (λ b. is_some (read (view value)) && b) (each_is_read read values)

-- the first misread member of a user at a place, or of one after it
users_step : (edition : Edition) (values : List Value) (place : ℕ) (value : Value) → place < length values →
    value ≡ get_or values place value →
    users_misread edition (place + 1) (items_view (drop place values))
    ≡ option_or (option_map (of_user (place + 1)) (user_misread edition (view value)))
    (users_misread edition (place + 1 + 1) (items_view (drop (place + 1) values)))
users_step edition values place value within is =
    ap (λ (list : List Value). users_misread edition (place + 1) (items_view list)) (drop_more values place value within)
    ∙ ap (λ (v : Value). option_or (option_map (of_user (place + 1)) (user_misread edition (view v)))
    (users_misread edition (place + 1 + 1) (items_view (drop (place + 1) values)))) (sym is)

first_there : (found rest : Option MemberAt) → is_some found ≡ true → option_or found rest ≡ found
first_there None rest there = absurd (cc)
first_there (Some at) rest there = refl

rest_there : (found rest : Option MemberAt) → is_some found ≡ false → option_or found rest ≡ rest
rest_there None rest there = refl
rest_there (Some at) rest there = absurd (cc)

module _ (edition : Edition) (values : List Value) (place : ℕ) (value : Value) (within : place < length values)
    (is : value ≡ get_or values place value) (found : Option MemberAt)
    (same : found ≡ option_map (of_user (place + 1)) (user_misread edition (view value))) where
  -- the user at the place has it
  pub users_first : is_some found ≡ true →
      users_misread edition (place + 1) (items_view (drop place values)) ≡ found
  users_first there =
      users_step edition values place value within is
      ∙ ap (λ (f : Option MemberAt). option_or f
      (users_misread edition (place + 1 + 1) (items_view (drop (place + 1) values)))) (sym same)
      ∙ first_there found (users_misread edition (place + 1 + 1) (items_view (drop (place + 1) values))) there

  -- or one after it, if any
  pub users_rest : is_some found ≡ false →
      users_misread edition (place + 1) (items_view (drop place values))
      ≡ users_misread edition (place + 1 + 1) (items_view (drop (place + 1) values))
  users_rest there =
      users_step edition values place value within is
      ∙ ap (λ (f : Option MemberAt). option_or f
      (users_misread edition (place + 1 + 1) (items_view (drop (place + 1) values)))) (sym same)
      ∙ rest_there found (users_misread edition (place + 1 + 1) (items_view (drop (place + 1) values))) there

-- past the last user there is none
pub users_end : (edition : Edition) (values : List Value) (place : ℕ) → length values ≤ place →
    users_misread edition (place + 1) (items_view (drop place values)) ≡ None
users_end edition values place end =
    ap (λ (list : List Value). users_misread edition (place + 1) (items_view list)) (drop_all place values end)
