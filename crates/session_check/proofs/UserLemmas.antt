-- For which user a session isn't opened.
use Rattle.std.proofs.Common.{
  ◌≡◌,
  ℕ,
  ◌+◌,
  ◌≤◌,
  Bool,
  true,
  false,
  List,
  [],
  ◌∷◌,
  ◌++◌,
  length,
  take,
  drop,
  Option,
  Some,
  None,
  refl,
  sym,
  ap,
  subst,
  ◌∙◌,
  append-nil,
  append_assoc,
  arith,
  zero,
  suc,
  inl,
  inr,
}
use Rattle.std.specs.Prelude.{not}
use Rattle.std.specs.Bool.{then_some}
use Rattle.std.specs.Option.{option_or}
use Rattle.std.proofs.lemmas.Bool.{cases_lt}
use Rattle.std.proofs.lemmas.List.{take-append-drop, take_all}
use Rattle.movement.specs.Movement.{Section}
use Rattle.session_roles.specs.declared.edition.Edition.{Edition}
use Rattle.session_state.specs.Accounts.{has_administrator}
use Rattle.session_state.specs.Refusal.{first_cause}
use Rattle.session_opening.specs.Opening.{opening_roles}
use Rattle.session_opening.specs.OpeningRefusal.{user_causes, users_causes, opening_refusal}
use Rattle.session_opening.specs.declared.config.Config.{Config}
use Rattle.session_opening.specs.declared.new_user.NewUser.{NewUser}
use Rattle.session_opening.specs.declared.opening_refusal.OpeningRefusal.{OpeningRefusal}
use Rattle.session_opening.specs.declared.opening_refusal.OpeningRefusal.TheVariants.{LastAdministrator}
use Rattle.session_opening.proofs.OpeningRefusalLemmas.{first_append}
use Rattle.session_check.specs.Users.{with_users, with_first, is_of_user, IsRefusedUser}

-- with no users there is no refusal of a user
pub of_nobody : (config : Config) → is_of_user (opening_refusal (with_users config [])) ≡ false
unfolding opening_refusal
of_nobody config = refl

-- nor with so many as nought
pub of_none_at_first : (config : Config) (fewer : ℕ) → fewer ≤ 0 →
    is_of_user (opening_refusal (with_first config fewer)) ≡ false
of_none_at_first config zero below = of_nobody config
of_none_at_first config (suc k) below = absurd (omega (arith, below))

-- nor with one user more, where there is none with that one
pub of_none_more : (config : Config) (many : ℕ) →
    ((fewer : ℕ) → fewer ≤ many → is_of_user (opening_refusal (with_first config fewer)) ≡ false) →
    is_of_user (opening_refusal (with_first config (many + 1))) ≡ false →
    (fewer : ℕ) → fewer ≤ many + 1 → is_of_user (opening_refusal (with_first config fewer)) ≡ false
of_none_more config many none next fewer below = elim (cases_lt fewer (many + 1)) [
  | inl less ↦ none fewer (omega (arith, less))
  | inr over ↦ let same : many + 1 ≡ fewer = omega (arith, over, below) in
      subst (λ k. is_of_user (opening_refusal (with_first config k)) ≡ false) same next
]

-- nor with all, where there is none with as many
pub of_none_of_all : (config : Config) (many : ℕ) → length config.users ≤ many →
    is_of_user (opening_refusal (with_first config many)) ≡ false → is_of_user (opening_refusal config) ≡ false
of_none_of_all config many all none =
    subst (λ (users : List NewUser). is_of_user (opening_refusal (with_users config users)) ≡ false)
    (take_all many config.users all) none

-- the causes of users are those of the first ones, and then those of the others
users_more : (edition : Edition) (movement : Section) (before xs ys : List NewUser) →
    users_causes edition movement before (xs ++ ys)
    ≡ users_causes edition movement before xs ++ users_causes edition movement (before ++ xs) ys
users_more edition movement before [] ys =
    ap (λ list. users_causes edition movement list ys) (sym (append-nil before))
users_more edition movement before (x ∷ xs) ys =
    ap (λ causes. user_causes edition movement before x ++ causes)
    (users_more edition movement (before ++ x ∷ []) xs ys
    ∙ ap (λ list. users_causes edition movement (before ++ x ∷ []) xs ++ users_causes edition movement list ys)
    (append_assoc before (x ∷ []) xs))
    ∙ sym (append_assoc (user_causes edition movement before x) (users_causes edition movement (before ++ x ∷ []) xs)
    (users_causes edition movement (before ++ x ∷ xs) ys))

-- ---- a refusal of the first users is that of all

abbrev last_cause : Config → List (Option OpeningRefusal)
last_cause config = then_some (not (has_administrator (opening_roles config.edition config.users))) LastAdministrator ∷ []

abbrev of_users : Config → List NewUser → Option OpeningRefusal
of_users config users = first_cause (users_causes config.edition config.movement [] users)

refusal_parts : (config : Config) → opening_refusal config ≡ option_or (of_users config config.users)
    (first_cause (last_cause config))
unfolding opening_refusal
refusal_parts config = first_append (users_causes config.edition config.movement [] config.users) (last_cause config)

-- that nobody is an administrator is no refusal of a user
last_of_nobody : (b : Bool) → is_of_user (first_cause (then_some b LastAdministrator ∷ [])) ≡ false
last_of_nobody true = refl
last_of_nobody false = refl

-- a first refusal of users stays the first, whatever follows
stays : (found : Option OpeningRefusal) (rest last more : Option OpeningRefusal) → is_of_user last ≡ false
    → is_of_user (option_or found last) ≡ true → option_or found last ≡ option_or (option_or found rest) more
stays None rest last more nobody refused = absurd (cc)
stays (Some cause) rest last more nobody refused = refl

parts_more : (config : Config) (n : ℕ) → of_users config config.users ≡ option_or (of_users config (take n config.users))
    (first_cause (users_causes config.edition config.movement ([] ++ take n config.users) (drop n config.users)))
parts_more config n =
    ap (of_users config) (sym (take-append-drop n config.users))
    ∙ ap first_cause (users_more config.edition config.movement [] (take n config.users) (drop n config.users))
    ∙ first_append (users_causes config.edition config.movement [] (take n config.users))
    (users_causes config.edition config.movement ([] ++ take n config.users) (drop n config.users))

pub first_refuse : (config : Config) (n : ℕ) → is_of_user (opening_refusal (with_first config n)) ≡ true
    → opening_refusal (with_first config n) ≡ opening_refusal config
first_refuse config n refused =
    let first = refusal_parts (with_first config n) in
    let rest = first_cause (users_causes config.edition config.movement ([] ++ take n config.users) (drop n config.users)) in
    first
    ∙ stays (of_users config (take n config.users)) rest (first_cause (last_cause (with_first config n)))
    (first_cause (last_cause config))
    (last_of_nobody (not (has_administrator (opening_roles config.edition (take n config.users)))))
    (ap is_of_user (sym first) ∙ refused)
    ∙ sym (refusal_parts config ∙ ap (λ found. option_or found (first_cause (last_cause config))) (parts_more config n))

pub refused_as_all : (config : Config) (place : ℕ) → IsRefusedUser config place →
    opening_refusal (with_first config (place + 1)) ≡ opening_refusal config
refused_as_all config place is = first_refuse config (place + 1) is.refused
