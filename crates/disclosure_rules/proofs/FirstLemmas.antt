-- The first rule that forbids a fact, as the one value that the list of the rules gives.
use Rattle.std.proofs.Common.{
  ◌≡◌,
  ℕ,
  zero,
  suc,
  ◌<◌,
  Bool,
  true,
  false,
  List,
  [],
  ◌∷◌,
  length,
  get_or,
  refl,
  sym,
  ap,
  ◌∙◌,
  subst,
  arith,
  inl,
  inr,
}
use Rattle.std.specs.Prelude.{Option, Some, None, cond, ◌&&◌, if◌then◌else◌}
use Rattle.std.specs.Option.{unwrap_or}
use Rattle.std.specs.List.{find}
use Rattle.std.proofs.lemmas.Bool.{cases_Bool, false≢true}
use Rattle.session_roles.specs.declared.edition.Edition.{Edition}
use Rattle.session_roles.specs.declared.edition.Edition.TheVariants.{First}
use Rattle.session_roles.specs.declared.role.Role.TheVariants.{Director}
use Rattle.session_roles.specs.Edition.{is_second}
use Rattle.disclosure_rules.specs.declared.fact.Fact.{Fact}
use Rattle.disclosure_rules.specs.declared.fact.Fact.TheVariants.{Hands}
use Rattle.disclosure_rules.specs.declared.fact.Fact.TheVariants as the_fact
use Rattle.disclosure_rules.specs.declared.public.Public.{Public}
use Rattle.disclosure_rules.specs.declared.rule.Rule.{Rule}
use Rattle.disclosure_rules.specs.declared.rule.Rule.TheVariants.{
  NoAccount,
  NotAMember,
  AccountsAreClosed,
  SessionIsEmbargoed,
  BoardIsHeld,
  StillToPlay,
  OthersStillPlay,
  NeitherContestantNorSpectator,
  BoardIsIncomplete,
  AnalysisWaits,
  PlayWaits,
  ReasonIsForThePairs,
  NoResult,
}
use Rattle.disclosure_rules.specs.declared.viewer.Viewer.{Viewer}
use Rattle.disclosure_rules.specs.Fact.{board_of_fact}
use Rattle.disclosure_rules.specs.Policy.{
  is_authorized,
  is_embargoed,
  guarded,
  guarding,
  forbids,
  rules,
  rule_place,
  rule_number,
  first_rule,
}
use Rattle.disclosure_rules.specs.Seating.{some_that}
use Rattle.disclosure_rules.proofs.RuleLemmas.{at_place, place_within, place_at, numbered, earlier}

-- an element that passes a test where no element before it does is the one that is found
pub find_place : {X : Type 0} (p : X → Bool) (xs : List X) (k : ℕ) (d : X) → k < length xs → p (get_or xs k d) ≡ true →
    ((j : ℕ) → j < k → p (get_or xs j d) ≡ false) → find p xs ≡ Some (get_or xs k d)
find_place p [] k d below passes least = absurd (omega arith)
find_place p (x ∷ xs) zero d below passes least = ap (λ b. cond b (Some x) (find p xs)) passes
find_place p (x ∷ xs) (suc k) d below passes least =
    ap (λ b. cond b (Some x) (find p xs)) (least 0 (omega arith))
    ∙ find_place p xs k d (omega arith) passes (λ j before. least (suc j) (omega arith))

-- where no element passes, none is found
pub find_none : {X : Type 0} (p : X → Bool) (xs : List X) (d : X) →
    ((j : ℕ) → j < length xs → p (get_or xs j d) ≡ false) → find p xs ≡ None
find_none p [] d none = refl
find_none p (x ∷ xs) d none =
    ap (λ b. cond b (Some x) (find p xs)) (none 0 (omega arith)) ∙ find_none p xs d
    (λ j below. none (suc j) (omega arith))

-- where the found element stands, and that no element before it passes
pub record IsFound {X : Type 0} (p : X → Bool) (xs : List X) (d x : X) : Type 0 where
  pub place : ℕ
  pub below : place < length xs
  pub here : get_or xs place d ≡ x
  pub passes : p x ≡ true
  pub least : (j : ℕ) → j < place → p (get_or xs j d) ≡ false

-- an element that is found has such a place
pub found_at : {X : Type 0} (p : X → Bool) (xs : List X) (d x : X) → find p xs ≡ Some x → IsFound p xs d x
found_at p [] d x found = absurd (cc)
found_at p (y ∷ xs) d x found =
    elim (cases_Bool (p y)) [
      | inl passes ↦ here passes
      | inr fails ↦ later fails (found_at p xs d x (sym (ap (λ b. cond b (Some y) (find p xs)) fails) ∙ found))
    ]
  where
    here : p y ≡ true → IsFound p (y ∷ xs) d x
    here passes =
        let same : y ≡ x = ap (λ o. unwrap_or o y) (sym (ap (λ b. cond b (Some y) (find p xs)) passes) ∙ found) in
        record {
          place = 0;
          below = omega arith;
          here = same;
          passes = subst (λ z. p z ≡ true) same passes;
          least =
              λ j before. absurd (omega arith);
        }

    later : p y ≡ false → IsFound p xs d x → IsFound p (y ∷ xs) d x
    later fails rest = record {
      place = suc rest.place;
      below = omega (arith, rest.below);
      here = rest.here;
      passes = rest.passes;
      least = λ j before. before_it j before;
    }
      where
        before_it : (j : ℕ) → j < suc rest.place → p (get_or (y ∷ xs) j d) ≡ false
        before_it zero before = fails
        before_it (suc j) before = rest.least j (omega arith)

-- what is found is not none
found_is_not_none : {X : Type 0} (x : X) → ¬ (Some x ≡ None)
found_is_not_none x same = absurd (cc)

-- where none is found, no element passes
pub none_found : {X : Type 0} (p : X → Bool) (xs : List X) (d : X) → find p xs ≡ None → (j : ℕ) → j < length xs →
    p (get_or xs j d) ≡ false
none_found p [] d none j below = absurd (omega arith)
none_found p (y ∷ xs) d none zero below =
    elim (cases_Bool (p y)) [
      | inl passes ↦ absurd (found_is_not_none y (sym (ap (λ b. cond b (Some y) (find p xs)) passes) ∙ none))
      | inr fails ↦ fails
    ]
none_found p (y ∷ xs) d none (suc j) below =
    elim (cases_Bool (p y)) [
      | inl passes ↦ absurd (found_is_not_none y (sym (ap (λ b. cond b (Some y) (find p xs)) passes) ∙ none))
      | inr fails ↦ none_found p xs d (sym (ap (λ b. cond b (Some y) (find p xs)) fails) ∙ none) j (omega arith)
    ]

module _ (public : Public) (viewer : Viewer) (fact : Fact) where
  -- whether a rule forbids the fact
  abbrev test : Rule → Bool
  test rule = forbids rule public viewer fact

  -- a rule that forbids where none before it does is the first
  pub first_at : (place : ℕ) → place < length rules → test (get_or rules place NoAccount) ≡ true →
      ((k : ℕ) → k < place → test (get_or rules k NoAccount) ≡ false) → Some (get_or rules place NoAccount) ≡ first_rule
      public viewer fact
  unfolding first_rule
  first_at place below forbidden least = sym (find_place test rules place NoAccount below forbidden least)

  -- where no rule forbids, there is no first
  pub no_first : ((rule : Rule) → test rule ≡ false) → first_rule public viewer fact ≡ None
  unfolding first_rule
  no_first allowed = find_none test rules NoAccount (λ k below. allowed _)

  -- where each place has a rule that doesn't forbid, there is none either
  pub no_first_at : ((k : ℕ) → k < length rules → test (get_or rules k NoAccount) ≡ false) → None ≡ first_rule public
      viewer fact
  unfolding first_rule
  no_first_at allowed = sym (find_none test rules NoAccount allowed)

  -- the first rule forbids
  pub first_forbids : (rule : Rule) → first_rule public viewer fact ≡ Some rule → test rule ≡ true
  unfolding first_rule
  first_forbids rule found = let first : IsFound test rules NoAccount rule = found_at test rules NoAccount rule found in
      first.passes

  -- a test that fails guards nothing
  fails_all : (f : Fact) (asked : ℕ → Bool) → ((b : ℕ) → asked b ≡ false) → guarding viewer f asked ≡ false
  fails_all f asked never = either (is_authorized viewer.roles Director) (board_of_fact f)
    where
      either : (director : Bool) (o : Option ℕ) → some_that (if director then None else o) asked ≡ false
      either true o = refl
      either false None = refl
      either false (Some b) = never b

  -- the rule that the first edition is without never forbids there
  pub no_embargo : (rule : Rule) → (public.edition ≡ First) × (rule ≡ SessionIsEmbargoed) → test rule ≡ false
  no_embargo rule (first, is) =
      ap test is
      ∙ fails_all fact (λ _. is_embargoed public) (λ _. ap (λ (edition : Edition). is_second edition && public.embargo)
      first)

  -- and no rule with a lower number does
  pub none_before : (rule other : Rule) → first_rule public viewer fact ≡ Some rule →
      rule_number public.edition other < rule_number public.edition rule → test other ≡ false
  unfolding first_rule
  none_before rule other found less =
      elim (earlier public.edition other rule less) [
        | inl without ↦ no_embargo other without
        | inr before ↦ at_earlier before
      ]
    where
      at_earlier : rule_place other < rule_place rule → test other ≡ false
      at_earlier before =
          let first : IsFound test rules NoAccount rule = found_at test rules NoAccount rule found in
          let place : rule_place rule ≡ first.place = ap rule_place (sym first.here)
          ∙ place_at first.place NoAccount first.below in
          subst (λ r. test r ≡ false) (at_place other) (first.least (rule_place other) (omega (arith, before, place)))

  -- the first rule is one that the edition has
  pub first_numbered : (rule : Rule) → first_rule public viewer fact ≡ Some rule →
      0 < rule_number public.edition rule
  first_numbered rule found =
      elim (numbered public.edition rule) [
        | inl without ↦ absurd (false≢true (sym (no_embargo rule without) ∙ first_forbids rule found))
        | inr has_number ↦ has_number
      ]

  -- where there is no first, no rule forbids
  pub none_forbids : first_rule public viewer fact ≡ None → (rule : Rule) → test rule ≡ false
  unfolding first_rule
  none_forbids none rule =
      subst (λ r. test r ≡ false) (at_place rule) (none_found test rules NoAccount none (rule_place rule)
      (omega (arith, place_within rule)))

  -- what belongs to no board or table is guarded from nobody
  unguarded : {A : Type 0} (asked : A → Bool) → some_that (guarded viewer None) asked ≡ false
  unguarded {A} asked = either (is_authorized viewer.roles Director)
    where
      nobody : Option A
      nobody = None

      either : (director : Bool) → some_that (if director then nobody else nobody) asked ≡ false
      either true = refl
      either false = refl

  -- where some fact is allowed, so is what every member may see
  pub public_allowed : first_rule public viewer fact ≡ None → first_rule public viewer the_fact.Public ≡ None
  unfolding first_rule
  public_allowed none = find_none (λ r. forbids r public viewer the_fact.Public) rules NoAccount
      (λ k below. of_public _)
    where
      of_public : (r : Rule) → forbids r public viewer the_fact.Public ≡ false
      of_public NoAccount = none_forbids none NoAccount
      of_public NotAMember = none_forbids none NotAMember
      of_public AccountsAreClosed = refl
      of_public SessionIsEmbargoed = unguarded _
      of_public BoardIsHeld = unguarded _
      of_public StillToPlay = unguarded _
      of_public OthersStillPlay = unguarded _
      of_public NeitherContestantNorSpectator = unguarded _
      of_public BoardIsIncomplete = unguarded _
      of_public AnalysisWaits = unguarded _
      of_public PlayWaits = unguarded _
      of_public ReasonIsForThePairs = unguarded _
      of_public NoResult = unguarded _

  -- where a fact of a board is allowed, so are its hands: they are forbidden by rules that look at the board alone
  pub hands_allowed : (board : ℕ) → board_of_fact fact ≡ Some board → first_rule public viewer fact ≡ None →
      first_rule public viewer (Hands board) ≡ None
  unfolding first_rule
  hands_allowed board of_board none = find_none (λ r. forbids r public viewer (Hands board)) rules NoAccount
      (λ k below. of_hands _)
    where
      guarded_same : (asked : ℕ → Bool) → guarding viewer (Hands board) asked ≡ guarding viewer fact asked
      guarded_same asked = ap (λ (o : Option ℕ). some_that (guarded viewer o) asked) (sym of_board)

      allowed : (r : Rule) → test r ≡ false
      allowed r = none_forbids none r

      of_hands : (r : Rule) → forbids r public viewer (Hands board) ≡ false
      of_hands NoAccount = allowed NoAccount
      of_hands NotAMember = allowed NotAMember
      of_hands AccountsAreClosed = refl
      of_hands SessionIsEmbargoed = guarded_same _ ∙ allowed SessionIsEmbargoed
      of_hands BoardIsHeld = guarded_same _ ∙ allowed BoardIsHeld
      of_hands StillToPlay = guarded_same _ ∙ allowed StillToPlay
      of_hands OthersStillPlay = guarded_same _ ∙ allowed OthersStillPlay
      of_hands NeitherContestantNorSpectator = guarded_same _ ∙ allowed NeitherContestantNorSpectator
      of_hands BoardIsIncomplete = guarded_same _ ∙ allowed BoardIsIncomplete
      of_hands AnalysisWaits = fails_all (Hands board) _ (λ b. refl)
      of_hands PlayWaits = unguarded _
      of_hands ReasonIsForThePairs = unguarded _
      of_hands NoResult = unguarded _
