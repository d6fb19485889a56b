-- What is shown is each fact that a user is allowed, with what it says, and nothing else.
use Rattle.std.proofs.Common.{
  ◌≡◌,
  ℕ,
  ◌↔◌,
  Bool,
  true,
  false,
  cond,
  not,
  is_some,
  List,
  [],
  ◌∷◌,
  map,
  filter,
  Contains,
  find,
  refl,
  sym,
  ap,
  subst,
  ◌∙◌,
}
use Rattle.std.specs.Prelude.{Option, Some, None, option_map}
use Rattle.std.proofs.lemmas.Bool.{false≢true}
use Rattle.disclosure_rules.specs.declared.fact.Fact.{Fact}
use Rattle.disclosure_rules.specs.declared.rule.Rule.{Rule}
use Rattle.disclosure_rules.specs.declared.viewer.Viewer.{Viewer}
use Rattle.disclosure_rules.specs.Policy.{first_rule}
use Rattle.disclosure_rules.proofs.FirstLemmas.{none_forbids, no_first}
use Rattle.session_state.specs.SessionState.{SessionState, viewer_of}
use Rattle.session_queries.specs.Content.{Content, content}
use Rattle.session_queries.specs.Facts.{facts, same_fact}
use Rattle.session_queries.specs.Shown.{Shown, is_allowed, said, shown, content_shown}
use Rattle.session_queries.proofs.FactLemmas.{same_fact_is, fact_there}
use Rattle.published_view.specs.History.{IsAllowed, IsAllowedFact}
use Rattle.published_view.proofs.ElementLemmas.{contains_map, from_map, contains_filter, from_filter}
use Rattle.published_view.proofs.PlaceLemmas.{fact_in, fact_has}

module _ (state : SessionState) (user : List ℕ) where
  allowed_by : (asked : Fact) (found : Option Rule) → first_rule state.public (viewer_of state user) asked ≡ found →
      not (is_some found) ≡ true → IsAllowed state user asked
  allowed_by asked None none free = none_forbids state.public (viewer_of state user) asked none
  allowed_by asked (Some rule) found free = absurd (false≢true free)

  -- the test of the policy says that no rule forbids
  pub allowed_means : (asked : Fact) → is_allowed state.public (viewer_of state user) asked ≡ true →
      IsAllowed state user asked
  allowed_means asked free = allowed_by asked (first_rule state.public (viewer_of state user) asked) refl free

  is_item : (item : Shown) → item.content ≡ content state item.fact → said state item.fact ≡ item
  is_item item says = λ i. record { fact = item.fact; content = sym says i }

  -- what is shown is each allowed fact, and nothing else
  pub shown_exactly : (item : Shown) → Contains (shown state (viewer_of state user)) item ↔ IsAllowedFact state user
      item
  unfolding shown
  shown_exactly item = (only, each)
    where
      keeps : Fact → Bool
      keeps = is_allowed state.public (viewer_of state user)

      all : List Fact
      all = facts state.public.movement

      only : Contains (map (said state) (filter keeps all)) item → IsAllowedFact state user item
      only there =
          let of_fact = from_map (said state) (filter keeps all) item there in
          let kept = from_filter keeps all of_fact.0 of_fact.1 in
          subst (IsAllowedFact state user) of_fact.2
          (record {
            place = fact_has state.public.movement of_fact.0 kept.0;
            allowed = allowed_means of_fact.0 kept.1;
            says = refl;
          })

      each : IsAllowedFact state user item → Contains (map (said state) (filter keeps all)) item
      each allowed =
          let none = no_first state.public (viewer_of state user) item.fact allowed.allowed in
          subst (Contains (map (said state) (filter keeps all))) (is_item item allowed.says)
          (contains_map (said state) (filter keeps all) item.fact
          (contains_filter keeps all item.fact
          (fact_in all item.fact (fact_there state.public.movement item.fact allowed.place))
          (ap (λ rule. not (is_some rule)) none)))

-- what is shown of a fact is what it says
module _ (state : SessionState) (keeps : Fact → Bool) (asked : Fact) where
  -- of some facts with what they say, what the asked one says
  abbrev told_of : List Shown → Option Content
  told_of items = option_map (λ (item : Shown). item.content) (find (λ (item : Shown). same_fact item.fact asked) items)

  says_first : (b : Bool) (item : Fact) (rest : List Shown) (told : Content) → same_fact item asked ≡ b →
      (told_of rest ≡ Some told → told ≡ content state asked) →
      option_map (λ (item : Shown). item.content)
      (cond b (Some (said state item)) (find (λ (item : Shown). same_fact item.fact asked) rest)) ≡ Some told →
      told ≡ content state asked
  says_first true item rest told same later is =
      let here : content state item ≡ told = cc in sym here ∙ ap (content state) (same_fact_is item asked same)
  says_first false item rest told other later is = later is

  says_kept : (b : Bool) (item : Fact) (rest : List Fact) (told : Content) →
      (told_of (map (said state) rest) ≡ Some told → told ≡ content state asked) →
      told_of (map (said state) (cond b (item ∷ rest) rest)) ≡ Some told → told ≡ content state asked
  says_kept true item rest told later is = says_first (same_fact item asked) item (map (said state) rest) told refl
      later is
  says_kept false item rest told later is = later is

  says_own : (items : List Fact) (told : Content) → told_of (map (said state) (filter keeps items)) ≡ Some told →
      told ≡ content state asked
  says_own [] told is = absurd cc
  says_own (item ∷ items) told is = says_kept (keeps item) item (filter keeps items) told (says_own items told) is

pub shown_says : (state : SessionState) (viewer : Viewer) (asked : Fact) (told : Content) → content_shown
    (shown state viewer) asked ≡ Some told → told ≡ content state asked
unfolding shown content_shown
shown_says state viewer asked told is = says_own state (is_allowed state.public viewer) asked
    (facts state.public.movement) told is
