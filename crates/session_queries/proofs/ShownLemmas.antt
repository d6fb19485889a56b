-- What is shown of a fact that the section has: what it says where no rule forbids it, and nothing elsewhere.
use Rattle.std.proofs.Common.{rules, ◌≡◌, ℕ, Bool, true, false, List, [], ◌∷◌, refl, sym, ap, ◌∙◌, inl, inr}
use Rattle.std.specs.Prelude.{Option, Some, None, cond, ◌||◌, not, is_some, map, filter}
use Rattle.std.specs.List.{find}
use Rattle.std.specs.Option.{option_map}
use Rattle.std.proofs.lemmas.Bool.{cases_Bool, false≢true}
use Rattle.disclosure_rules.specs.declared.fact.Fact.{Fact}
use Rattle.disclosure_rules.specs.declared.viewer.Viewer.{Viewer}
use Rattle.disclosure_rules.specs.Policy.{first_rule}
use Rattle.session_state.specs.SessionState.{SessionState}
use Rattle.session_queries.specs.Content.{Content, content}
use Rattle.session_queries.specs.Facts.{facts, same_fact, has_place}
use Rattle.session_queries.specs.Shown.{Shown, is_allowed, said, shown, content_shown}
use Rattle.session_queries.proofs.FactLemmas.{same_fact_is, same_fact_self, has_fact, fact_there}

module _ (state : SessionState) (keeps : Fact → Bool) (asked : Fact) where
  -- of some facts with what they say, what the asked one says
  abbrev found : List Shown → Option Content
  found items = option_map (λ (item : Shown). item.content) (find (λ (item : Shown). same_fact item.fact asked) items)

  -- of some facts those that are kept, with what they say
  abbrev kept : List Fact → List Shown
  kept items = map (said state) (filter keeps items)

  -- a fact that is left out of the kept ones isn't found, and one that isn't the asked one is passed over
  passed : (item : Fact) (b : Bool) (rest : List Fact) → same_fact item asked ≡ false →
      found (map (said state) (cond b (item ∷ rest) rest)) ≡ found (map (said state) rest)
  passed item true rest other = ap (λ b. option_map (λ (item : Shown). item.content)
      (cond b (Some (said state item)) (find (λ (item : Shown). same_fact item.fact asked) (map (said state) rest))))
      other
  passed item false rest other = refl

  -- a fact that isn't kept isn't found
  not_found : (items : List Fact) → keeps asked ≡ false → found (kept items) ≡ None
  not_found [] denied = refl
  not_found (item ∷ items) denied =
      elim (cases_Bool (same_fact item asked)) [
        | inl same ↦
            ap (λ b. found (map (said state) (cond b (item ∷ filter keeps items) (filter keeps items))))
            (ap keeps (same_fact_is item asked same) ∙ denied)
            ∙ not_found items denied
        | inr other ↦ passed item (keeps item) (filter keeps items) other ∙ not_found items denied
      ]

  -- a fact that is kept is found among facts that have it, with what it says
  is_found : (items : List Fact) → has_fact items asked ≡ true → keeps asked ≡ true → found (kept items) ≡ Some
      (content state asked)
  is_found [] there allowed = absurd (false≢true there)
  is_found (item ∷ items) there allowed =
      elim (cases_Bool (same_fact item asked)) [
        | inl same ↦
            let is : item ≡ asked = same_fact_is item asked same in
            ap (λ b. found (map (said state) (cond b (item ∷ filter keeps items) (filter keeps items))))
            (ap keeps is ∙ allowed)
            ∙ (ap (λ b. option_map (λ (item : Shown). item.content)
            (cond b (Some (said state item)) (find (λ (item : Shown). same_fact item.fact asked) (kept items))))
            same
            ∙ ap (λ f. Some (content state f)) is)
        | inr other ↦
            passed item (keeps item) (filter keeps items) other
            ∙ is_found items (sym (ap (λ b. b || has_fact items asked) other) ∙ there) allowed
      ]

module _ (state : SessionState) (viewer : Viewer) (asked : Fact) where
  -- what an allowed fact of the section says is shown
  pub content_allowed : has_place state.public.movement asked ≡ true → first_rule state.public viewer asked ≡ None →
      content_shown (shown state viewer) asked ≡ Some (content state asked)
  unfolding shown content_shown
  content_allowed has none =
      is_found state (is_allowed state.public viewer) asked (facts state.public.movement)
      (fact_there state.public.movement asked has)
      (ap (λ rule. not (is_some rule)) none)

  -- of a forbidden fact nothing is shown
  pub content_denied : is_allowed state.public viewer asked ≡ false → content_shown (shown state viewer) asked ≡ None
  unfolding shown content_shown
  content_denied denied = not_found state (is_allowed state.public viewer) asked (facts state.public.movement) denied
